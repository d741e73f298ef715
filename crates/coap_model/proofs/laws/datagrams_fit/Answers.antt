use Rattle.coap_model.proofs.DatagramsFit.{datagrams_fit}
use Rattle.coap_model.proofs.laws.datagrams_fit.Goals as goal

pub returns : goal.returns
returns c = record { fits = datagrams_fit }
