use Rattle.coap_model.proofs.AllCases.{starts}
use Rattle.coap_model.proofs.laws.new_proxies_carry_nothing.Goals as goal

pub returns : goal.returns
returns c = record { carried = starts }
