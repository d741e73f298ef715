use Rattle.coap_forward.proofs.Forms.{sent-screened}
use Rattle.coap_model.proofs.laws.forwarding_needs_no_place.Goals as goal

pub returns : goal.returns
returns c = sent-screened
