use Rattle.coap_model.proofs.PromisesHold.{promises}
use Rattle.coap_model.proofs.laws.what_is_carried_is_promised.Goals as goal

pub returns : goal.returns
returns c = record { promised = promises }
