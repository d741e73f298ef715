use Rattle.coap_model.proofs.AllCases.{keeps_step}
use Rattle.coap_model.proofs.laws.steps_are_carried.Goals as goal

pub returns : goal.returns
returns c = record { carried = keeps_step }
