use Rattle.coap_option.proofs.Picking.{added-next}
use Rattle.coap_option.proofs.places.select_into.Goals as goal

pub loop-option-preserved : goal.loop-option-preserved
loop-option-preserved g c = rw c.in_ok-push.ensures.ok (added-next _ _ _ _ _ c.in-Some.ensures.steps c.loop-option.invariant.0 c.loop-option.invariant.1)
