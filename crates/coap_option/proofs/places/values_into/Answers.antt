use Rattle.std.proofs.Common.{filter}
use Rattle.coap_option.specs.Places.{places}
use Rattle.coap_option.proofs.Picking.{value-added, values-selected}
use Rattle.coap_option.proofs.places.values_into.Goals as goal

pub loop-option-init : goal.loop-option-init
loop-option-init g c = rw (c.into_iter-option-iterator.ensures.into_iter_gives, c.of-option-items.ensures.list, c.clear.ensures) (values-selected (filter (g.T.Test.holds c.args.test.now) (places c.args.options.now)))

pub loop-option-preserved : goal.loop-option-preserved
loop-option-preserved g c = rw c.in_ok-push.ensures.ok (value-added _ _ _ _ _ c.loop-option.invariant c.in-Some.ensures.steps)
