use Rattle.std.proofs.Common.{inr, refl, sym, ◌∙◌, arith}
use Rattle.coap_message.proofs.Runs.{from-few, from-in_order}
use Rattle.coap_option.proofs.Picking.{none_passed, picked-all, picked-from, selected-in_order}
use Rattle.coap_option.proofs.places.Picked.of.Goals as goal

pub invariant_of-result : goal.invariant_of-result
invariant_of-result g c =
    rw (c.iter_from.ensures.list, c.new.ensures)
    (record { in_order = from-in_order c.numbers-least.result.0 0 c.args.options.now c.iter_from.ensures.in_order; within = omega (arith, from-few c.numbers-least.result.0 c.args.options.now, c.iter_from.ensures.few) }, refl)

pub returns-clause-list : goal.returns-clause-list
returns-clause-list g c =
    rw (c.iter_from.ensures.list, c.new.ensures)
    (sym (picked-from (g.T.Test.holds c.args.test.now) c.numbers-least.result.0 c.numbers-least.result.1 c.numbers-least.ensures 0 none_passed c.args.options.now c.iter_from.ensures.in_order (inr refl)) ∙ picked-all (g.T.Test.holds c.args.test.now) c.args.options.now c.iter_from.ensures.in_order)

pub returns-clause-in_order : goal.returns-clause-in_order
returns-clause-in_order g c = selected-in_order (g.T.Test.holds c.args.test.now) c.args.options.now c.iter_from.ensures.in_order
