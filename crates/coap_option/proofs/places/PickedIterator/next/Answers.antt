use Rattle.std.proofs.Common.{sym, ◌∙◌}
use Rattle.coap_message.specs.OptRef.{seen}
use Rattle.coap_option.proofs.Picking.{IsAt-ends, picked-ends}
use Rattle.coap_option.proofs.places.PickedIterator.next.Goals as goal

pub invariant_of-self : goal.invariant_of-self
invariant_of-self g c = (IsAt-ends c.loop-option.self-inside.left c.next.new.self (seen c.in-Some.option) c.loop-option.self-inside.run c.in-Some.ensures.steps c.loop-option.invariant.1, c.loop-option.invariant.2)

pub returns-then-option-greatest-clause-steps : goal.returns-then-option-greatest-clause-steps
returns-then-option-greatest-clause-steps g c =
    let ends = picked-ends (g.T.Test.holds c.loop-option.self-inside.test.now) c.numbers-least.result.0 c.numbers-least.result.1 c.numbers-least.ensures c.loop-option.self-inside.run c.loop-option.self-inside.left c.next.new.self (seen c.in-Some.option) c.in-Some.ensures.steps c.loop-option.invariant.1.in_order c.if-option-greatest.true in
    (sym c.loop-option.invariant.0 ∙ ends.0, ends.1)
