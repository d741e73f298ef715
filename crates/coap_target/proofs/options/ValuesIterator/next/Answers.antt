use Rattle.std.proofs.Common.{sym, ◌∙◌}
use Rattle.coap_message.specs.OptRef.{seen}
use Rattle.coap_target.proofs.OneNumber.{rest-in_order, values-passed, values-past}
use Rattle.coap_target.proofs.options.ValuesIterator.next.Goals as goal

pub invariant_of-self : goal.invariant_of-self
invariant_of-self c = rest-in_order c.loop-option.self-inside.number c.loop-option.self-inside.left c.next.new.self (seen c.in-Some.option) c.in-Some.ensures.steps c.loop-option.invariant.1

pub returns-then-option-self-clause-steps : goal.returns-then-option-self-clause-steps
returns-then-option-self-clause-steps c =
    let past = values-past c.loop-option.self-inside.number c.loop-option.self-inside.left c.next.new.self (seen c.in-Some.option) c.in-Some.ensures.steps c.loop-option.invariant.1 c.if-option-self.true in
    (sym c.loop-option.invariant.0 ∙ past.0, past.1)

pub invariant_of-self-then-option-self-2 : goal.invariant_of-self-then-option-self-2
invariant_of-self-then-option-self-2 c = rest-in_order c.loop-option.self-inside.number c.loop-option.self-inside.left c.next.new.self (seen c.in-Some.option) c.in-Some.ensures.steps c.loop-option.invariant.1

pub loop-option-preserved : goal.loop-option-preserved
loop-option-preserved c =
    let left = c.loop-option.self-inside.left in
    (values-passed c.loop-option.self-inside.number left c.next.new.self (seen c.in-Some.option) c.in-Some.ensures.steps c.loop-option.invariant.1 c.if-option-self-2.false ∙ c.loop-option.invariant.0, rest-in_order c.loop-option.self-inside.number left c.next.new.self (seen c.in-Some.option) c.in-Some.ensures.steps c.loop-option.invariant.1)
