use Rattle.std.proofs.Common.{sym, ◌∙◌}
use Rattle.coap_message.specs.Parsing.{parsed}
use Rattle.coap_message.proofs.ManyOptions.{option_shortens}
use Rattle.coap_message.proofs.Runs.{next-below, next-ends, next-from, next-spells}
use Rattle.coap_message.proofs.options.OptRefs.from_number.Goals as goal

pub returns-then-option-number : goal.returns-then-option-number
returns-then-option-number c =
    next-from c.args.number c.below.before c.below.rest.now (parsed c.in-Some.option).0 c.in-Some.option.rest.now c.below.invariant.0 (sym c.in-Some.ensures.exact) c.if-option-number.true ∙ c.below.invariant.1

pub below-smaller : goal.below-smaller
below-smaller c = option_shortens c.below.before c.below.rest.now (parsed c.in-Some.option).0 c.in-Some.option.rest.now (sym c.in-Some.ensures.exact)

pub below-preserved : goal.below-preserved
below-preserved c =
    let e = sym c.in-Some.ensures.exact in
    (next-spells c.args.number c.below.before c.below.rest.now (parsed c.in-Some.option).0 c.in-Some.option.rest.now c.below.invariant.0 e, next-below c.args.number c.below.before c.below.rest.now (parsed c.in-Some.option).0 c.in-Some.option.rest.now c.below.invariant.0 e c.if-option-number.false ∙ c.below.invariant.1)

pub returns : goal.returns
returns c = next-ends c.args.number c.below.before c.below.rest.now c.below.invariant.0 (sym c.in_default.ensures.exact) ∙ c.below.invariant.1
