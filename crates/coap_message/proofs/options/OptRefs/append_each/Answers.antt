use Rattle.std.proofs.Common.{sym, length, arith, ap}
use Rattle.std.proofs.lemmas.List.{length-append}
use Rattle.coap_message.specs.Parsing.{parsed}
use Rattle.coap_message.proofs.ManyOptions.{option_shortens}
use Rattle.coap_message.proofs.Runs.{added-above, added-all, added-below, added-run, next-spells}
use Rattle.coap_message.proofs.options.OptRefs.append_each.Goals as goal

pub returns-then-option-number : goal.returns-then-option-number
returns-then-option-number c =
    added-above c.args.number c.options.before _ c.options.list c.options.rest.now (parsed c.in-Some.option).0 c.in-Some.option.rest.now c.options.invariant.0 (sym c.in-Some.ensures.exact) c.options.invariant.1 c.if-option-number.true

pub options-smaller-then-before-number : goal.options-smaller-then-before-number
options-smaller-then-before-number c = option_shortens c.options.before c.options.rest.now (parsed c.in-Some.option).0 c.in-Some.option.rest.now (sym c.in-Some.ensures.exact)

pub options-preserved-then-before-number : goal.options-preserved-then-before-number
options-preserved-then-before-number c =
    let e = sym c.in-Some.ensures.exact in
    (next-spells c.args.number c.options.before c.options.rest.now (parsed c.in-Some.option).0 c.in-Some.option.rest.now c.options.invariant.0 e, added-below c.args.number c.options.before _ c.options.list c.options.rest.now (parsed c.in-Some.option).0 c.in-Some.option.rest.now c.options.invariant.0 e c.options.invariant.1 c.if-before-number.true)

pub options-smaller : goal.options-smaller
options-smaller c =
    omega (arith, option_shortens c.options.before c.options.rest.now (parsed c.in-Some.option).0 c.in-Some.option.rest.now (sym c.in-Some.ensures.exact), ap length c.split_run.ensures.parts, length-append c.split_run.result.0.now c.split_run.result.1.now)

pub options-preserved : goal.options-preserved
options-preserved c =
    let added = added-run c.args.number c.options.before _ c.options.list c.options.rest.now (parsed c.in-Some.option).0 c.in-Some.option.rest.now c.options.invariant.0 (sym c.in-Some.ensures.exact) c.options.invariant.1 c.split_run.result.0.now c.split_run.result.1.now _ _ (omega (arith, c.if-before-number.false, c.if-option-number.false)) c.split_run.ensures c.in_ok-push.ensures.ok c.in_ok-append_spelled.ensures.ok in
    (added.1, added.0)

pub returns : goal.returns
returns c = added-all c.args.number c.options.before _ c.options.list c.options.rest.now c.options.invariant.0 (sym c.in_default.ensures.exact) c.options.invariant.1
