use Rattle.std.proofs.Common.{◌++◌, sym, ap, ◌∙◌}
use Rattle.std.proofs.lemmas.List.{append-nil}
use Rattle.coap_message.specs.OptRef.{seen}
use Rattle.coap_store.proofs.Renewals.{pushed-in_order, pushed-below, skipped-from, stops-below, stops-from}
use Rattle.coap_store.proofs.updating.push_below.Goals as goal

pub returns-then-option-number-clause-pushed : goal.returns-then-option-number-clause-pushed
returns-then-option-number-clause-pushed c =
    let steps = sym c.clone-ahead.ensures ∙ c.in-Some.ensures.steps in
    sym (append-nil c.below.list) ∙ ap (λ l. c.below.list ++ l) (sym (stops-below _ _ (seen c.in-Some.option) steps c.args.number _ c.if-option-number.true c.below.invariant.in_order)) ∙ c.below.invariant.pushed

pub returns-then-option-number-clause-rest : goal.returns-then-option-number-clause-rest
returns-then-option-number-clause-rest c =
    let steps = sym c.clone-ahead.ensures ∙ c.in-Some.ensures.steps in
    sym (stops-from _ _ (seen c.in-Some.option) steps c.args.number _ c.if-option-number.true c.below.invariant.in_order) ∙ c.below.invariant.rest

pub below-preserved : goal.below-preserved
below-preserved c =
    let x = seen c.in-Some.option in
    let steps = sym c.clone-ahead.ensures ∙ c.in-Some.ensures.steps in
    record {
      in_order = pushed-in_order _ _ x steps _ _ c.in_ok-push-in-Some.ensures.ok c.below.invariant.in_order;
      pushed = pushed-below _ _ x steps _ _ c.in_ok-push-in-Some.ensures.ok c.args.number c.if-option-number.false ∙ c.below.invariant.pushed;
      rest = skipped-from _ _ x steps c.args.number c.if-option-number.false ∙ c.below.invariant.rest;
    }
