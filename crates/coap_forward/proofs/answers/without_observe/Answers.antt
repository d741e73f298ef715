use Rattle.std.proofs.Common.{sym, ◌∙◌, ap, ◌++◌}
use Rattle.std.proofs.lemmas.Bool.{ne_eqb, eq-eqb}
use Rattle.coap_message.specs.OptRef.{seen}
use Rattle.coap_store.proofs.Renewals.{pushed-in_order, skipped-in_order}
use Rattle.coap_forward.proofs.Observing.{all-kept, pushed, skipped}
use Rattle.coap_forward.proofs.answers.without_observe.Goals as goal

pub returns-then-not-has_observe : goal.returns-then-not-has_observe
returns-then-not-has_observe c = rw (← all-kept c.args.options.now (sym c.has_observe.ensures ∙ c.if-not-has_observe.true)) c.to_owned.ensures

pub loop-option-preserved-in-Continue-1 : goal.loop-option-preserved-in-Continue-1
loop-option-preserved-in-Continue-1 c =
    let x = seen c.in-Some.option in
    let steps = c.in-Some.ensures.steps in
    record {
      in_order = pushed-in_order _ _ x steps _ _ c.in_ok-push.ensures.ok c.loop-option.invariant.in_order;
      picked = c.loop-option.invariant.picked ∙ sym (pushed _ _ x steps _ _ c.in_ok-push.ensures.ok (ne_eqb x.number 6 c.if-option-ne-OBSERVE.true));
    }

pub loop-option-preserved : goal.loop-option-preserved
loop-option-preserved c =
    let x = seen c.in-Some.option in
    let steps = c.in-Some.ensures.steps in
    record {
      in_order = skipped-in_order _ _ x steps _ c.loop-option.invariant.in_order;
      picked = c.loop-option.invariant.picked ∙ ap (λ l. c.loop-option.list ++ l) (sym (skipped _ _ x steps (eq-eqb x.number 6 c.if-option-ne-OBSERVE.false)));
    }
