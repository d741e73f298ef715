use Rattle.std.proofs.Common.{sym, ◌∙◌, ap, ◌++◌}
use Rattle.coap_message.specs.OptRef.{seen}
use Rattle.coap_store.proofs.Renewals.{all-safe, next-in_order, pushed-in_order, pushed-safe, skipped-in_order, skipped-safe}
use Rattle.coap_store.proofs.renew.safe_options.Goals as goal

pub push-requires-clause-in_order : goal.push-requires-clause-in_order
push-requires-clause-in_order c = (next-in_order _ _ (seen c.in-Some.option) c.in-Some.ensures.steps _ c.loop-option.invariant.in_order).0

pub push-requires-clause-within : goal.push-requires-clause-within
push-requires-clause-within c = (next-in_order _ _ (seen c.in-Some.option) c.in-Some.ensures.steps _ c.loop-option.invariant.in_order).2

pub loop-option-preserved-in-Continue-1 : goal.loop-option-preserved-in-Continue-1
loop-option-preserved-in-Continue-1 c =
    let x = seen c.in-Some.option in
    let steps = c.in-Some.ensures.steps in
    record {
      in_order = pushed-in_order _ _ x steps _ _ c.in_ok-push.ensures.ok c.loop-option.invariant.in_order;
      picked = c.loop-option.invariant.picked ∙ sym (pushed-safe _ _ x steps _ _ c.in_ok-push.ensures.ok (sym c.is_unsafe.ensures ∙ c.if-not-is_unsafe.true));
    }

pub loop-option-preserved : goal.loop-option-preserved
loop-option-preserved c =
    let x = seen c.in-Some.option in
    let steps = c.in-Some.ensures.steps in
    record {
      in_order = skipped-in_order _ _ x steps _ c.loop-option.invariant.in_order;
      picked = c.loop-option.invariant.picked ∙ ap (λ l. c.loop-option.list ++ l) (sym (skipped-safe _ _ x steps (sym c.is_unsafe.ensures ∙ c.if-not-is_unsafe.false)));
    }

pub returns : goal.returns
returns c = all-safe c.args.options.now c.loop-option.list c.loop-option.option-iterator c.in-None.ensures.steps.0 c.loop-option.invariant.picked
