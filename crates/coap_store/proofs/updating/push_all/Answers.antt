use Rattle.std.proofs.Common.{◌∙◌}
use Rattle.coap_message.specs.OptRef.{seen}
use Rattle.coap_store.proofs.Renewals.{pushed-in_order, pushed-all}
use Rattle.coap_store.proofs.updating.push_all.Goals as goal

pub loop-option-preserved : goal.loop-option-preserved
loop-option-preserved c =
    let x = seen c.in-Some.option in
    let steps = c.in-Some.ensures.steps in
    record {
      in_order = pushed-in_order _ _ x steps _ _ c.in_ok-push.ensures.ok c.loop-option.invariant.in_order;
      pushed = pushed-all _ _ x steps _ _ c.in_ok-push.ensures.ok ∙ c.loop-option.invariant.pushed;
    }
