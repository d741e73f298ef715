use Rattle.std.proofs.Common.{sym, ◌∙◌}
use Rattle.coap_message.specs.OptRef.{seen}
use Rattle.coap_store.proofs.Renewals.{stops-above}
use Rattle.coap_store.proofs.updating.above.Goals as goal

pub returns-then-option-number : goal.returns-then-option-number
returns-then-option-number c =
    sym (stops-above _ _ (seen c.in-Some.option) (sym c.clone-ahead.ensures ∙ c.in-Some.ensures.steps) c.args.number c.if-option-number.true c.same.invariant.in_order) ∙ c.same.invariant.rest
