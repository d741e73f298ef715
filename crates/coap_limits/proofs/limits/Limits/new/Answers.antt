use Rattle.std.proofs.Common.{sym, ◌∙◌}
use Rattle.coap_limits.proofs.Limiting.{are-limits}
use Rattle.coap_limits.proofs.limits.Limits.new.Goals as goal

pub invariant_of-result : goal.invariant_of-result
invariant_of-result c = are-limits _ (sym c.first_fault.ensures ∙ c.in-None.is)
