use Rattle.std.proofs.Common.{rules}
use Rattle.coap_limits.proofs.limits.Limit.allows.Goals as goal

pub returns-then-least-value : goal.returns-then-least-value
returns-then-least-value c = search rules
