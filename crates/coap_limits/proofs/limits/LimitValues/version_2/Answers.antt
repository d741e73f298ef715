use Rattle.std.proofs.Common.{rules}
use Rattle.coap_limits.proofs.limits.LimitValues.version_2.Goals as goal

pub returns : goal.returns
returns c = search rules
