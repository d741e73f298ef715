use Rattle.std.proofs.Common.{rules}
use Rattle.coap_limits.proofs.limits.LimitValues.without_client_limits.Goals as goal

pub returns : goal.returns
returns c = search rules
