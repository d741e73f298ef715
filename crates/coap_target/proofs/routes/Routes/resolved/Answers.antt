use Rattle.std.proofs.Common.{rules}
use Rattle.coap_target.proofs.routes.Routes.resolved.Goals as goal

pub returns-else-is_own : goal.returns-else-is_own
returns-else-is_own c = search rules
