use Rattle.std.proofs.Common.{rules}
use Rattle.coap_target.proofs.routes.is_longer.Goals as goal

pub returns-in-Some : goal.returns-in-Some
returns-in-Some c = search rules
