use Rattle.std.proofs.Common.{rules}
use Rattle.coap_target.proofs.routes.Routes.beyond.Goals as goal

pub returns-in-None : goal.returns-in-None
returns-in-None c = search rules
