use Rattle.std.proofs.Common.{rules}
use Rattle.coap_target.specs.Routes.{mapped_target}
use Rattle.coap_target.proofs.routes.Routes.mapped.Goals as goal

pub returns-clause-exact : goal.returns-clause-exact
unfolding mapped_target
returns-clause-exact c = search rules
