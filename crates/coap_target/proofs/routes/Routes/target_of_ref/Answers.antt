use Rattle.std.proofs.Common.{rules}
use Rattle.coap_target.specs.Request.{request_target}
use Rattle.coap_target.proofs.routes.Routes.target_of_ref.Goals as goal

pub returns-in-None-Some : goal.returns-in-None-Some
unfolding request_target
returns-in-None-Some c = search rules

pub returns-in-Some-default : goal.returns-in-Some-default
unfolding request_target
returns-in-Some-default c = search rules
