use Rattle.std.proofs.Common.{refl}
use Rattle.coap_target.specs.Request.{request_target}
use Rattle.test_definitions.proofs.routes.mapped.Goals as goal

pub returns : goal.returns
unfolding request_target
returns c = record { rest = refl; longest = refl; earlier = refl; query = refl; none = refl }
