use Rattle.std.proofs.Common.{map}
use Rattle.coap_target.specs.RouteTexts.{pair_of}
use Rattle.coap_target.proofs.Origins.{maps-are}
use Rattle.coap_target.proofs.routes.Routes.new.Goals as goal

pub invariant_of-result : goal.invariant_of-result
invariant_of-result c = maps-are c.as_slice.result.now (map pair_of c.args.maps.now) c.in_ok-mapped.mapped c.in_ok-mapped.ensures
