use Rattle.std.proofs.Common.{◌≡◌, drop}
use Rattle.std.specs.Option.{option_copied}
use Rattle.coap_target.specs.Routes.{map_of}
use Rattle.coap_target.proofs.MapSearch.{best_of}
use Rattle.coap_target.proofs.routes.map_of.Given as goal

abbrev pub invariant-loop-map : goal.invariant-loop-map
invariant-loop-map g l = map_of l.maps (g.P.Segments.left l.path) ≡ best_of (option_copied l.best) (map_of (drop l.map-index l.maps) (g.P.Segments.left l.path))
