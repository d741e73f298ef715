use Rattle.std.proofs.Common.{◌≡◌, drop}
use Rattle.std.specs.Option.{option_copied}
use Rattle.coap_target.specs.Routes.{map_of, path_of}
use Rattle.coap_target.proofs.MapSearch.{best_of}
use Rattle.coap_counts.proofs.search.map_for.Given as goal

-- what is found is the better of the best so far and of what is found among those behind it
abbrev pub invariant-loop-map : goal.invariant-loop-map
invariant-loop-map l = map_of l.maps (path_of l.request) ≡ best_of (option_copied l.best) (map_of (drop l.map-index l.maps) (path_of l.request))
