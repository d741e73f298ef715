use Rattle.std.proofs.Common.{◌≡◌, ◌++◌, drop, map, take}
use Rattle.coap_counts.specs.Maps.{counted}
use Rattle.coap_counts.proofs.maps.count_mapped.Given as goal

-- those so far were told
abbrev pub invariant-loop-map : goal.invariant-loop-map
invariant-loop-map l = l.maps ≡ map (counted l.prefix l.outcome) (take l.map-index l.initial.maps) ++ drop l.map-index l.initial.maps
