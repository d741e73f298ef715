use Rattle.std.proofs.Common.{◌≡◌, ◌++◌, map, take}
use Rattle.std.specs.List.{flat_map}
use Rattle.coap_stats.specs.Series.{by_prefix, way_text}
use Rattle.coap_stats.proofs.series.put_mapped.Given as goal

-- the lines of those so far were added
abbrev pub invariant-loop-map : goal.invariant-loop-map
invariant-loop-map l =
    l.out.items ≡ l.initial.out.items ++ flat_map (way_text l.listen) (map by_prefix (take l.map-index l.maps))
