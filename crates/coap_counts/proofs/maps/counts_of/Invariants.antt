use Rattle.std.proofs.Common.{◌≡◌, take}
use Rattle.coap_counts.specs.Maps.{by_prefix}
use Rattle.coap_counts.proofs.maps.counts_of.Given as goal

-- the prefixes so far are there
abbrev pub invariant-loop-map : goal.invariant-loop-map
invariant-loop-map l = l.counts.items ≡ by_prefix (take l.map-index l.maps)
