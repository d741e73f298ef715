use Rattle.std.proofs.Common.{◌≡◌, ◌+◌, ◌++◌, drop, map, slice_set, take, ap, ◌∙◌, arith}
use Rattle.std.proofs.lemmas.List.Edits.{map_over_more}
use Rattle.coap_counts.specs.Maps.{counted}
use Rattle.coap_counts.proofs.maps.count_mapped.Goals as goal

pub loop-map-preserved : goal.loop-map-preserved
loop-map-preserved c =
    let f = counted c.args.prefix.now c.args.outcome in
    let i = c.loop-map.map-index in
    let x = c.map-item.result in
    let old = c.args.maps.now in
    let now = c.loop-map.maps in
    let all : slice_set now i (f x) ≡ map f (take (i + 1) old) ++ drop (i + 1) old = map_over_more f old now i x (omega arith) c.loop-map.invariant c.map-item.is in
    ap (slice_set now i) (rw (← c.map-item.is) at c.count.ensures) ∙ all
