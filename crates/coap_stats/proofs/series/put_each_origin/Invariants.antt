use Rattle.std.proofs.Common.{◌≡◌, ◌++◌, drop}
use Rattle.std.specs.List.{flat_map}
use Rattle.coap_stats.specs.Series.{origin_parts, origin_text}
use Rattle.coap_stats.proofs.series.put_each_origin.Given as goal

-- what was added, and what is told of the places that are left
abbrev pub invariant-loop-place : goal.invariant-loop-place
invariant-loop-place l =
    l.out.items ++ flat_map (origin_text l.fn.at.listen.now l.fn.at.now l.fn.series) (origin_parts (drop l.place-index l.place-items) l.fn.origins.others)
    ≡ l.initial.out.items ++ flat_map (origin_text l.fn.at.listen.now l.fn.at.now l.fn.series) (origin_parts l.fn.origins.places l.fn.origins.others)
