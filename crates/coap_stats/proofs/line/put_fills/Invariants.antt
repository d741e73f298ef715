use Rattle.std.proofs.Common.{◌≡◌, ◌++◌, map, take}
use Rattle.std.specs.List.{flat_map}
use Rattle.coap_stats.specs.Line as spec
use Rattle.coap_stats.proofs.line.put_fills.Given as goal

-- the texts of those so far were added
abbrev pub invariant-loop-fill : goal.invariant-loop-fill
invariant-loop-fill l = l.out.items ≡ l.initial.out.items ++ flat_map spec.fill_text (map spec.fill_seen (take l.fill-index l.fills))
