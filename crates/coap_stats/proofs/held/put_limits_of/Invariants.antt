use Rattle.std.proofs.Common.{◌≡◌, ◌++◌, map, take}
use Rattle.std.specs.List.{flat_map}
use Rattle.coap_stats.specs.Line.{fill_seen}
use Rattle.coap_stats.specs.Metrics.{limit_text}
use Rattle.coap_stats.proofs.held.put_limits_of.Given as goal

-- the lines of those so far were added
abbrev pub invariant-loop-fill : goal.invariant-loop-fill
invariant-loop-fill l = l.out.items ≡ l.initial.out.items ++ flat_map (limit_text l.listen) (map fill_seen (take l.fill-index l.fills))
