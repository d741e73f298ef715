use Rattle.std.proofs.Common.{◌≡◌, ◌++◌, take}
use Rattle.std.specs.List.{flat_map}
use Rattle.coap_stats.specs.Labels.{escape}
use Rattle.coap_stats.proofs.labels.put_segment.Given as goal

-- those so far were added
abbrev pub invariant-loop-byte : goal.invariant-loop-byte
invariant-loop-byte l =
    l.out.items ≡ l.initial.out.items ++ flat_map escape (take l.byte-index l.segment)
