use Rattle.std.proofs.Common.{◌≡◌, ◌++◌}
use Rattle.std.specs.List.{flat_map}
use Rattle.coap_stats.specs.Labels.{segment_text}
use Rattle.coap_stats.proofs.labels.put_path.Given as goal

-- what was added, and the others
abbrev pub invariant-loop-segment : goal.invariant-loop-segment
invariant-loop-segment l =
    l.out.items ++ flat_map segment_text l.segment-iterator
    ≡ l.initial.out.items ++ flat_map segment_text l.initial.segment-iterator
