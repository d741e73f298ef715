use Rattle.std.proofs.Common.{◌≡◌, ◌++◌, drop, map, take}
use Rattle.coap_counts.specs.Times.{with_time}
use Rattle.coap_counts.proofs.times.note_all.Given as goal

-- those so far were told
abbrev pub invariant-loop-bucket : goal.invariant-loop-bucket
invariant-loop-bucket l = l.buckets ≡ map (with_time l.took) (take l.bucket-index l.initial.buckets) ++ drop l.bucket-index l.initial.buckets
