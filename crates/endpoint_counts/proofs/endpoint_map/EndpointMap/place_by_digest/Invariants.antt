use Rattle.std.proofs.Common.{◌-◌, ◌<◌, ◌^◌}
use Rattle.endpoint_counts.proofs.Slotting.{NoneOfUpTo}
use Rattle.endpoint_counts.proofs.endpoint_map.EndpointMap.place_by_digest.Given as goal

abbrev pub invariant-loop-number : goal.invariant-loop-number
invariant-loop-number l = (l.after < 2 ^ 64) × NoneOfUpTo l.at l.self-inside.slots l.after

abbrev pub decreases-loop-number : goal.decreases-loop-number
decreases-loop-number l = 2 ^ 64 - l.after
