use Rattle.std.proofs.Common.{◌≡◌, length}
use Rattle.coap_counts.specs.Search.{segments}
use Rattle.coap_counts.proofs.search.next_segment.Given as goal

-- what was passed has no segment
abbrev pub invariant-loop-option : goal.invariant-loop-option
invariant-loop-option l = segments l.left ≡ segments l.initial.left

abbrev pub decreases-loop-option : goal.decreases-loop-option
decreases-loop-option l = length l.left
