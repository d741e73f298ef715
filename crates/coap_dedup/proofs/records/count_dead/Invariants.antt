-- The expired records end between the two positions.
use Rattle.std.proofs.Common.{◌+◌, ◌-◌, ◌≤◌, length}
use Rattle.coap_dedup.specs.Lists.{living}
use Rattle.coap_dedup.proofs.records.count_dead.Given as goal

abbrev pub invariant-search : goal.invariant-search
invariant-search l = record {
  past : l.dead + length (living l.lifetime l.now l.ring.items) ≤ length l.ring.items;
  before : length l.ring.items ≤ l.end + length (living l.lifetime l.now l.ring.items);
  within : l.end ≤ length l.ring.items;
}

abbrev pub decreases-search : goal.decreases-search
decreases-search l = l.end - l.dead
