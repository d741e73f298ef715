use Rattle.std.proofs.Common.{◌≤◌, ◌-◌, length, take, drop}
use Rattle.ordered_index.proofs.Ordering.{AllAfter, NoneAfter}
use Rattle.ordered_index.proofs.ordered.place_between.Given as goal

abbrev pub invariant-loop-low : goal.invariant-loop-low
invariant-loop-low l = record {
  order : l.low ≤ l.high;
  within : l.high ≤ length l.pairs;
  below : NoneAfter l.pair (take l.low l.pairs);
  above : AllAfter l.pair (drop l.high l.pairs);
}

abbrev pub decreases-loop-low : goal.decreases-loop-low
decreases-loop-low l = l.high - l.low
