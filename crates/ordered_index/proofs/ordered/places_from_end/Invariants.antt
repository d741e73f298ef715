use Rattle.std.proofs.Common.{◌≤◌, length, drop}
use Rattle.ordered_index.proofs.Ordering.{AllAfter}
use Rattle.ordered_index.proofs.ordered.places_from_end.Given as goal

abbrev pub invariant-loop-step : goal.invariant-loop-step
invariant-loop-step l = record {
  step : 1 ≤ l.step;
  within : l.high ≤ length l.pairs;
  above : AllAfter l.pair (drop l.high l.pairs);
}

abbrev pub decreases-loop-step : goal.decreases-loop-step
decreases-loop-step l = l.high
