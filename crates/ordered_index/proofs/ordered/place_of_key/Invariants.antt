use Rattle.std.proofs.Common.{◌≡◌, ◌≤◌, ◌-◌, length, take, drop, true, false}
use Rattle.std.specs.List.{AllByRecursion}
use Rattle.ordered_index.specs.Ordered.{is_left}
use Rattle.ordered_index.proofs.ordered.place_of_key.Given as goal

abbrev pub invariant-loop-low : goal.invariant-loop-low
invariant-loop-low l = record {
  order : l.low ≤ l.high;
  within : l.high ≤ length l.pairs;
  below : AllByRecursion (λ p. is_left l.past l.key p ≡ true) (take l.low l.pairs);
  above : AllByRecursion (λ p. is_left l.past l.key p ≡ false) (drop l.high l.pairs);
}

abbrev pub decreases-loop-low : goal.decreases-loop-low
decreases-loop-low l = l.high - l.low
