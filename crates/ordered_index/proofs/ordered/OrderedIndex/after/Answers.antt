use Rattle.std.proofs.Common.{◌<◌, ◌≤◌, length, refl, arith}
use Rattle.ordered_index.proofs.Ordering.{after-end, after-here}
use Rattle.ordered_index.proofs.ordered.OrderedIndex.after.Goals as goal

pub returns-then-place-pairs : goal.returns-then-place-pairs
returns-then-place-pairs c =
    let end : length c.pairs-pairs.result.now ≤ c.place_after-place.result = omega arith in
    record { exact = rw (← c.self.view_is, ← c.pairs-pairs.ensures) (after-end c.args.pair c.place_after-place.result c.pairs-pairs.result.now c.place_after-place.ensures.below end) }

pub returns : goal.returns
returns c =
    let most = c.place_after-place.ensures.within in
    let within : c.place_after-place.result < length c.pairs-pairs.result.now = omega arith in
    record { exact = rw (← c.self.view_is, ← c.pairs-pairs.ensures) (after-here c.args.pair c.place_after-place.result c.pairs-pairs.result.now _ _ (rw c.pairs-pairs.ensures c.self.invariant) c.place_after-place.ensures.below c.place_after-place.ensures.above within refl) }
