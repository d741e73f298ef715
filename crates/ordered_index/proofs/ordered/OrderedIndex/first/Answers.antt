use Rattle.std.proofs.Common.{Some}
use Rattle.ordered_index.specs.Ordered.{IsLeast}
use Rattle.ordered_index.proofs.Ordering.{first-is}
use Rattle.ordered_index.proofs.ordered.OrderedIndex.first.Goals as goal

pub returns-in-Some : goal.returns-in-Some
returns-in-Some c =
    let item = c.in-Some.ensures.item in
    let least : IsLeast c.pairs.result.now (Some c.in-Some.pair.now) = first-is c.pairs.result.now c.in-Some.pair.now item.3.0 item.1 (rw c.pairs.ensures c.self.invariant) in
    record { exact = rw (← c.self.view_is, ← c.pairs.ensures) least }
