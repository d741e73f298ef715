use Rattle.std.proofs.Common.{◌≡◌, ◌+◌, ◌-◌, ◌/◌, suc, ℕ, sym, take, true, subst, arith}
use Rattle.std.specs.List.{AllByRecursion}
use Rattle.ordered_index.specs.Ordered.{is_left}
use Rattle.ordered_index.proofs.Ordering.{left-at, right-at}
use Rattle.ordered_index.proofs.ordered.place_of_key.Goals as goal

pub loop-low-preserved-then-is_left : goal.loop-low-preserved-then-is_left
loop-low-preserved-then-is_left c = record {
  order = omega arith;
  within = omega arith;
  below = subst (λ (n : ℕ). AllByRecursion (λ p. is_left c.args.past c.args.key p ≡ true) (take n c.args.pairs.now)) (let one : suc (c.loop-low.low + (c.loop-low.high - c.loop-low.low) / 2) ≡ c.loop-low.low + (c.loop-low.high - c.loop-low.low) / 2 + 1 = omega arith in one) (left-at c.args.past c.args.key _ c.args.pairs.now _ c.requires (omega arith) (sym c.if-is_left.ensures.exact));
  above = c.loop-low.invariant.above;
}

pub loop-low-preserved : goal.loop-low-preserved
loop-low-preserved c = record {
  order = omega arith;
  within = omega arith;
  below = c.loop-low.invariant.below;
  above = right-at c.args.past c.args.key _ c.args.pairs.now _ c.requires (omega arith) (sym c.if-is_left.ensures.exact);
}
