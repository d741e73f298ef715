use Rattle.std.proofs.Common.{◌≡◌, ◌+◌, ◌-◌, ◌/◌, suc, ℕ, sym, take, subst, arith}
use Rattle.ordered_index.proofs.Ordering.{above-at, below-at, NoneAfter}
use Rattle.ordered_index.proofs.ordered.place_between.Goals as goal

pub loop-low-preserved-then-is_before : goal.loop-low-preserved-then-is_before
loop-low-preserved-then-is_before c = record {
  order = omega arith;
  within = omega arith;
  below = c.loop-low.invariant.below;
  above = above-at c.args.pair _ c.args.pairs.now _ c.requires.rising (omega arith) (sym c.if-is_before.ensures.exact);
}

pub loop-low-preserved : goal.loop-low-preserved
loop-low-preserved c = record {
  order = omega arith;
  within = omega arith;
  below = subst (λ (n : ℕ). NoneAfter c.args.pair (take n c.args.pairs.now)) (let one : suc (c.loop-low.low + (c.loop-low.high - c.loop-low.low) / 2) ≡ c.loop-low.low + (c.loop-low.high - c.loop-low.low) / 2 + 1 = omega arith in one) (below-at c.args.pair _ c.args.pairs.now _ c.requires.rising (omega arith) (sym c.if-is_before.ensures.exact));
  above = c.loop-low.invariant.above;
}
