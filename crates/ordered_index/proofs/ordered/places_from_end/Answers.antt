use Rattle.std.proofs.Common.{◌≡◌, ◌+◌, ◌-◌, suc, ℕ, sym, take, subst, arith}
use Rattle.ordered_index.proofs.Ordering.{above-at, below-at, NoneAfter}
use Rattle.ordered_index.proofs.ordered.places_from_end.Goals as goal

pub returns-then-not-is_before-clause-below : goal.returns-then-not-is_before-clause-below
returns-then-not-is_before-clause-below c =
    let place = c.loop-step.high - c.loop-step.step in
    subst (λ (n : ℕ). NoneAfter c.args.pair (take n c.args.pairs.now)) (let one : suc place ≡ place + 1 = omega arith in one) (below-at c.args.pair place c.args.pairs.now _ c.requires (omega arith) (sym c.if-not-is_before.ensures.exact))

pub loop-step-preserved : goal.loop-step-preserved
loop-step-preserved c = record {
  step = omega arith;
  within = omega arith;
  above = above-at c.args.pair _ c.args.pairs.now _ c.requires (omega arith) (sym c.if-not-is_before.ensures.exact);
}
