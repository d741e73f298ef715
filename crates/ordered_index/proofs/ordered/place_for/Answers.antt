use Rattle.std.proofs.Common.{◌≡◌, ◌-◌, suc, ℕ, sym, length, take, subst, arith}
use Rattle.ordered_index.proofs.Ordering.{below-at, NoneAfter}
use Rattle.ordered_index.proofs.ordered.place_for.Goals as goal

pub returns-clause-below : goal.returns-clause-below
returns-clause-below c =
    let xs = c.args.pairs.now in
    let last : suc (length xs - 1) ≡ length xs = (let some = c.if-len-eq0.false in omega arith) in
    subst (λ (n : ℕ). NoneAfter c.args.pair (take n xs)) last (below-at c.args.pair (length xs - 1) xs _ c.requires (let some = c.if-len-eq0.false in omega arith) (sym c.if-is_before.ensures.exact))
