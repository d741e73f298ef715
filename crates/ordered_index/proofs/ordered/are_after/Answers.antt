use Rattle.std.proofs.Common.{◌≡◌, ◌∙◌, ◌+◌, ◌<◌, suc, ℕ, sym, length, take, subst, arith}
use Rattle.ordered_index.proofs.Ordering.{above-at, below-at, NoneAfter}
use Rattle.ordered_index.proofs.ordered.are_after.Goals as goal

pub returns-else-place-pairs-clause-above : goal.returns-else-place-pairs-clause-above
returns-else-place-pairs-clause-above c =
    let there : c.args.place < length c.args.pairs.now = (let more = c.if-place-pairs.false in let within = c.requires.place in omega arith) in
    λ e. above-at c.args.pair c.args.place c.args.pairs.now _ c.requires.rising there (sym c.is_before.ensures.exact ∙ e)

pub returns-else-place-pairs-clause-below : goal.returns-else-place-pairs-clause-below
returns-else-place-pairs-clause-below c =
    let there : c.args.place < length c.args.pairs.now = (let more = c.if-place-pairs.false in let within = c.requires.place in omega arith) in
    let one : suc c.args.place ≡ c.args.place + 1 = omega arith in
    λ e. subst (λ (n : ℕ). NoneAfter c.args.pair (take n c.args.pairs.now)) one (below-at c.args.pair c.args.place c.args.pairs.now _ c.requires.rising there (sym c.is_before.ensures.exact ∙ e))
