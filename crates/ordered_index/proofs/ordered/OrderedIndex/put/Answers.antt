use Rattle.std.proofs.Common.{cond, ◌+◌, eqb, ◌≡◌, ◌∙◌, ◌||◌, false, ap, sym, subst}
use Rattle.std.specs.Prelude.{count_by}
use Rattle.std.proofs.lemmas.List.Sums.{sum_by-insert}
use Rattle.ordered_index.specs.Ordered.{Pair, OrderedIndex, AreRising, is_in, is_pair, many_of, one_if}
use Rattle.ordered_index.proofs.Ordering.{is_in-insert, many-insert, rising-insert}
use Rattle.ordered_index.proofs.ordered.OrderedIndex.put.Goals as goal

pub invariant_of-self : goal.invariant_of-self
invariant_of-self c =
    let free : is_in (c.args.key, c.args.number) c.self.inside.buffer.pairs ≡ false = subst (λ (r : OrderedIndex). is_in (c.args.key, c.args.number) r.pairs ≡ false) (sym c.self.view_is) c.requires.absent in
    subst (λ (r : OrderedIndex). AreRising r.pairs) (sym c.insert.ensures) (rising-insert (c.args.key, c.args.number) c.place_for-place.result c.self.inside.buffer.pairs c.self.invariant (rw c.pairs.ensures at c.place_for-place.ensures.below) (rw c.pairs.ensures at c.place_for-place.ensures.above) free)

pub returns-clause-more : goal.returns-clause-more
returns-clause-more c = λ p.
    ap (λ (r : OrderedIndex). is_in p r.pairs) c.insert.ensures
    ∙ is_in-insert p (c.args.key, c.args.number) c.place_for-place.result c.self.inside.buffer.pairs
    ∙ ap (λ (r : OrderedIndex). is_pair p (c.args.key, c.args.number) || is_in p r.pairs) c.self.view_is

pub returns-clause-counts : goal.returns-clause-counts
returns-clause-counts c = λ k.
    ap (λ (r : OrderedIndex). many_of k r.pairs) c.insert.ensures
    ∙ many-insert k (c.args.key, c.args.number) c.place_for-place.result c.self.inside.buffer.pairs
    ∙ ap (λ (r : OrderedIndex). many_of k r.pairs + one_if (eqb c.args.key k)) c.self.view_is

pub returns-clause-kinds : goal.returns-clause-kinds
returns-clause-kinds c = λ f.
    ap (λ (r : OrderedIndex). count_by f r.pairs) c.insert.ensures
    ∙ sum_by-insert (λ (p : Pair). cond (f p) 1 0) c.self.inside.buffer.pairs c.place_for-place.result (c.args.key, c.args.number)
    ∙ ap (λ (r : OrderedIndex). count_by f r.pairs + one_if (f (c.args.key, c.args.number))) c.self.view_is
