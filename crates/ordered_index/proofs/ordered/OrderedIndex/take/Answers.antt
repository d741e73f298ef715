use Rattle.std.proofs.Common.{cond, ◌+◌, eqb, ◌≡◌, ℕ, ◌<◌, ◌≤◌, ◌-◌, ◌∙◌, ◌&&◌, true, ap, sym, subst, length, take, drop, get_or, List, arith}
use Rattle.std.specs.Prelude.{count_by, not, remove}
use Rattle.std.proofs.lemmas.List.Sums.{sum_by-remove}
use Rattle.ordered_index.specs.Ordered.{Pair, OrderedIndex, AreRising, is_in, is_pair, many_of, one_if}
use Rattle.ordered_index.proofs.Ordering.{AllAfter, NoneAfter, is_in-remove, many-remove, rising-remove, stands-before}
use Rattle.ordered_index.proofs.ordered.OrderedIndex.take.Goals as goal

-- the pair stands just before the place after it
stands : (p : Pair) (i : ℕ) (old : OrderedIndex) (xs ys : List Pair) → ys ≡ xs → old.pairs ≡ xs → is_in p old.pairs ≡ true → AreRising xs → (i ≤ length ys) × NoneAfter p (take i ys) × AllAfter p (drop i ys) → (0 < i) × (i - 1 < length xs) × (get_or xs (i - 1) p ≡ p)
stands p i old xs ys same is there rising at =
    let found = stands-before p i xs p rising (rw same at at.0) (rw same at at.1) (rw same at at.2) (rw is at there) in
    let some = found.0 in
    let most : i ≤ length xs = rw same at at.0 in
    (some, omega arith, found.1)

pub overflow_sub-place : goal.overflow_sub-place
overflow_sub-place c =
    let place = c.place_for-place.ensures in
    let some = (stands (c.args.key, c.args.number) c.place_for-place.result c.args.self.now c.self.inside.buffer.pairs c.pairs.result.now c.pairs.ensures (ap (λ (r : OrderedIndex). r.pairs) (sym c.self.view_is)) c.requires.there c.self.invariant (place.within, place.below, place.above)).0 in
    omega arith

pub invariant_of-self : goal.invariant_of-self
invariant_of-self c = subst (λ (r : OrderedIndex). AreRising r.pairs) (sym c.remove.ensures) (rising-remove (c.place_for-place.result - 1) c.self.inside.buffer.pairs c.self.invariant)

pub returns-clause-less : goal.returns-clause-less
returns-clause-less c =
    let place = c.place_for-place.ensures in
    let it : Pair = (c.args.key, c.args.number) in
    let found = stands it c.place_for-place.result c.args.self.now c.self.inside.buffer.pairs c.pairs.result.now c.pairs.ensures (ap (λ (r : OrderedIndex). r.pairs) (sym c.self.view_is)) c.requires.there c.self.invariant (place.within, place.below, place.above) in
    λ p. ap (λ (r : OrderedIndex). is_in p r.pairs) c.remove.ensures
    ∙ is_in-remove p it (c.place_for-place.result - 1) c.self.inside.buffer.pairs it c.self.invariant found.1 found.2
    ∙ ap (λ (r : OrderedIndex). not (is_pair p it) && is_in p r.pairs) c.self.view_is

pub returns-clause-counts : goal.returns-clause-counts
returns-clause-counts c =
    let place = c.place_for-place.ensures in
    let it : Pair = (c.args.key, c.args.number) in
    let found = stands it c.place_for-place.result c.args.self.now c.self.inside.buffer.pairs c.pairs.result.now c.pairs.ensures (ap (λ (r : OrderedIndex). r.pairs) (sym c.self.view_is)) c.requires.there c.self.invariant (place.within, place.below, place.above) in
    λ k. ap (λ (r : OrderedIndex). many_of k r.pairs + one_if (eqb c.args.key k)) c.remove.ensures
    ∙ many-remove k it (c.place_for-place.result - 1) c.self.inside.buffer.pairs it found.1 found.2
    ∙ ap (λ (r : OrderedIndex). many_of k r.pairs) c.self.view_is

pub returns-clause-kinds : goal.returns-clause-kinds
returns-clause-kinds c =
    let place = c.place_for-place.ensures in
    let it : Pair = (c.args.key, c.args.number) in
    let found = stands it c.place_for-place.result c.args.self.now c.self.inside.buffer.pairs c.pairs.result.now c.pairs.ensures (ap (λ (r : OrderedIndex). r.pairs) (sym c.self.view_is)) c.requires.there c.self.invariant (place.within, place.below, place.above) in
    λ f. ap (λ (r : OrderedIndex). count_by f r.pairs + one_if (f it)) c.remove.ensures
    ∙ ap (λ (p : Pair). count_by f (remove c.self.inside.buffer.pairs (c.place_for-place.result - 1)) + one_if (f p)) (sym found.2)
    ∙ sum_by-remove (λ (p : Pair). cond (f p) 1 0) c.self.inside.buffer.pairs (c.place_for-place.result - 1) it found.1
    ∙ ap (λ (r : OrderedIndex). count_by f r.pairs) c.self.view_is
