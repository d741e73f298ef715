use Rattle.std.proofs.Common.{◌≡◌, ◌∙◌, ◌-◌, ◌<◌, ◌+◌, ◌||◌, ℕ, List, ap, arith, rules, length, set, subst, sym, vec_len}
use Rattle.std.proofs.lemmas.Grind.{get_or_default_zero}
use Rattle.ordered_index.specs.Chains.{buckets_from, IsChain, IsTable}
use Rattle.ordered_index.specs.Hashed.{place_of, pairs_of, Spread}
use Rattle.ordered_index.specs.Ordered.{Pair, is_in, is_pair}
use Rattle.ordered_index.proofs.Chaining.{free-below, put-all}
use Rattle.ordered_index.proofs.table.Table.put_if_room.Goals as goal

pub is_open_to-requires-clause-chain : goal.is_open_to-requires-clause-chain
is_open_to-requires-clause-chain c =
    let many : c.len.result ≡ length c.self.inside.heads.items = search rules in
    let lt : c.place_of-place.result < length c.self.inside.heads.items = omega (arith, many, c.place_of-place.ensures.within) in
    let first = c.index-head.ensures ∙ get_or_default_zero c.self.inside.heads.items c.place_of-place.result c.index-head.result.now lt in
    let is : IsChain 16 c.self.inside.nexts.items c.index-head.result.now = subst (λ (n : ℕ). IsChain 16 c.self.inside.nexts.items n) (sym first) (c.self.invariant.1.1 c.place_of-place.result lt).0 in
    subst (λ (l : List ℕ). IsChain 16 l c.index-head.result.now) (sym c.deref-else-free-eq0.ensures.value) is

pub is_open_to-requires-clause-both : goal.is_open_to-requires-clause-both
is_open_to-requires-clause-both c =
    ap length c.deref.ensures.value ∙ c.self.invariant.1.0 ∙ sym (ap length c.deref-else-free-eq0.ensures.value)

pub index-requires : goal.index-requires
index-requires c =
    omega (arith, free-below c.self.inside.nexts.items c.self.inside.heads.items c.self.inside.free c.self.invariant.1.3 c.if-free-eq0.false, c.deref.ensures.len, ap length c.deref.ensures.value)

pub index_mut-requires : goal.index_mut-requires
index_mut-requires c =
    let len : vec_len c.self.inside.pairs ≡ length c.self.inside.pairs.items = search rules in
    omega (arith, len, c.self.invariant.1.0, free-below c.self.inside.nexts.items c.self.inside.heads.items c.self.inside.free c.self.invariant.1.3 c.if-free-eq0.false)

pub index_mut-requires-2 : goal.index_mut-requires-2
index_mut-requires-2 c =
    omega (arith, free-below c.self.inside.nexts.items c.self.inside.heads.items c.self.inside.free c.self.invariant.1.3 c.if-free-eq0.false, c.deref.ensures.len, ap length c.deref.ensures.value)

-- what the table is and has then
after : (c : goal.After-self-4-1) → IsTable (place_of c.self.inside.factor (length c.self.inside.heads.items)) (set c.self.inside.pairs.items (c.self.inside.free - 1) (c.args.key, c.args.number)) (set c.self.inside.nexts.items (c.self.inside.free - 1) c.index-head.result.now) (set c.self.inside.heads.items c.place_of-place.result c.self.inside.free) c.index.result.now × ((p : Pair) → is_in p (pairs_of (buckets_from (set c.self.inside.pairs.items (c.self.inside.free - 1) (c.args.key, c.args.number)) (set c.self.inside.nexts.items (c.self.inside.free - 1) c.index-head.result.now) (set c.self.inside.heads.items c.place_of-place.result c.self.inside.free))) ≡ (is_pair p (c.args.key, c.args.number) || is_in p (pairs_of (buckets_from c.self.inside.pairs.items c.self.inside.nexts.items c.self.inside.heads.items)))) × (length (pairs_of (buckets_from (set c.self.inside.pairs.items (c.self.inside.free - 1) (c.args.key, c.args.number)) (set c.self.inside.nexts.items (c.self.inside.free - 1) c.index-head.result.now) (set c.self.inside.heads.items c.place_of-place.result c.self.inside.free))) ≡ length (pairs_of (buckets_from c.self.inside.pairs.items c.self.inside.nexts.items c.self.inside.heads.items)) + 1)
after c =
    let many : c.len.result ≡ length c.self.inside.heads.items = search rules in
    let lt : c.place_of-place.result < length c.self.inside.heads.items = omega (arith, many, c.place_of-place.ensures.within) in
    let first = c.index-head.ensures ∙ get_or_default_zero c.self.inside.heads.items c.place_of-place.result c.index-head.result.now lt in
    let below = free-below c.self.inside.nexts.items c.self.inside.heads.items c.self.inside.free c.self.invariant.1.3 c.if-free-eq0.false in
    let next = c.index.ensures ∙ get_or_default_zero c.self.inside.nexts.items (c.self.inside.free - 1) c.index.result.now below in
    let at = ap (λ (n : ℕ). place_of c.self.inside.factor n c.args.key) (sym many) ∙ sym c.place_of-place.ensures.exact in
    let short : IsChain 15 c.self.inside.nexts.items c.index-head.result.now = subst (λ (l : List ℕ). IsChain 15 l c.index-head.result.now) c.deref-else-free-eq0.ensures.value (c.is_open_to.ensures c.if-not-is_open_to.false) in
    let absent = ap (λ (t : Spread). is_in (c.args.key, c.args.number) t.pairs) c.self.view_is ∙ c.requires.absent in
    put-all (place_of c.self.inside.factor (length c.self.inside.heads.items)) c.self.inside.pairs.items c.self.inside.nexts.items c.self.inside.heads.items c.self.inside.free c.place_of-place.result c.index-head.result.now c.index.result.now (c.args.key, c.args.number) c.self.invariant.1 c.if-free-eq0.false first next lt at short absent

pub invariant_of-self : goal.invariant_of-self
invariant_of-self c =
    let same : length (set c.self.inside.heads.items c.place_of-place.result c.self.inside.free) ≡ length c.self.inside.heads.items = search rules in (
      omega (arith, c.self.invariant.0, same),
      subst (λ (n : ℕ). IsTable (place_of c.self.inside.factor n) (set c.self.inside.pairs.items (c.self.inside.free - 1) (c.args.key, c.args.number)) (set c.self.inside.nexts.items (c.self.inside.free - 1) c.index-head.result.now) (set c.self.inside.heads.items c.place_of-place.result c.self.inside.free) c.index.result.now) (sym same) (after c).0,
    )

pub returns-clause-more : goal.returns-clause-more
returns-clause-more c = λ p. (after c).1 p ∙ ap (λ (t : Spread). is_pair p (c.args.key, c.args.number) || is_in p t.pairs) c.self.view_is

pub returns-clause-length : goal.returns-clause-length
returns-clause-length c = (after c).2 ∙ ap (λ (t : Spread). length t.pairs + 1) c.self.view_is
