use Rattle.std.proofs.Common.{◌≡◌, ◌∙◌, ◌-◌, ◌<◌, ◌+◌, ◌&&◌, ℕ, List, true, false, ap, arith, rules, length, get_or, set, subst, sym, vec_len}
use Rattle.std.specs.Prelude.{not}
use Rattle.std.proofs.lemmas.Grind.{get_or_default_zero}
use Rattle.std.proofs.lemmas.List.{get_or_default}
use Rattle.ordered_index.specs.Chains.{buckets_from, is_among, pairs_in, slots_from, IsChain, IsTable}
use Rattle.ordered_index.specs.Hashed.{place_of, pairs_of, Spread}
use Rattle.ordered_index.specs.Ordered.{Pair, is_in, is_pair}
use Rattle.ordered_index.proofs.Chaining.{among-below, head-below, in-table, take-at}
use Rattle.ordered_index.proofs.Hashing.{stays-out}
use Rattle.ordered_index.proofs.table.Table.take_if_there.Goals as goal

pub slot_of-requires-clause-chain : goal.slot_of-requires-clause-chain
slot_of-requires-clause-chain c =
    let many : c.len.result ≡ length c.self.inside.heads.items = search rules in
    let lt : c.place_of-place.result < length c.self.inside.heads.items = omega (arith, many, c.place_of-place.ensures.within) in
    let first = c.index-head.ensures ∙ get_or_default_zero c.self.inside.heads.items c.place_of-place.result c.index-head.result.now lt in
    let chain : IsChain 16 c.self.inside.nexts.items c.index-head.result.now = subst (λ (n : ℕ). IsChain 16 c.self.inside.nexts.items n) (sym first) (c.self.invariant.1.1 c.place_of-place.result lt).0 in
    subst (λ (l : List ℕ). IsChain 16 l c.index-head.result.now) (sym c.deref-2.ensures.value) chain

-- the pair isn't there
missing : (c : goal.In_default) → is_in (c.args.key, c.args.number) c.args.self.now.pairs ≡ false
missing c =
    let many : c.len.result ≡ length c.self.inside.heads.items = search rules in
    let lt : c.place_of-place.result < length c.self.inside.heads.items = omega (arith, many, c.place_of-place.ensures.within) in
    let first = c.index-head.ensures ∙ get_or_default_zero c.self.inside.heads.items c.place_of-place.result c.index-head.result.now lt in
    let at = ap (λ (n : ℕ). place_of c.self.inside.factor n c.args.key) (sym many) ∙ sym c.place_of-place.ensures.exact in
    let same = ap (λ (l : List Pair). is_in (c.args.key, c.args.number) (pairs_in l (slots_from 16 c.deref-2.result.now c.index-head.result.now))) (sym c.deref.ensures.value) in
    let own : is_in (c.args.key, c.args.number) (pairs_in c.self.inside.pairs.items (slots_from 16 c.self.inside.nexts.items c.index-head.result.now)) ≡ false = ap (λ (l : List ℕ). is_in (c.args.key, c.args.number) (pairs_in c.self.inside.pairs.items (slots_from 16 l c.index-head.result.now))) (sym c.deref-2.ensures.value) ∙ same ∙ (c.in_default.ensures).none in
    ap (λ (t : Spread). is_in (c.args.key, c.args.number) t.pairs) (sym c.self.view_is) ∙ in-table (place_of c.self.inside.factor (length c.self.inside.heads.items)) c.self.inside.pairs.items c.self.inside.nexts.items c.self.inside.heads.items c.self.inside.free c.place_of-place.result c.index-head.result.now (c.args.key, c.args.number) c.self.invariant.1 lt first at ∙ own

pub returns-in_default-clause-exact : goal.returns-in_default-clause-exact
returns-in_default-clause-exact c = sym (missing c)

pub returns-in_default-clause-less : goal.returns-in_default-clause-less
returns-in_default-clause-less c = λ p. stays-out p (c.args.key, c.args.number) c.args.self.now.pairs (missing c)

pub index-requires : goal.index-requires
index-requires c =
    let many : c.len.result ≡ length c.self.inside.heads.items = search rules in
    let lt : c.place_of-place.result < length c.self.inside.heads.items = omega (arith, many, c.place_of-place.ensures.within) in
    let first = c.index-head.ensures ∙ get_or_default_zero c.self.inside.heads.items c.place_of-place.result c.index-head.result.now lt in
    let chain : IsChain 16 c.self.inside.nexts.items c.index-head.result.now = subst (λ (n : ℕ). IsChain 16 c.self.inside.nexts.items n) (sym first) (c.self.invariant.1.1 c.place_of-place.result lt).0 in
    let there : is_among c.in-Some.slot (slots_from 16 c.self.inside.nexts.items c.index-head.result.now) ≡ true = subst (λ (l : List ℕ). is_among c.in-Some.slot (slots_from 16 l c.index-head.result.now) ≡ true) c.deref-2.ensures.value c.in-Some.ensures.some.0 in
    let len : vec_len c.self.inside.pairs ≡ length c.self.inside.pairs.items = search rules in
    let lens : vec_len c.self.inside.nexts ≡ length c.self.inside.nexts.items = search rules in
    omega (arith, len, lens, c.self.invariant.1.0, head-below 16 c.self.inside.nexts.items c.index-head.result.now c.in-Some.slot chain there)

pub index_mut-requires : goal.index_mut-requires
index_mut-requires c =
    let many : c.len.result ≡ length c.self.inside.heads.items = search rules in
    let lt : c.place_of-place.result < length c.self.inside.heads.items = omega (arith, many, c.place_of-place.ensures.within) in
    let first = c.index-head.ensures ∙ get_or_default_zero c.self.inside.heads.items c.place_of-place.result c.index-head.result.now lt in
    let chain : IsChain 16 c.self.inside.nexts.items c.index-head.result.now = subst (λ (n : ℕ). IsChain 16 c.self.inside.nexts.items n) (sym first) (c.self.invariant.1.1 c.place_of-place.result lt).0 in
    let there : is_among c.in-Some.slot (slots_from 16 c.self.inside.nexts.items c.index-head.result.now) ≡ true = subst (λ (l : List ℕ). is_among c.in-Some.slot (slots_from 16 l c.index-head.result.now) ≡ true) c.deref-2.ensures.value c.in-Some.ensures.some.0 in
    let len : vec_len c.self.inside.pairs ≡ length c.self.inside.pairs.items = search rules in
    let lens : vec_len c.self.inside.nexts ≡ length c.self.inside.nexts.items = search rules in
    omega (arith, len, lens, c.self.invariant.1.0, among-below 16 c.self.inside.nexts.items c.index-head.result.now c.in-Some.slot chain there)

pub index-requires-2 : goal.index-requires-2
index-requires-2 c =
    let many : c.len.result ≡ length c.self.inside.heads.items = search rules in
    let lt : c.place_of-place.result < length c.self.inside.heads.items = omega (arith, many, c.place_of-place.ensures.within) in
    let first = c.index-head.ensures ∙ get_or_default_zero c.self.inside.heads.items c.place_of-place.result c.index-head.result.now lt in
    let chain : IsChain 16 c.self.inside.nexts.items c.index-head.result.now = subst (λ (n : ℕ). IsChain 16 c.self.inside.nexts.items n) (sym first) (c.self.invariant.1.1 c.place_of-place.result lt).0 in
    let there : is_among c.in-Some.slot (slots_from 16 c.self.inside.nexts.items c.index-head.result.now) ≡ true = subst (λ (l : List ℕ). is_among c.in-Some.slot (slots_from 16 l c.index-head.result.now) ≡ true) c.deref-2.ensures.value c.in-Some.ensures.some.0 in
    let len : vec_len c.self.inside.pairs ≡ length c.self.inside.pairs.items = search rules in
    let lens : vec_len c.self.inside.nexts ≡ length c.self.inside.nexts.items = search rules in
    omega (arith, len, lens, c.self.invariant.1.0, head-below 16 c.self.inside.nexts.items c.index-head.result.now c.in-Some.slot chain there)

pub index_mut-requires-3 : goal.index_mut-requires-3
index_mut-requires-3 c =
    let many : c.len.result ≡ length c.self.inside.heads.items = search rules in
    let lt : c.place_of-place.result < length c.self.inside.heads.items = omega (arith, many, c.place_of-place.ensures.within) in
    let first = c.index-head.ensures ∙ get_or_default_zero c.self.inside.heads.items c.place_of-place.result c.index-head.result.now lt in
    let chain : IsChain 16 c.self.inside.nexts.items c.index-head.result.now = subst (λ (n : ℕ). IsChain 16 c.self.inside.nexts.items n) (sym first) (c.self.invariant.1.1 c.place_of-place.result lt).0 in
    let there : is_among c.in-Some.slot (slots_from 16 c.self.inside.nexts.items c.index-head.result.now) ≡ true = subst (λ (l : List ℕ). is_among c.in-Some.slot (slots_from 16 l c.index-head.result.now) ≡ true) c.deref-2.ensures.value c.in-Some.ensures.some.0 in
    let len : vec_len c.self.inside.pairs ≡ length c.self.inside.pairs.items = search rules in
    let lens : vec_len c.self.inside.nexts ≡ length c.self.inside.nexts.items = search rules in
    omega (arith, len, lens, c.self.invariant.1.0, head-below 16 c.self.inside.nexts.items c.index-head.result.now c.in-Some.slot chain there)

-- what the table is and has then
after : (c : goal.After-self-4-1) → IsTable (place_of c.self.inside.factor (length c.self.inside.heads.items)) (set c.self.inside.pairs.items c.in-Some.slot c.index.result.now) (set c.self.inside.nexts.items (c.index-head.result.now - 1) c.self.inside.free) (set c.self.inside.heads.items c.place_of-place.result c.index-2.result.now) c.index-head.result.now × ((p : Pair) → is_in p (pairs_of (buckets_from (set c.self.inside.pairs.items c.in-Some.slot c.index.result.now) (set c.self.inside.nexts.items (c.index-head.result.now - 1) c.self.inside.free) (set c.self.inside.heads.items c.place_of-place.result c.index-2.result.now))) ≡ (not (is_pair p (c.args.key, c.args.number)) && is_in p (pairs_of (buckets_from c.self.inside.pairs.items c.self.inside.nexts.items c.self.inside.heads.items)))) × (length (pairs_of (buckets_from (set c.self.inside.pairs.items c.in-Some.slot c.index.result.now) (set c.self.inside.nexts.items (c.index-head.result.now - 1) c.self.inside.free) (set c.self.inside.heads.items c.place_of-place.result c.index-2.result.now))) + 1 ≡ length (pairs_of (buckets_from c.self.inside.pairs.items c.self.inside.nexts.items c.self.inside.heads.items))) × (is_in (c.args.key, c.args.number) (pairs_of (buckets_from c.self.inside.pairs.items c.self.inside.nexts.items c.self.inside.heads.items)) ≡ true)
after c =
    let many : c.len.result ≡ length c.self.inside.heads.items = search rules in
    let lt : c.place_of-place.result < length c.self.inside.heads.items = omega (arith, many, c.place_of-place.ensures.within) in
    let first = c.index-head.ensures ∙ get_or_default_zero c.self.inside.heads.items c.place_of-place.result c.index-head.result.now lt in
    let chain : IsChain 16 c.self.inside.nexts.items c.index-head.result.now = subst (λ (n : ℕ). IsChain 16 c.self.inside.nexts.items n) (sym first) (c.self.invariant.1.1 c.place_of-place.result lt).0 in
    let there : is_among c.in-Some.slot (slots_from 16 c.self.inside.nexts.items c.index-head.result.now) ≡ true = subst (λ (l : List ℕ). is_among c.in-Some.slot (slots_from 16 l c.index-head.result.now) ≡ true) c.deref-2.ensures.value c.in-Some.ensures.some.0 in
    let below = head-below 16 c.self.inside.nexts.items c.index-head.result.now c.in-Some.slot chain there in
    let inside : c.index-head.result.now - 1 < length c.self.inside.pairs.items = omega (arith, below, c.self.invariant.1.0) in
    let next = c.index-2.ensures ∙ get_or_default_zero c.self.inside.nexts.items (c.index-head.result.now - 1) c.index-2.result.now below in
    let own = c.index.ensures ∙ get_or_default c.self.inside.pairs.items (c.index-head.result.now - 1) c.index.result.now (0, 0) inside in
    let value = ap (λ (l : List Pair). get_or l c.in-Some.slot (0, 0)) (sym c.deref.ensures.value) ∙ c.in-Some.ensures.some.1 in
    take-at (place_of c.self.inside.factor (length c.self.inside.heads.items)) c.self.inside.pairs.items c.self.inside.nexts.items c.self.inside.heads.items c.self.inside.free c.in-Some.slot c.place_of-place.result c.index-head.result.now c.index-2.result.now c.index.result.now (c.args.key, c.args.number) c.self.invariant.1 lt first there value own next

pub invariant_of-self : goal.invariant_of-self
invariant_of-self c =
    let same : length (set c.self.inside.heads.items c.place_of-place.result c.index-2.result.now) ≡ length c.self.inside.heads.items = search rules in (
      omega (arith, c.self.invariant.0, same),
      subst (λ (n : ℕ). IsTable (place_of c.self.inside.factor n) (set c.self.inside.pairs.items c.in-Some.slot c.index.result.now) (set c.self.inside.nexts.items (c.index-head.result.now - 1) c.self.inside.free) (set c.self.inside.heads.items c.place_of-place.result c.index-2.result.now) c.index-head.result.now) (sym same) (after c).0,
    )

pub returns : goal.returns
returns c = record {
  exact = sym (ap (λ (t : Spread). is_in (c.args.key, c.args.number) t.pairs) (sym c.self.view_is) ∙ (after c).3);
  factor = ap (λ (t : Spread). t.factor) c.self.view_is;
  length = (after c).2 ∙ ap (λ (t : Spread). length t.pairs) c.self.view_is;
  less = λ p. (after c).1 p ∙ ap (λ (t : Spread). not (is_pair p (c.args.key, c.args.number)) && is_in p t.pairs) c.self.view_is;
}
