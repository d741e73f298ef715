use Rattle.std.proofs.Common.{◌≡◌, ◌∙◌, ◌<◌, ℕ, List, ap, arith, rules, length, subst, sym}
use Rattle.std.proofs.lemmas.Grind.{get_or_default_zero}
use Rattle.ordered_index.specs.Chains.{pairs_in, slots_from, IsChain}
use Rattle.ordered_index.specs.Hashed.{place_of, Spread}
use Rattle.ordered_index.specs.Ordered.{Pair, IsNextOf}
use Rattle.ordered_index.proofs.Chaining.{next-table}
use Rattle.ordered_index.proofs.table.Table.next_of.Goals as goal

pub next_in-requires-clause-chain : goal.next_in-requires-clause-chain
next_in-requires-clause-chain c =
    let many : c.len.result ≡ length c.self.inside.heads.items = search rules in
    let lt : c.place_of-place.result < length c.self.inside.heads.items = omega (arith, many, c.place_of-place.ensures.within) in
    let first = c.index.ensures ∙ get_or_default_zero c.self.inside.heads.items c.place_of-place.result c.index.result.now lt in
    let chain : IsChain 16 c.self.inside.nexts.items c.index.result.now = subst (λ (n : ℕ). IsChain 16 c.self.inside.nexts.items n) (sym first) (c.self.invariant.1.1 c.place_of-place.result lt).0 in
    subst (λ (l : List ℕ). IsChain 16 l c.index.result.now) (sym c.deref-2.ensures.value) chain

pub returns : goal.returns
returns c =
    let many : c.len.result ≡ length c.self.inside.heads.items = search rules in
    let lt : c.place_of-place.result < length c.self.inside.heads.items = omega (arith, many, c.place_of-place.ensures.within) in
    let first = c.index.ensures ∙ get_or_default_zero c.self.inside.heads.items c.place_of-place.result c.index.result.now lt in
    let at = ap (λ (n : ℕ). place_of c.self.inside.factor n c.args.key) (sym many) ∙ sym c.place_of-place.ensures.exact in
    let own : IsNextOf c.args.key c.args.after (pairs_in c.self.inside.pairs.items (slots_from 16 c.deref-2.result.now c.index.result.now)) c.next_in.result = subst (λ (l : List Pair). IsNextOf c.args.key c.args.after (pairs_in l (slots_from 16 c.deref-2.result.now c.index.result.now)) c.next_in.result) c.deref.ensures.value c.next_in.ensures.exact in
    let mine : IsNextOf c.args.key c.args.after (pairs_in c.self.inside.pairs.items (slots_from 16 c.self.inside.nexts.items c.index.result.now)) c.next_in.result = subst (λ (l : List ℕ). IsNextOf c.args.key c.args.after (pairs_in c.self.inside.pairs.items (slots_from 16 l c.index.result.now)) c.next_in.result) c.deref-2.ensures.value own in
    record {
      exact = subst (λ (t : Spread). IsNextOf c.args.key c.args.after t.pairs c.next_in.result) c.self.view_is (next-table (place_of c.self.inside.factor (length c.self.inside.heads.items)) c.self.inside.pairs.items c.self.inside.nexts.items c.self.inside.heads.items c.self.inside.free c.place_of-place.result c.index.result.now c.args.key c.args.after c.next_in.result c.self.invariant.1 lt first at mine);
    }
