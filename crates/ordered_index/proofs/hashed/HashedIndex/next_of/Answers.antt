use Rattle.std.proofs.Common.{◌≡◌, ◌∙◌, ◌<◌, ℕ, ap, arith, length, get_or, rules, sym}
use Rattle.std.proofs.lemmas.Grind.{get_or_default_zero}
use Rattle.ordered_index.specs.Hashed.{place_of}
use Rattle.ordered_index.proofs.Counting.{none-outside}
use Rattle.ordered_index.proofs.Hashing.{next-first}
use Rattle.ordered_index.proofs.hashed.HashedIndex.next_of.Goals as goal

pub returns-then-index-eq0 : goal.returns-then-index-eq0
returns-then-index-eq0 c =
    let many : c.len.result ≡ length c.self.inside.outside.items = search rules in
    let within : c.place_of-place.result < length c.self.inside.outside.items = omega (arith, many, c.place_of-place.ensures.within) in
    let at = ap (λ (n : ℕ). place_of c.self.inside.factor n c.args.key) (sym many) ∙ sym c.place_of-place.ensures.exact in
    let none : get_or c.self.inside.outside.items c.place_of-place.result 0 ≡ 0 = sym (get_or_default_zero c.self.inside.outside.items c.place_of-place.result c.index.result.now within) ∙ sym c.index.ensures ∙ c.if-index-eq0.true in
    record {
      exact = rw (← c.self.view_is) (next-first c.args.key c.args.after c.self.inside.table.pairs c.self.inside.rest.pairs c.next_of-then-index-eq0.result c.next_of-then-index-eq0.ensures.exact (λ n. none-outside (place_of c.self.inside.factor (length c.self.inside.outside.items)) c.self.inside.outside.items c.self.inside.rest.pairs c.args.key n c.place_of-place.result c.self.invariant.3 within none at));
    }
