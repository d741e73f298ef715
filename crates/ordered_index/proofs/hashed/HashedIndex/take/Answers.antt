use Rattle.std.proofs.Common.{◌≡◌, ◌∙◌, ℕ, ◌-◌, ◌<◌, true, ap, arith, length, length-append, rules, set, subst, sym}
use Rattle.std.proofs.lemmas.Grind.{get_or_default_zero}
use Rattle.ordered_index.specs.Hashed.{place_of, AreCounts}
use Rattle.std.specs.Prelude.{◌&&◌, not}
use Rattle.ordered_index.specs.Ordered.{Pair, OrderedIndex, is_in, is_pair}
use Rattle.ordered_index.proofs.Counting.{counted-some, counts-less}
use Rattle.ordered_index.proofs.Hashing.{apart-less, in-more, in-second, less-both, not-second, stays-out}
use Rattle.ordered_index.proofs.hashed.HashedIndex.take.Goals as goal

pub take-requires : goal.take-requires
take-requires c = record {
  there = in-second (c.args.key, c.args.number) c.self.inside.table.pairs c.self.inside.rest.pairs (ap (λ (r : OrderedIndex). is_in (c.args.key, c.args.number) r.pairs) c.self.view_is ∙ c.requires.there) (sym (c.if-not-take_if_there.ensures).exact);
}

pub returns-then-not-take_if_there-clause-less : goal.returns-then-not-take_if_there-clause-less
returns-then-not-take_if_there-clause-less c = λ p.
    less-both p (c.args.key, c.args.number) c.self.inside.table.pairs c.take_if_there.new.self.pairs c.self.inside.rest.pairs c.take.new.self.pairs ((c.if-not-take_if_there.ensures).less p) (c.take.ensures.less p)
    ∙ ap (λ (r : OrderedIndex). not (is_pair p (c.args.key, c.args.number)) && is_in p r.pairs) c.self.view_is

pub returns-else-not-take_if_there-clause-less : goal.returns-else-not-take_if_there-clause-less
returns-else-not-take_if_there-clause-less c = λ p.
    less-both p (c.args.key, c.args.number) c.self.inside.table.pairs c.take_if_there.new.self.pairs c.self.inside.rest.pairs c.self.inside.rest.pairs ((c.if-not-take_if_there.ensures).less p) (stays-out p (c.args.key, c.args.number) c.self.inside.rest.pairs (not-second (c.args.key, c.args.number) c.self.inside.table.pairs c.self.inside.rest.pairs c.self.invariant.1 (sym (c.if-not-take_if_there.ensures).exact)))
    ∙ ap (λ (r : OrderedIndex). not (is_pair p (c.args.key, c.args.number)) && is_in p r.pairs) c.self.view_is

pub overflow_sub-index_mut : goal.overflow_sub-index_mut
overflow_sub-index_mut c =
    let it : Pair = (c.args.key, c.args.number) in
    let many : c.len.result ≡ length c.self.inside.outside.items = search rules in
    let within : c.place_of-place.result < length c.self.inside.outside.items = omega (arith, many, c.place_of-place.ensures.within) in
    let at = ap (λ (n : ℕ). place_of c.self.inside.factor n c.args.key) (sym many) ∙ sym c.place_of-place.ensures.exact in
    let counted = c.index_mut.ensures.value ∙ get_or_default_zero c.self.inside.outside.items c.place_of-place.result c.index_mut.result.now within in
    let there = in-second it c.self.inside.table.pairs c.self.inside.rest.pairs (ap (λ (r : OrderedIndex). is_in it r.pairs) c.self.view_is ∙ c.requires.there) (sym (c.if-not-take_if_there.ensures).exact) in
    omega (arith, counted, counted-some (place_of c.self.inside.factor (length c.self.inside.outside.items)) c.self.inside.outside.items c.self.inside.rest.pairs it c.place_of-place.result c.self.invariant.3 there at within)

pub invariant_of-self : goal.invariant_of-self
invariant_of-self c =
    let it : Pair = (c.args.key, c.args.number) in
    let many : c.len.result ≡ length c.self.inside.outside.items = search rules in
    let within : c.place_of-place.result < length c.self.inside.outside.items = omega (arith, many, c.place_of-place.ensures.within) in
    let at = ap (λ (n : ℕ). place_of c.self.inside.factor n c.args.key) (sym many) ∙ sym c.place_of-place.ensures.exact in
    let counted = c.index_mut.ensures.value ∙ get_or_default_zero c.self.inside.outside.items c.place_of-place.result c.index_mut.result.now within in
    let left : (p : Pair) → is_in p c.take.new.self.pairs ≡ true → is_in p c.self.inside.rest.pairs ≡ true = λ p there. in-more p it c.self.inside.rest.pairs c.take.new.self.pairs (c.take.ensures.less p) there in
    let same : length (set c.self.inside.outside.items c.place_of-place.result (c.index_mut.result.now - 1)) ≡ length c.self.inside.outside.items = search rules in (
      omega (arith, c.self.invariant.0, (c.if-not-take_if_there.ensures).length, c.take.ensures.length, length-append c.self.inside.table.pairs c.self.inside.rest.pairs, length-append c.take_if_there.new.self.pairs c.take.new.self.pairs),
      apart-less it c.self.inside.table.pairs c.take_if_there.new.self.pairs c.self.inside.rest.pairs c.take.new.self.pairs c.self.invariant.1 (c.if-not-take_if_there.ensures).less left,
      omega (arith, c.self.invariant.2, same),
      subst (λ (n : ℕ). AreCounts (place_of c.self.inside.factor n) (set c.self.inside.outside.items c.place_of-place.result (c.index_mut.result.now - 1)) c.take.new.self.pairs) (sym same) (counts-less (place_of c.self.inside.factor (length c.self.inside.outside.items)) c.self.inside.outside.items c.self.inside.rest.pairs c.take.new.self.pairs it c.place_of-place.result (c.index_mut.result.now - 1) c.self.invariant.3 c.take.ensures.kinds at within (ap (λ n. n - 1) counted)),
      c.self.invariant.4,
      (c.if-not-take_if_there.ensures).factor ∙ c.self.invariant.5,
    )
