use Rattle.std.proofs.Common.{◌≡◌, ◌∙◌, ℕ, ◌+◌, ◌<◌, ◌++◌, ap, arith, length, length-append, rules, set, subst, sym}
use Rattle.std.proofs.lemmas.Grind.{get_or_default_zero}
use Rattle.ordered_index.specs.Hashed.{place_of, AreCounts}
use Rattle.std.specs.Prelude.{◌||◌}
use Rattle.ordered_index.specs.Ordered.{Pair, OrderedIndex, is_in, is_pair}
use Rattle.ordered_index.proofs.Counting.{counted-within, counts-more}
use Rattle.ordered_index.proofs.Hashing.{apart-first, apart-second, more-first, more-second, neither}
use Rattle.ordered_index.proofs.hashed.HashedIndex.put.Goals as goal

pub put_if_room-requires : goal.put_if_room-requires
put_if_room-requires c = record {
  absent = (neither (c.args.key, c.args.number) c.self.inside.table.pairs c.self.inside.rest.pairs (ap (λ (r : OrderedIndex). is_in (c.args.key, c.args.number) r.pairs) c.self.view_is ∙ c.requires.absent)).0;
}

pub put-requires-clause-absent : goal.put-requires-clause-absent
put-requires-clause-absent c = (neither (c.args.key, c.args.number) c.self.inside.table.pairs c.self.inside.rest.pairs (ap (λ (r : OrderedIndex). is_in (c.args.key, c.args.number) r.pairs) c.self.view_is ∙ c.requires.absent)).1

pub overflow_add-index_mut : goal.overflow_add-index_mut
overflow_add-index_mut c =
    let many : c.len.result ≡ length c.self.inside.outside.items = search rules in
    let within : c.place_of-place.result < length c.self.inside.outside.items = omega (arith, many, c.place_of-place.ensures.within) in
    let at = ap (λ (n : ℕ). place_of c.self.inside.factor n c.args.key) (sym many) ∙ sym c.place_of-place.ensures.exact in
    let counted = c.index_mut.ensures.value ∙ get_or_default_zero c.self.inside.outside.items c.place_of-place.result c.index_mut.result.now within in
    let room : length (c.self.inside.table.pairs ++ c.self.inside.rest.pairs) < c.self.inside.rest.limit = subst (λ (r : OrderedIndex). length r.pairs < r.limit) (sym c.self.view_is) c.requires.room in
    let most = counted-within (place_of c.self.inside.factor (length c.self.inside.outside.items)) c.self.inside.outside.items c.self.inside.rest.pairs c.place_of-place.result c.self.invariant.3 within in
    omega (arith, room, c.limit-laws.ensures.exact, length-append c.self.inside.table.pairs c.self.inside.rest.pairs, counted, most)

pub invariant_of-self : goal.invariant_of-self
invariant_of-self c =
    let it : Pair = (c.args.key, c.args.number) in
    let free = neither it c.self.inside.table.pairs c.self.inside.rest.pairs (ap (λ (r : OrderedIndex). is_in it r.pairs) c.self.view_is ∙ c.requires.absent) in
    let many : c.len.result ≡ length c.self.inside.outside.items = search rules in
    let within : c.place_of-place.result < length c.self.inside.outside.items = omega (arith, many, c.place_of-place.ensures.within) in
    let at = ap (λ (n : ℕ). place_of c.self.inside.factor n c.args.key) (sym many) ∙ sym c.place_of-place.ensures.exact in
    let counted = c.index_mut.ensures.value ∙ get_or_default_zero c.self.inside.outside.items c.place_of-place.result c.index_mut.result.now within in
    let same : length (set c.self.inside.outside.items c.place_of-place.result (c.index_mut.result.now + 1)) ≡ length c.self.inside.outside.items = search rules in (
      omega (arith, c.self.invariant.0, (c.if-not-put_if_room.ensures).length, c.put.ensures.length, length-append c.self.inside.table.pairs c.self.inside.rest.pairs, length-append c.put_if_room.new.self.pairs c.put.new.self.pairs),
      apart-second it c.self.inside.table.pairs c.put_if_room.new.self.pairs c.self.inside.rest.pairs c.put.new.self.pairs c.self.invariant.1 free.0 (λ p. (c.if-not-put_if_room.ensures).more p) c.put.ensures.more,
      omega (arith, c.self.invariant.2, same),
      subst (λ (n : ℕ). AreCounts (place_of c.self.inside.factor n) (set c.self.inside.outside.items c.place_of-place.result (c.index_mut.result.now + 1)) c.put.new.self.pairs) (sym same) (counts-more (place_of c.self.inside.factor (length c.self.inside.outside.items)) c.self.inside.outside.items c.self.inside.rest.pairs c.put.new.self.pairs it c.place_of-place.result (c.index_mut.result.now + 1) c.self.invariant.3 c.put.ensures.kinds at within (ap (λ n. n + 1) counted)),
      c.self.invariant.4,
      (c.if-not-put_if_room.ensures).factor ∙ c.self.invariant.5,
    )

pub invariant_of-self-else-not-put_if_room : goal.invariant_of-self-else-not-put_if_room
invariant_of-self-else-not-put_if_room c =
    let it : Pair = (c.args.key, c.args.number) in
    let free = neither it c.self.inside.table.pairs c.self.inside.rest.pairs (ap (λ (r : OrderedIndex). is_in it r.pairs) c.self.view_is ∙ c.requires.absent) in (
      omega (arith, c.self.invariant.0, (c.if-not-put_if_room.ensures).length, length-append c.self.inside.table.pairs c.self.inside.rest.pairs, length-append c.put_if_room.new.self.pairs c.self.inside.rest.pairs),
      apart-first it c.self.inside.table.pairs c.put_if_room.new.self.pairs c.self.inside.rest.pairs c.self.invariant.1 free.1 (λ p. (c.if-not-put_if_room.ensures).more p),
      c.self.invariant.2,
      c.self.invariant.3,
      c.self.invariant.4,
      (c.if-not-put_if_room.ensures).factor ∙ c.self.invariant.5,
    )

pub returns-then-not-put_if_room-clause-more : goal.returns-then-not-put_if_room-clause-more
returns-then-not-put_if_room-clause-more c = λ p.
    more-second p (c.args.key, c.args.number) c.self.inside.table.pairs c.put_if_room.new.self.pairs c.self.inside.rest.pairs c.put.new.self.pairs ((c.if-not-put_if_room.ensures).more p) (c.put.ensures.more p)
    ∙ ap (λ (r : OrderedIndex). is_pair p (c.args.key, c.args.number) || is_in p r.pairs) c.self.view_is

pub returns-else-not-put_if_room-clause-more : goal.returns-else-not-put_if_room-clause-more
returns-else-not-put_if_room-clause-more c = λ p.
    more-first p (c.args.key, c.args.number) c.self.inside.table.pairs c.put_if_room.new.self.pairs c.self.inside.rest.pairs ((c.if-not-put_if_room.ensures).more p)
    ∙ ap (λ (r : OrderedIndex). is_pair p (c.args.key, c.args.number) || is_in p r.pairs) c.self.view_is
