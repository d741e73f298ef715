use mir.Val.{bool_byte}
use Rattle.std.proofs.Common.{◌≡◌, ◌-◌, ◌+◌, ◌∷◌, [], Bool, true, false, cond, drop, length, refl, sym, ap, subst, arith, ◌∙◌}
use Rattle.coap_store.specs.Entries.{Entry, entry_key}
use Rattle.coap_store.specs.Freshness.{is_fresh}
use Rattle.coap_store.specs.Evicting.{evictions_of}
use Rattle.coap_store_lru.specs.Indexing.{AreThoseOf, is_indexed}
use Rattle.coap_store.specs.Lists.{others}
use Rattle.coap_store_lru.proofs.Evictions.{IsLast, IsLast-of, last-dropped, none-dropped, take-none}
use Rattle.coap_store_lru.proofs.Kept.{AreThoseOf-others}
use Rattle.coap_store_lru.proofs.Recency.{total-others}
use Rattle.coap_store_lru.proofs.lru_store.take_last.Goals as goal

pub overflow_sub-total : goal.overflow_sub-total
overflow_sub-total g c =
    let es = c.args.recent.now.entries in
    let x : Entry = (c.in-Some.key.key, c.in-Some.stored) in
    let last : IsLast es x = IsLast-of es x c.requires.those.distinct (sym c.in-Some.ensures.value) in
    omega (arith, c.bytes_of.ensures, c.requires.those.counted, total-others x.0 es x c.requires.those.distinct last.found)

pub returns-in-Some-clause-those : goal.returns-in-Some-clause-those
returns-in-Some-clause-those g c =
    let es = c.args.recent.now.entries in
    let x : Entry = (c.in-Some.key.key, c.in-Some.stored) in
    let last : IsLast es x = IsLast-of es x c.requires.those.distinct (sym c.in-Some.ensures.value) in
    let left : c.remove_last.new.self.entries ≡ others entry_key x.0 es = ap (λ m. m.entries) c.remove_last.ensures.entries ∙ last.left in
    subst (λ l. AreThoseOf l (c.args.total.now - c.bytes_of.result) (is_indexed c.remove.new.self.secret c.remove.new.self.groups)) (sym left)
    (AreThoseOf-others es c.args.total.now (is_indexed c.args.index.now.secret c.args.index.now.groups) c.requires.those x.0 x (is_indexed c.remove.new.self.secret c.remove.new.self.groups) (c.args.total.now - c.bytes_of.result) last.found c.remove.ensures.left (omega (arith, c.bytes_of.ensures, c.requires.those.counted, total-others x.0 es x c.requires.those.distinct last.found)))

pub returns-in-None-clause-those : goal.returns-in-None-clause-those
returns-in-None-clause-those g c =
    let es = c.args.recent.now.entries in
    let left : c.remove_last.new.self.entries ≡ es = ap (λ m. m.entries) c.remove_last.ensures.entries ∙ take-none es (sym c.in-None.ensures.value) in
    subst (λ l. AreThoseOf l c.args.total.now (is_indexed c.args.index.now.secret c.args.index.now.groups)) (sym left) c.requires.those

-- a flag as a number
one-byte : (b : Bool) → bool_byte b ≡ 0 + cond b 1 0
one-byte true = refl
one-byte false = refl

pub returns-in-Some-clause-counted : goal.returns-in-Some-clause-counted
returns-in-Some-clause-counted g c =
    let es = c.args.recent.now.entries in
    let x : Entry = (c.in-Some.key.key, c.in-Some.stored) in
    let last : drop (length es - 1) es ≡ x ∷ [] = last-dropped es x (sym c.in-Some.ensures.value) in
    rw (last, c.from.ensures, c.is_fresh.ensures) (ap (λ n. record { entries = 1; fresh = n }) (one-byte (is_fresh c.args.now c.in-Some.stored)))

pub returns-in-None-clause-counted : goal.returns-in-None-clause-counted
returns-in-None-clause-counted g c = c.new.ensures ∙ ap (evictions_of c.args.now) (sym (none-dropped c.args.recent.now.entries (sym c.in-None.ensures.value)))
