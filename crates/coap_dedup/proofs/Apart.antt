-- The record of a message: there is at most one, and it is found among the live ones if it is live.
use Rattle.std.proofs.Common.{◌≡◌, ℕ, ◌≤◌, Bool, true, false, cond, List, [], ◌∷◌, ◌++◌, zero, suc, slice_get, Some, None, ◌⊎◌, inl, inr, refl, ap, subst, ◌∙◌}
use Rattle.std.specs.List.{AllByRecursion}
use Rattle.coap_endpoint.specs.declared.endpoint.Endpoint.{Endpoint}
use Rattle.coap_dedup.specs.declared.key.Key.{Key}
use Rattle.coap_dedup.specs.declared.record.Record.{Record}
use Rattle.coap_dedup.specs.Keys.{key_of}
use Rattle.coap_dedup.specs.Lists.{is_of, is_living, living, record_of, AreApart, AreInOrder, AreUpTo}
use Rattle.coap_dedup.proofs.Orders.{same_key-itself, same_key-only, same_key-flips}

-- a message without a record isn't that of the first record, and has none among the others
pub not-first : (from : Endpoint) (id : ℕ) (r : Record) (rs : List Record) → record_of from id (r ∷ rs) ≡ None → (is_of from id r ≡ false) × (record_of from id rs ≡ None)
not-first from id r rs none = go (is_of from id r) none
  where
    go : (b : Bool) → cond b (Some r) (record_of from id rs) ≡ None → (b ≡ false) × (record_of from id rs ≡ None)
    go true e = absurd cc
    go false e = (refl, e)

-- a record of a message has its endpoint and its Message ID
pub is_of-key : (from : Endpoint) (id : ℕ) (r : Record) → is_of from id r ≡ true → (r.from ≡ from) × (r.id ≡ id)
is_of-key from id r e =
    let same = same_key-only (key_of r) (record { from = from; id = id }) e in
    (ap (λ (k : Key). k.from) same, ap (λ (k : Key). k.id) same)

-- among records of different messages, no later one is of the message of the first
pub apart-rest : (from : Endpoint) (id : ℕ) (r : Record) (rs : List Record) → AreApart (r ∷ rs) → is_of from id r ≡ true → record_of from id rs ≡ None
apart-rest from id r rs apart e =
    let same = same_key-only (key_of r) (record { from = from; id = id }) e in
    subst (λ (k : Key). record_of k.from k.id rs ≡ None) same apart.0

-- a message without a record has no live one
pub record_of-none : (lifetime now : ℕ) (from : Endpoint) (id : ℕ) (rs : List Record) → record_of from id rs ≡ None → record_of from id (living lifetime now rs) ≡ None
record_of-none lifetime now from id [] none = refl
record_of-none lifetime now from id (r ∷ rs) none = let parts = not-first from id r rs none in go (is_living lifetime now r) parts.0 (record_of-none lifetime now from id rs parts.1)
  where
    go : (b : Bool) → is_of from id r ≡ false → record_of from id (living lifetime now rs) ≡ None → record_of from id (cond b (r ∷ living lifetime now rs) (living lifetime now rs)) ≡ None
    go true other rest = rw other rest
    go false other rest = rest

-- what is found is the first record, or it is found among the others
first-or-rest : (from : Endpoint) (id : ℕ) (r : Record) (rs : List Record) (x : Record) → record_of from id (r ∷ rs) ≡ Some x → ((is_of from id r ≡ true) × (r ≡ x)) ⊎ ((is_of from id r ≡ false) × (record_of from id rs ≡ Some x))
first-or-rest from id r rs x found = go (is_of from id r) found
  where
    go : (b : Bool) → cond b (Some r) (record_of from id rs) ≡ Some x → ((b ≡ true) × (r ≡ x)) ⊎ ((b ≡ false) × (record_of from id rs ≡ Some x))
    go true e = inl (refl, cc)
    go false e = inr (refl, e)

-- a record that is live is found among the live ones
pub record_of-living : (lifetime now : ℕ) (from : Endpoint) (id : ℕ) (rs : List Record) (x : Record) → record_of from id rs ≡ Some x → is_living lifetime now x ≡ true → record_of from id (living lifetime now rs) ≡ Some x
record_of-living lifetime now from id [] x found lives = absurd cc
record_of-living lifetime now from id (r ∷ rs) x found lives = elim (first-or-rest from id r rs x found) [
  | inl first ↦ let alive : is_living lifetime now r ≡ true = ap (is_living lifetime now) first.1 ∙ lives in rw (alive, first.0) (ap Some first.1)
  | inr rest ↦ behind (is_living lifetime now r) rest.0 (record_of-living lifetime now from id rs x rest.1 lives)
]
  where
    behind : (b : Bool) → is_of from id r ≡ false → record_of from id (living lifetime now rs) ≡ Some x → record_of from id (cond b (r ∷ living lifetime now rs) (living lifetime now rs)) ≡ Some x
    behind true other rest = rw other rest
    behind false other rest = rest

-- and one that has expired is not
pub record_of-dead : (lifetime now : ℕ) (from : Endpoint) (id : ℕ) (rs : List Record) (x : Record) → AreApart rs → record_of from id rs ≡ Some x → is_living lifetime now x ≡ false → record_of from id (living lifetime now rs) ≡ None
record_of-dead lifetime now from id [] x apart found dead = absurd cc
record_of-dead lifetime now from id (r ∷ rs) x apart found dead = elim (first-or-rest from id r rs x found) [
  | inl first ↦ let gone : is_living lifetime now r ≡ false = ap (is_living lifetime now) first.1 ∙ dead in rw gone (record_of-none lifetime now from id rs (apart-rest from id r rs apart first.0))
  | inr rest ↦ behind (is_living lifetime now r) rest.0 (record_of-dead lifetime now from id rs x apart.1 rest.1 dead)
]
  where
    behind : (b : Bool) → is_of from id r ≡ false → record_of from id (living lifetime now rs) ≡ None → record_of from id (cond b (r ∷ living lifetime now rs) (living lifetime now rs)) ≡ None
    behind true other rest = rw other rest
    behind false other rest = rest

-- the live ones among records of different messages are of different messages
pub AreApart-living : (lifetime now : ℕ) (rs : List Record) → AreApart rs → AreApart (living lifetime now rs)
AreApart-living lifetime now [] apart = tt
AreApart-living lifetime now (r ∷ rs) apart = go (is_living lifetime now r) (AreApart-living lifetime now rs apart.1)
  where
    go : (b : Bool) → AreApart (living lifetime now rs) → AreApart (cond b (r ∷ living lifetime now rs) (living lifetime now rs))
    go true rest = (record_of-none lifetime now r.from r.id rs apart.0, rest)
    go false rest = rest

-- the messages for which one more record is found
pub record_of-push : (from : Endpoint) (id : ℕ) (rs : List Record) (x : Record) → record_of from id rs ≡ None → record_of from id (rs ++ x ∷ []) ≡ cond (is_of from id x) (Some x) None
record_of-push from id [] x none = refl
record_of-push from id (r ∷ rs) x none = let parts = not-first from id r rs none in rw parts.0 (record_of-push from id rs x parts.1)

-- what was found before is still found
pub record_of-others : (from : Endpoint) (id : ℕ) (rs : List Record) (x : Record) → is_of from id x ≡ false → record_of from id (rs ++ x ∷ []) ≡ record_of from id rs
record_of-others from id [] x other = rw other refl
record_of-others from id (r ∷ rs) x other = ap (λ o. cond (is_of from id r) (Some r) o) (record_of-others from id rs x other)

-- appending a record of another message leaves records of different messages
pub AreApart-push : (rs : List Record) (x : Record) → AreApart rs → record_of x.from x.id rs ≡ None → AreApart (rs ++ x ∷ [])
AreApart-push [] x apart none = (refl, tt)
AreApart-push (r ∷ rs) x apart none =
    let parts = not-first x.from x.id r rs none in
    let other : is_of r.from r.id x ≡ false = same_key-flips (key_of x) (key_of r) ∙ parts.0 in
    (record_of-others r.from r.id rs x other ∙ apart.0, AreApart-push rs x apart.1 parts.1)

-- and appending one that was kept last leaves them in order
pub AreInOrder-push : (rs : List Record) (x : Record) → AreInOrder rs → AreUpTo x.at rs → AreInOrder (rs ++ x ∷ [])
AreInOrder-push [] x in_order up_to = (tt, tt)
AreInOrder-push (r ∷ rs) x in_order up_to = (more rs in_order.0, AreInOrder-push rs x in_order.1 up_to.1)
  where
    more : (ss : List Record) → AllByRecursion (λ s. r.at ≤ s.at) ss → AllByRecursion (λ s. r.at ≤ s.at) (ss ++ x ∷ [])
    more [] all = (up_to.0, tt)
    more (s ∷ ss) all = (all.0, more ss all.1)

-- among records of different messages, each is the one that is found for its message
pub record_of-each : (rs : List Record) (i : ℕ) (x : Record) → AreApart rs → slice_get rs i ≡ Some x → record_of x.from x.id rs ≡ Some x
record_of-each [] i x apart at = absurd cc
record_of-each (r ∷ rs) zero x apart at =
    let same : r ≡ x = cc in
    subst (λ (y : Record). record_of y.from y.id (r ∷ rs) ≡ Some y) same (rw (same_key-itself (key_of r)) refl)
record_of-each (r ∷ rs) (suc i) x apart at = go (is_of x.from x.id r) refl (record_of-each rs i x apart.1 at)
  where
    go : (b : Bool) → is_of x.from x.id r ≡ b → record_of x.from x.id rs ≡ Some x → cond b (Some r) (record_of x.from x.id rs) ≡ Some x
    go true of rest = let none = apart-rest x.from x.id r rs apart of in absurd cc
    go false of rest = rest
