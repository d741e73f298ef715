-- The records of one endpoint among all.
use Rattle.std.proofs.Common.{◌≡◌, ◌==◌, ℕ, ◌+◌, ◌%◌, ◌^◌, ◌<◌, ◌≤◌, Bool, true, false, cond, eqb, List, [], ◌∷◌, ◌++◌, length, zero, suc, Option, Some, None, IfSome, inl, inr, refl, sym, ap, subst, ◌∙◌, arith, slice_get}
use Rattle.std.specs.List.{AllByRecursion}
use Rattle.std.specs.Option.{option_map_or}
use Rattle.std.proofs.lemmas.Bool.{eq-eqb, eqb-false, eqb-true, ne_eqb}
use Rattle.coap_endpoint.specs.declared.endpoint.Endpoint.{Endpoint}
use Rattle.coap_dedup.specs.declared.record.Record.{Record}
use Rattle.coap_dedup.specs.Lists.{count_from, is_from, is_living, living, records_from, AreInOrder}
use Rattle.coap_dedup.specs.declared.sources.Share.{Share}
use Rattle.coap_dedup.specs.Sources.{AreLinked, last_of, numbers_from, place_of, share_of}
use Rattle.std.proofs.lemmas.Option.{slice_get_cases}
use Rattle.coap_dedup.proofs.Sourcing.{linked-at}
use Rattle.coap_dedup.proofs.Aging.{length-living, living-from_place, living-past_place}

-- one if it is so
abbrev pub one_if : Bool → ℕ
one_if b = cond b 1 0

module _ (from : Endpoint) where
  -- they are as many as their numbers
  pub length-numbers_from : (n : ℕ) (rs : List Record) → length (numbers_from n from rs) ≡ count_from from rs
  length-numbers_from n [] = refl
  length-numbers_from n (r ∷ rs) = go (is_from from r) (length-numbers_from (n + 1) rs)
    where
      go : (b : Bool) → length (numbers_from (n + 1) from rs) ≡ count_from from rs → length (cond b (n % 2 ^ 64 ∷ numbers_from (n + 1) from rs) (numbers_from (n + 1) from rs)) ≡ length (cond b (r ∷ records_from from rs) (records_from from rs))
      go true rest = omega (arith, rest)
      go false rest = rest

  -- and no more than all
  pub length-records_from : (rs : List Record) → count_from from rs ≤ length rs
  length-records_from [] = omega arith
  length-records_from (r ∷ rs) = go (is_from from r) (length-records_from rs)
    where
      go : (b : Bool) → count_from from rs ≤ length rs → length (cond b (r ∷ records_from from rs) (records_from from rs)) ≤ length (r ∷ rs)
      go true rest = omega arith
      go false rest = omega arith

  -- one more is one of them or not
  pub count_from-push : (rs : List Record) (x : Record) → count_from from (rs ++ x ∷ []) ≡ count_from from rs + one_if (is_from from x)
  count_from-push [] x = go (is_from from x)
    where
      go : (b : Bool) → length (cond b (x ∷ []) []) ≡ 0 + one_if b
      go true = omega arith
      go false = omega arith
  count_from-push (r ∷ rs) x = go (is_from from r) (count_from-push rs x)
    where
      go : (b : Bool) → count_from from (rs ++ x ∷ []) ≡ count_from from rs + one_if (is_from from x) → length (cond b (r ∷ records_from from (rs ++ x ∷ [])) (records_from from (rs ++ x ∷ []))) ≡ length (cond b (r ∷ records_from from rs) (records_from from rs)) + one_if (is_from from x)
      go true rest = omega (arith, rest)
      go false rest = rest

  -- the number at a place among them is that of the record at this place among them
  pub numbered-at : (n : ℕ) (rs : List Record) (j m : ℕ) → slice_get (numbers_from n from rs) j ≡ Some m → (i : ℕ) × (i < length rs) × (m ≡ (n + i) % 2 ^ 64) × (slice_get rs i ≡ slice_get (records_from from rs) j)
  numbered-at n [] j m at = absurd cc
  numbered-at n (r ∷ rs) j m at = go (is_from from r) j at (λ k. numbered-at (n + 1) rs k m)
    where
      later : (k : ℕ) → (i : ℕ) × (i < length rs) × (m ≡ (n + 1 + i) % 2 ^ 64) × (slice_get rs i ≡ slice_get (records_from from rs) k)
          → (i : ℕ) × (i < length (r ∷ rs)) × (m ≡ (n + i) % 2 ^ 64) × (slice_get (r ∷ rs) i ≡ slice_get (records_from from rs) k)
      later k (i, within, number, there) =
          let further : n + suc i ≡ n + 1 + i = omega arith in
          (suc i, omega arith, number ∙ ap (λ (l : ℕ). l % 2 ^ 64) (sym further), there)

      go : (b : Bool) (k : ℕ) → slice_get (cond b (n % 2 ^ 64 ∷ numbers_from (n + 1) from rs) (numbers_from (n + 1) from rs)) k ≡ Some m
          → ((l : ℕ) → slice_get (numbers_from (n + 1) from rs) l ≡ Some m → (i : ℕ) × (i < length rs) × (m ≡ (n + 1 + i) % 2 ^ 64) × (slice_get rs i ≡ slice_get (records_from from rs) l))
          → (i : ℕ) × (i < length (r ∷ rs)) × (m ≡ (n + i) % 2 ^ 64) × (slice_get (r ∷ rs) i ≡ slice_get (cond b (r ∷ records_from from rs) (records_from from rs)) k)
      go true zero is rest =
          let value : n % 2 ^ 64 ≡ m = cc in
          (zero, omega arith, sym value ∙ ap (λ (l : ℕ). l % 2 ^ 64) (omega arith), refl)
      go true (suc k) is rest = later k (rest k is)
      go false k is rest = later k (rest k is)

  -- so it is found by its number and that of the first
  pub found-numbered : (first : ℕ) (rs : List Record) (j m : ℕ) → first < 2 ^ 64 → length rs < 2 ^ 63 → slice_get (numbers_from first from rs) j ≡ Some m → slice_get rs (place_of first m) ≡ slice_get (records_from from rs) j
  found-numbered first rs j m fits few at =
      let (i, within, number, there) = numbered-at first rs j m at in
      let here : place_of first m ≡ i = omega arith in
      ap (slice_get rs) here ∙ there

  -- whether it is live is told by its number
  pub lives-numbered : (lifetime now first : ℕ) (rs : List Record) (j number : ℕ) (lives : Bool) → first < 2 ^ 64 → length rs < 2 ^ 63 → slice_get (numbers_from first from rs) j ≡ Some number
      → lives ≡ option_map_or (is_living lifetime now) (slice_get rs (place_of first number)) false → lives ≡ option_map_or (is_living lifetime now) (slice_get (records_from from rs) j) false
  lives-numbered lifetime now first rs j number lives fits few at told =
      told ∙ ap (λ (o : Option Record). option_map_or (is_living lifetime now) o false) (found-numbered first rs j number fits few at)

  -- and its link leads to the next number
  pub next-numbered : (first : ℕ) (nexts : List ℕ) (rs : List Record) (j number next : ℕ) → first < 2 ^ 64 → length rs < 2 ^ 63 → AreLinked first nexts rs → slice_get (numbers_from first from rs) j ≡ Some number → j + 1 < length (numbers_from first from rs)
      → IfSome (slice_get nexts (place_of first number)) (λ k. next ≡ k) → slice_get (numbers_from first from rs) (j + 1) ≡ Some next
  next-numbered first nexts rs j number next fits few are at within leads = elim (slice_get_cases (numbers_from first from rs) (j + 1)).1 [
    | inl (k, inside, there, same) ↦
        let (i, short, is, link) = linked-at from first nexts rs j number k are at (subst (λ (l : ℕ). slice_get (numbers_from first from rs) l ≡ Some k) further there) in
        let here : place_of first number ≡ i = omega arith in
        let found : slice_get nexts (place_of first number) ≡ Some k = ap (slice_get nexts) here ∙ link in
        there ∙ ap Some (sym (subst (λ (o : Option ℕ). IfSome o (λ l. next ≡ l)) found leads))
    | inr (past, none) ↦ absurd (omega (arith, past, within))
  ]
    where
      further : j + 1 ≡ suc j
      further = omega arith

  -- those that live are the same, whether one looks at the endpoint first or last
  pub records_from-living : (lifetime now : ℕ) (rs : List Record) → records_from from (living lifetime now rs) ≡ living lifetime now (records_from from rs)
  records_from-living lifetime now [] = refl
  records_from-living lifetime now (r ∷ rs) = go (is_living lifetime now r) refl (is_from from r) refl (records_from-living lifetime now rs)
    where
      go : (b : Bool) → is_living lifetime now r ≡ b → (c : Bool) → is_from from r ≡ c → records_from from (living lifetime now rs) ≡ living lifetime now (records_from from rs)
          → records_from from (cond b (r ∷ living lifetime now rs) (living lifetime now rs)) ≡ living lifetime now (cond c (r ∷ records_from from rs) (records_from from rs))
      go true lives true its rest = rw (its, lives) (ap (λ (l : List Record). r ∷ l) rest)
      go true lives false its rest = rw its rest
      go false dead true its rest = rw dead rest
      go false dead false its rest = rest

  -- so no more live than there are
  pub count_from-living : (lifetime now : ℕ) (rs : List Record) → count_from from (living lifetime now rs) ≤ count_from from rs
  count_from-living lifetime now rs = omega (arith, ap length (records_from-living lifetime now rs), length-living lifetime now (records_from from rs))

  -- what holds for all holds for these
  All-records_from : (P : Record → Type 0) (rs : List Record) → AllByRecursion P rs → AllByRecursion P (records_from from rs)
  All-records_from P [] all = tt
  All-records_from P (r ∷ rs) all = go (is_from from r) (All-records_from P rs all.1)
    where
      go : (b : Bool) → AllByRecursion P (records_from from rs) → AllByRecursion P (cond b (r ∷ records_from from rs) (records_from from rs))
      go true rest = (all.0, rest)
      go false rest = rest

  -- they are in order if all are
  pub AreInOrder-records_from : (rs : List Record) → AreInOrder rs → AreInOrder (records_from from rs)
  AreInOrder-records_from [] in_order = tt
  AreInOrder-records_from (r ∷ rs) in_order = go (is_from from r) (AreInOrder-records_from rs in_order.1)
    where
      go : (b : Bool) → AreInOrder (records_from from rs) → AreInOrder (cond b (r ∷ records_from from rs) (records_from from rs))
      go true rest = (All-records_from (λ s. r.at ≤ s.at) rs in_order.0, rest)
      go false rest = rest

  -- the one that has as many as it may has reached the limit exactly if its first is live
  pub own-full : (lifetime now limit : ℕ) (rs : List Record) (lives : Bool) → AreInOrder rs → count_from from rs ≡ limit → 0 < count_from from rs → lives ≡ option_map_or (is_living lifetime now) (slice_get (records_from from rs) 0) false → lives ≡ (count_from from (living lifetime now rs) == limit)
  own-full lifetime now limit rs lives in_order many some is =
      go lives is (AreInOrder-records_from rs in_order) (ap length (records_from-living lifetime now rs)) (length-living lifetime now (records_from from rs))
    where
      go : (b : Bool) → b ≡ option_map_or (is_living lifetime now) (slice_get (records_from from rs) 0) false → AreInOrder (records_from from rs) → count_from from (living lifetime now rs) ≡ length (living lifetime now (records_from from rs)) → length (living lifetime now (records_from from rs)) ≤ count_from from rs → b ≡ (count_from from (living lifetime now rs) == limit)
      go true told own same few = sym (eq-eqb (count_from from (living lifetime now rs)) limit (omega (arith, living-from_place lifetime now (records_from from rs) 0 own (sym told))))
      go false told own same few = sym (ne_eqb (count_from from (living lifetime now rs)) limit (λ e. omega (arith, living-past_place lifetime now (records_from from rs) 0 own some (sym told))))

  -- one that has fewer hasn't
  pub own-short : (lifetime now limit : ℕ) (rs : List Record) → count_from from rs < limit → false ≡ (count_from from (living lifetime now rs) == limit)
  own-short lifetime now limit rs few = sym (ne_eqb (count_from from (living lifetime now rs)) limit (λ e. omega (arith, count_from-living lifetime now rs)))

  -- and one that has none only if it may have none
  pub own-none : (lifetime now limit : ℕ) (rs : List Record) → count_from from rs ≡ 0 → eqb limit 0 ≡ (count_from from (living lifetime now rs) == limit)
  own-none lifetime now limit rs none = go (eqb limit 0) refl
    where
      few : count_from from (living lifetime now rs) ≡ 0
      few = omega (arith, none, count_from-living lifetime now rs)

      go : (b : Bool) → eqb limit 0 ≡ b → b ≡ (count_from from (living lifetime now rs) == limit)
      go true is = sym (eq-eqb (count_from from (living lifetime now rs)) limit (omega (arith, eqb-true limit 0 is, few)))
      go false is = sym (ne_eqb (count_from from (living lifetime now rs)) limit (λ e. eqb-false limit 0 is (omega (arith, few))))

-- a share tells how many numbers an endpoint has, at least one, and the first of them
pub share-some : (s : Share) (ms : List ℕ) → Some s ≡ share_of ms → (s.count ≡ length ms) × (0 < length ms) × (slice_get ms 0 ≡ Some s.first)
share-some s [] is = absurd cc
share-some s (m ∷ ms) is =
    let same : s ≡ record { count = length (m ∷ ms); first = m; last = last_of m ms } = cc in
    (ap (λ (t : Share). t.count) same, omega arith, ap (λ (t : Share). Some t.first) (sym same))

-- so if these are few, its count is small
pub share-few : (o : Option Share) (ms : List ℕ) → o ≡ share_of ms → length ms < 2 ^ 63 → IfSome o (λ s. s.count < 2 ^ 63)
share-few None ms is few = tt
share-few (Some s) ms is few = let some = share-some s ms is in omega (arith, some.0, few)

-- and without one it has none
pub share-none : (ms : List ℕ) → None ≡ share_of ms → length ms ≡ 0
share-none [] is = refl
share-none (m ∷ ms) is = absurd cc
