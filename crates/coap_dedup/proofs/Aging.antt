-- Which records are live as time passes: in records ordered by time, the expired ones come first.
use Rattle.std.proofs.Common.{◌≡◌, ◌==◌, ℕ, ◌+◌, ◌<◌, ◌≤◌, Bool, true, false, cond, not, List, [], ◌∷◌, length, drop, zero, suc, Option, Some, None, refl, sym, ap, ◌∙◌, arith, slice_get}
use Rattle.std.specs.Option.{option_map_or}
use Rattle.std.specs.List.{AllByRecursion}
use Rattle.std.proofs.lemmas.Bool.{ltb-true, lt-ltb, both_ways, not-true, not-false, eq-eqb, ne_eqb}
use Rattle.coap_dedup.specs.declared.record.Record.{Record}
use Rattle.coap_dedup.specs.Lists.{is_living, living, AreInOrder, AreUpTo}

-- what was kept later lives at least as long
pub is_living-younger : (lifetime now : ℕ) (r s : Record) → r.at ≤ s.at → is_living lifetime now r ≡ true → is_living lifetime now s ≡ true
is_living-younger lifetime now r s younger lives = lt-ltb now (s.at + lifetime) (omega (arith, ltb-true now (r.at + lifetime) lives))

-- what is live at a time is live at every earlier one
pub is_living-before : (lifetime now later : ℕ) (r : Record) → now ≤ later → is_living lifetime later r ≡ true → is_living lifetime now r ≡ true
is_living-before lifetime now later r before lives = lt-ltb now (r.at + lifetime) (omega (arith, ltb-true later (r.at + lifetime) lives))

-- a list has an item at each position
none-past : (rs : List Record) (i : ℕ) → i < length rs → slice_get rs i ≡ None → ⊥
none-past [] i within gone = absurd (omega arith)
none-past (r ∷ rs) zero within gone = cc
none-past (r ∷ rs) (suc i) within gone = none-past rs i (omega arith) gone

module _ (lifetime now : ℕ) where
  -- no more are live than there are
  pub length-living : (rs : List Record) → length (living lifetime now rs) ≤ length rs
  length-living [] = omega arith
  length-living (r ∷ rs) = go (is_living lifetime now r) (length-living rs)
    where
      go : (b : Bool) → length (living lifetime now rs) ≤ length rs → length (cond b (r ∷ living lifetime now rs) (living lifetime now rs)) ≤ length (r ∷ rs)
      go true rest = omega arith
      go false rest = omega arith

  -- if a record is live, so are all that were kept after it
  living-younger : (r : Record) (rs : List Record) → is_living lifetime now r ≡ true → AllByRecursion (λ s. r.at ≤ s.at) rs → living lifetime now rs ≡ rs
  living-younger r [] lives younger = refl
  living-younger r (s ∷ rs) lives younger = rw (is_living-younger lifetime now r s younger.0 lives, living-younger r rs lives younger.1) refl

  -- so if the first is live, all are
  pub living-all : (r : Record) (rs : List Record) → AreInOrder (r ∷ rs) → is_living lifetime now r ≡ true → living lifetime now (r ∷ rs) ≡ r ∷ rs
  living-all r rs in_order lives = rw (lives, living-younger r rs lives in_order.0) refl

  -- and if it isn't, the live ones are those among the others
  pub living-rest : (r : Record) (rs : List Record) → is_living lifetime now r ≡ false → living lifetime now (r ∷ rs) ≡ living lifetime now rs
  living-rest r rs dead = rw dead refl

  -- a lower bound of the times of all records is one of the time of each
  at-place : (least : ℕ) (rs : List Record) (i : ℕ) (x : Record) → AllByRecursion (λ s. least ≤ s.at) rs → slice_get rs i ≡ Some x → least ≤ x.at
  at-place least [] i x all at = absurd cc
  at-place least (r ∷ rs) zero x all at = let same : r ≡ x = cc in omega (arith, all.0, ap (λ (y : Record). y.at) same)
  at-place least (r ∷ rs) (suc i) x all at = at-place least rs i x all.1 at

  -- if one is live, so are all from there on
  pub living-from : (rs : List Record) (i : ℕ) (x : Record) → AreInOrder rs → slice_get rs i ≡ Some x → is_living lifetime now x ≡ true → length rs ≤ i + length (living lifetime now rs)
  living-from [] i x in_order at lives = absurd cc
  living-from (r ∷ rs) zero x in_order at lives =
      let same : x ≡ r = cc in
      let first : is_living lifetime now r ≡ true = sym (ap (is_living lifetime now) same) ∙ lives in
      omega (arith, ap length (living-all r rs in_order first))
  living-from (r ∷ rs) (suc i) x in_order at lives = go (is_living lifetime now r) (living-from rs i x in_order.1 at lives)
    where
      go : (b : Bool) → length rs ≤ i + length (living lifetime now rs) → length (r ∷ rs) ≤ suc i + length (cond b (r ∷ living lifetime now rs) (living lifetime now rs))
      go true rest = omega arith
      go false rest = omega arith

  -- if one isn't, none up to there is
  pub living-past : (rs : List Record) (i : ℕ) (x : Record) → AreInOrder rs → slice_get rs i ≡ Some x → is_living lifetime now x ≡ false → i + 1 + length (living lifetime now rs) ≤ length rs
  living-past [] i x in_order at dead = absurd cc
  living-past (r ∷ rs) zero x in_order at dead =
      let same : x ≡ r = cc in
      let first : is_living lifetime now r ≡ false = sym (ap (is_living lifetime now) same) ∙ dead in
      omega (arith, ap length (living-rest r rs first), length-living rs)
  living-past (r ∷ rs) (suc i) x in_order at dead = go (is_living lifetime now r) refl (living-past rs i x in_order.1 at dead)
    where
      go : (b : Bool) → is_living lifetime now r ≡ b → i + 1 + length (living lifetime now rs) ≤ length rs → suc i + 1 + length (living lifetime now (r ∷ rs)) ≤ length (r ∷ rs)
      go true lives rest = absurd (both_ways (is_living lifetime now x) dead (is_living-younger lifetime now r x (at-place r.at rs i x in_order.0 at) lives))
      go false gone rest = omega (arith, ap length (living-rest r rs gone))

  -- what holds for all records holds for the live ones
  All-living : (P : Record → Type 0) (rs : List Record) → AllByRecursion P rs → AllByRecursion P (living lifetime now rs)
  All-living P [] all = tt
  All-living P (r ∷ rs) all = go (is_living lifetime now r) (All-living P rs all.1)
    where
      go : (b : Bool) → AllByRecursion P (living lifetime now rs) → AllByRecursion P (cond b (r ∷ living lifetime now rs) (living lifetime now rs))
      go true rest = (all.0, rest)
      go false rest = rest

  -- the live ones among records in order are in order
  pub AreInOrder-living : (rs : List Record) → AreInOrder rs → AreInOrder (living lifetime now rs)
  AreInOrder-living [] in_order = tt
  AreInOrder-living (r ∷ rs) in_order = go (is_living lifetime now r) (AreInOrder-living rs in_order.1)
    where
      go : (b : Bool) → AreInOrder (living lifetime now rs) → AreInOrder (cond b (r ∷ living lifetime now rs) (living lifetime now rs))
      go true rest = (All-living (λ s. r.at ≤ s.at) rs in_order.0, rest)
      go false rest = rest

  -- if no record was kept after a time, none of the live ones was
  pub AreUpTo-living : (last : ℕ) (rs : List Record) → AreUpTo last rs → AreUpTo last (living lifetime now rs)
  AreUpTo-living last rs all = All-living (λ r. r.at ≤ last) rs all

  -- the same, from a test of the record at a position
  pub living-from_place : (rs : List Record) (i : ℕ) → AreInOrder rs → option_map_or (is_living lifetime now) (slice_get rs i) false ≡ true → length rs ≤ i + length (living lifetime now rs)
  living-from_place rs i in_order lives = go (slice_get rs i) refl lives
    where
      go : (o : Option Record) → slice_get rs i ≡ o → option_map_or (is_living lifetime now) o false ≡ true → length rs ≤ i + length (living lifetime now rs)
      go None at alive = absurd cc
      go (Some x) at alive = living-from rs i x in_order at alive

  -- and if that one has expired
  pub living-past_place : (rs : List Record) (i : ℕ) → AreInOrder rs → i < length rs → option_map_or (is_living lifetime now) (slice_get rs i) false ≡ false → i + 1 + length (living lifetime now rs) ≤ length rs
  living-past_place rs i in_order within dead = go (slice_get rs i) refl dead
    where
      go : (o : Option Record) → slice_get rs i ≡ o → option_map_or (is_living lifetime now) o false ≡ false → i + 1 + length (living lifetime now rs) ≤ length rs
      go None at gone = absurd (none-past rs i within at)
      go (Some x) at gone = living-past rs i x in_order at gone

  -- if the first isn't found to have expired, all are live
  pub living-settled : (rs : List Record) → AreInOrder rs → option_map_or (λ r. not (is_living lifetime now r)) (slice_get rs 0) false ≡ false → living lifetime now rs ≡ rs
  living-settled [] in_order live = refl
  living-settled (r ∷ rs) in_order live = living-all r rs in_order (not-false (is_living lifetime now r) live)

  -- and if it has expired, only the others can be live
  pub living-unsettled : (rs : List Record) → option_map_or (λ r. not (is_living lifetime now r)) (slice_get rs 0) false ≡ true → (living lifetime now (drop 1 rs) ≡ living lifetime now rs) × (length (drop 1 rs) < length rs)
  living-unsettled [] dead = absurd cc
  living-unsettled (r ∷ rs) dead = (sym (living-rest r rs (not-true (is_living lifetime now r) dead)), omega arith)

  -- in a full list, the live records reach the limit exactly if the first is live
  pub full-is : (limit : ℕ) (rs : List Record) (dead : Bool) → AreInOrder rs → length rs ≡ limit → dead ≡ option_map_or (λ r. not (is_living lifetime now r)) (slice_get rs 0) false → not dead ≡ (length (living lifetime now rs) == limit)
  full-is limit rs true in_order full is = sym (ne_eqb (length (living lifetime now rs)) limit (λ e. let less = living-unsettled rs (sym is) in omega (arith, ap length less.0, length-living (drop 1 rs))))
  full-is limit rs false in_order full is = sym (eq-eqb (length (living lifetime now rs)) limit (ap length (living-settled rs in_order (sym is)) ∙ full))

  -- and in a list that isn't full, they don't
  pub not_full-is : (limit : ℕ) (rs : List Record) → length rs ≤ limit → (length rs ≡ limit → ⊥) → false ≡ (length (living lifetime now rs) == limit)
  not_full-is limit rs within other = sym (ne_eqb (length (living lifetime now rs)) limit (λ e. other (omega (arith, length-living rs))))
