-- Entries are evicted from the end, one by one, as long as there are too many.
use Rattle.std.proofs.Common.{◌≡◌, ℕ, zero, suc, ◌+◌, drop, ◌-◌, ◌<◌, ◌≤◌, ◌&&◌, ◌⊎◌, inl, inr, Bool, true, false, cond, nat_le, nat_lt, ◌||◌, List, [], ◌∷◌, ◌++◌, Some, None, length, take, slice_get, refl, sym, ap, subst, ◌∙◌, arith}
use Rattle.std.specs.List.{list_all}
use Rattle.std.proofs.lemmas.Bool.{and_parts, leb-true, lt-leb, ltb-false, ltb-true, not-true, or_cases, or_parts}
use Rattle.std.specs.Prelude.{count_by}
use Rattle.std.proofs.lemmas.List.{append_cancel_left, length-append, length-take, take-append-drop}
use Rattle.std.proofs.lemmas.List.Sums.{sum_by-append, sum_by-cons}
use Rattle.coap_store.specs.Entries.{Entry, entry_key, entry_size}
use Rattle.coap_store.specs.declared.evictions.Evictions.{Evictions}
use Rattle.coap_store.specs.Evicting.{beyond, evictions_of}
use Rattle.coap_store.specs.Freshness.{is_fresh}
use Rattle.coap_store.specs.Keys.{same_key}
use Rattle.coap_store.specs.Lists.{has_other_key, of_key, others, are_distinct, total, cut}
use Rattle.coap_store.proofs.Cuts.{cut-beyond, cut-fits}
use Rattle.coap_store.specs.Alike.{same_key-itself}
use Rattle.coap_store_lru.proofs.Recency.{same_key-flips}

-- the last element comes after those before it
last_by : {X : Type 0} (n : ℕ) (xs : List X) (x : X) → length xs ≡ suc n → slice_get xs n ≡ Some x → xs ≡ take n xs ++ x ∷ []
last_by n [] x len is = absurd (omega (arith, len))
last_by zero (y ∷ []) x len is = let same : y ≡ x = cc in ap (λ z. z ∷ []) same
last_by zero (y ∷ z ∷ zs) x len is = absurd (omega (arith, len))
last_by (suc n) (y ∷ ys) x len is = ap (λ l. y ∷ l) (last_by n ys x (omega (arith, len)) is)

module _ {X : Type 0} (size : X → ℕ) where
  -- a list within both limits is kept whole
  pub cut-whole : (bytes count : ℕ) (xs : List X) → total size xs ≤ bytes → length xs ≤ count → cut size bytes count xs ≡ xs
  cut-whole bytes count [] small few = refl
  cut-whole bytes count (x ∷ xs) small few =
      let sum = sum_by-cons size x xs in
      let rest = cut-whole (bytes - size x) (count - 1) xs (omega (arith, small, sum)) (omega (arith, few)) in
      rw (cut-fits size bytes count x xs (omega (arith, small, sum)) (omega (arith, few)), rest) refl

  -- of a list that isn't, the last element isn't kept
  cut-without_last : (bytes count : ℕ) (xs : List X) (x : X) → (bytes < total size (xs ++ x ∷ [])) ⊎ (count < length (xs ++ x ∷ [])) → cut size bytes count (xs ++ x ∷ []) ≡ cut size bytes count xs
  cut-without_last bytes count [] x (inl large) = rw (lt-leb (size x) bytes (omega (arith, large, sum_by-cons size x []))) refl
  cut-without_last bytes count [] x (inr many) = go (nat_le (size x) bytes)
    where
      go : (b : Bool) → cond (b && nat_le 1 count) (x ∷ []) [] ≡ []
      go true = rw (lt-leb 1 count (omega (arith, many))) refl
      go false = refl
  cut-without_last bytes count (y ∷ ys) x exceeds = go (nat_le (size y) bytes) (nat_le 1 count) refl refl (λ e. cut-without_last (bytes - size y) (count - 1) ys x e)
    where
      less : size y ≤ bytes → 1 ≤ count → (bytes < total size (y ∷ (ys ++ x ∷ []))) ⊎ (count < length (y ∷ (ys ++ x ∷ []))) → (bytes - size y < total size (ys ++ x ∷ [])) ⊎ (count - 1 < length (ys ++ x ∷ []))
      less small some (inl large) = inl (omega (arith, small, large, sum_by-cons size y (ys ++ x ∷ [])))
      less small some (inr many) = inr (omega (arith, some, many))

      go : (a b : Bool) → nat_le (size y) bytes ≡ a → nat_le 1 count ≡ b
          → ((bytes - size y < total size (ys ++ x ∷ [])) ⊎ (count - 1 < length (ys ++ x ∷ [])) → cut size (bytes - size y) (count - 1) (ys ++ x ∷ []) ≡ cut size (bytes - size y) (count - 1) ys)
          → cond (a && b) (y ∷ cut size (bytes - size y) (count - 1) (ys ++ x ∷ [])) [] ≡ cond (a && b) (y ∷ cut size (bytes - size y) (count - 1) ys) []
      go true true e f rest = ap (λ l. y ∷ l) (rest (less (leb-true (size y) bytes e) (leb-true 1 count f) exceeds))
      go true false e f rest = refl
      go false b e f rest = refl

-- The last entry: those before it are the others.
pub record IsLast (entries : List Entry) (x : Entry) : Type 0 where
  pub found : of_key entry_key x.0 entries ≡ Some x
  pub left : take (length entries - 1) entries ≡ others entry_key x.0 entries

-- the last element passes a test that all pass
last_passes : {X : Type 0} (p : X → Bool) (ys : List X) (x : X) → list_all p (ys ++ x ∷ []) ≡ true → p x ≡ true
last_passes p [] x all = (and_parts (p x) true all).0
last_passes p (y ∷ ys) x all = last_passes p ys x (and_parts (p y) (list_all p (ys ++ x ∷ [])) all).1

-- it is found, and the others come before it
last_of : (ys : List Entry) (x : Entry) → are_distinct entry_key (ys ++ x ∷ []) ≡ true → (of_key entry_key x.0 (ys ++ x ∷ []) ≡ Some x) × (ys ≡ others entry_key x.0 (ys ++ x ∷ []))
last_of [] x distinct = rw (same_key-itself x.0) (refl, refl)
last_of (y ∷ ys) x distinct =
    let parts = and_parts (list_all (has_other_key entry_key y.0) (ys ++ x ∷ [])) (are_distinct entry_key (ys ++ x ∷ [])) distinct in
    let rest = last_of ys x parts.1 in
    let apart : same_key y.0 x.0 ≡ false = same_key-flips y.0 x.0 ∙ not-true (same_key x.0 y.0) (last_passes (has_other_key entry_key y.0) ys x parts.0) in
    rw apart (rest.0, ap (λ l. y ∷ l) rest.1)

-- the entry at the last position is the last one
pub IsLast-of : (entries : List Entry) (x : Entry) → are_distinct entry_key entries ≡ true → slice_get entries (length entries - 1) ≡ Some x → IsLast entries x
IsLast-of [] x distinct is = absurd cc
IsLast-of (e ∷ es) x distinct is =
    let n = length es in
    let len : length (e ∷ es) - 1 ≡ n = omega arith in
    let split : e ∷ es ≡ take n (e ∷ es) ++ x ∷ [] = last_by n (e ∷ es) x (omega arith) (subst (λ m. slice_get (e ∷ es) m ≡ Some x) len is) in
    let last = last_of (take n (e ∷ es)) x (subst (λ l. are_distinct entry_key l ≡ true) split distinct) in
    record {
      found = subst (λ l. of_key entry_key x.0 l ≡ Some x) (sym split) last.0;
      left = ap (λ m. take m (e ∷ es)) len ∙ last.1 ∙ ap (others entry_key x.0) (sym split);
    }

-- a list that isn't empty has a last element
has_last : {X : Type 0} (n : ℕ) (xs : List X) → length xs ≡ suc n → (x : X) × (slice_get xs n ≡ Some x)
has_last n [] len = absurd (omega (arith, len))
has_last zero (y ∷ ys) len = (y, refl)
has_last (suc n) (y ∷ ys) len = has_last n ys (omega (arith, len))

-- so cutting too many entries gives the same without the last one
pub cut-taken : (bytes count : ℕ) (entries : List Entry) → (bytes < total entry_size entries) ⊎ (count < length entries) → cut entry_size bytes count (take (length entries - 1) entries) ≡ cut entry_size bytes count entries
cut-taken bytes count [] exceeds = refl
cut-taken bytes count (e ∷ es) exceeds =
    let n = length es in
    let len : length (e ∷ es) - 1 ≡ n = omega arith in
    let ys = take n (e ∷ es) in
    let last = has_last n (e ∷ es) (omega arith) in
    let split : e ∷ es ≡ ys ++ last.0 ∷ [] = last_by n (e ∷ es) last.0 (omega arith) last.1 in
    let shorter = cut-without_last entry_size bytes count ys last.0 (subst (λ l. (bytes < total entry_size l) ⊎ (count < length l)) split exceeds) in
    ap (λ m. cut entry_size bytes count (take m (e ∷ es))) len ∙ sym shorter ∙ ap (cut entry_size bytes count) (sym split)

-- if there are too many entries, there are fewer without the last one
pub fewer : (bytes count : ℕ) (entries : List Entry) → (bytes < total entry_size entries) ⊎ (count < length entries) → length (take (length entries - 1) entries) < length entries
fewer bytes count [] (inl large) = absurd (omega (arith, large))
fewer bytes count [] (inr many) = absurd (omega (arith, many))
fewer bytes count (e ∷ es) exceeds = omega (arith, length-take (length (e ∷ es) - 1) (e ∷ es))

-- if there is no last one, nothing is left out
pub take-none : (entries : List Entry) → slice_get entries (length entries - 1) ≡ None → take (length entries - 1) entries ≡ entries
take-none [] none = refl
take-none (e ∷ es) none =
    let n = length es in
    let len : length (e ∷ es) - 1 ≡ n = omega arith in
    let last = has_last n (e ∷ es) (omega arith) in
    let some = sym (ap (slice_get (e ∷ es)) len ∙ last.1) ∙ none in
    absurd (cc)

-- a limit is exceeded
pub exceeds-of : (bytes count : ℕ) (entries : List Entry) (counted : ℕ) → counted ≡ total entry_size entries → (nat_lt bytes counted || nat_lt count (length entries)) ≡ true → (bytes < total entry_size entries) ⊎ (count < length entries)
exceeds-of bytes count entries counted are is = go (or_cases (nat_lt bytes counted) (nat_lt count (length entries)) is)
  where
    go : (nat_lt bytes counted ≡ true) ⊎ (nat_lt count (length entries) ≡ true) → (bytes < total entry_size entries) ⊎ (count < length entries)
    go (inl large) = inl (omega (arith, are, ltb-true bytes counted large))
    go (inr many) = inr (ltb-true count (length entries) many)

-- or none is, and all are kept
pub cut-kept : (bytes count : ℕ) (entries : List Entry) (counted : ℕ) → counted ≡ total entry_size entries → (nat_lt bytes counted || nat_lt count (length entries)) ≡ false → cut entry_size bytes count entries ≡ entries
cut-kept bytes count entries counted are is =
    let parts = or_parts (nat_lt bytes counted) (nat_lt count (length entries)) is in
    cut-whole entry_size bytes count entries (omega (arith, are, ltb-false bytes counted parts.0)) (ltb-false count (length entries) parts.1)

-- the last one stands behind the others
pub last-dropped : (entries : List Entry) (x : Entry) → slice_get entries (length entries - 1) ≡ Some x → drop (length entries - 1) entries ≡ x ∷ []
last-dropped [] x is = absurd cc
last-dropped (e ∷ es) x is =
    let n = length es in
    let len : length (e ∷ es) - 1 ≡ n = omega arith in
    let split : e ∷ es ≡ take n (e ∷ es) ++ x ∷ [] = last_by n (e ∷ es) x (omega arith) (subst (λ m. slice_get (e ∷ es) m ≡ Some x) len is) in
    ap (λ m. drop m (e ∷ es)) len ∙ append_cancel_left (take n (e ∷ es)) (drop n (e ∷ es)) (x ∷ []) (take-append-drop n (e ∷ es) ∙ split)

-- if there is no last one, none does
pub none-dropped : (entries : List Entry) → slice_get entries (length entries - 1) ≡ None → drop (length entries - 1) entries ≡ []
none-dropped [] none = refl
none-dropped (e ∷ es) none =
    let n = length es in
    let len : length (e ∷ es) - 1 ≡ n = omega arith in
    let last = has_last n (e ∷ es) (omega arith) in
    let some = sym (ap (slice_get (e ∷ es)) len ∙ last.1) ∙ none in
    absurd (cc)

-- the entries before the last one and the last one are all
pub last-counted : (p : Entry → Bool) (entries : List Entry) → count_by p (take (length entries - 1) entries) + count_by p (drop (length entries - 1) entries) ≡ count_by p entries
last-counted p entries =
    let n = length entries - 1 in
    sym (sum_by-append (λ e. cond (p e) 1 0) (take n entries) (drop n entries)) ∙ ap (count_by p) (take-append-drop n entries)

pub last-length : (entries : List Entry) → length (take (length entries - 1) entries) + length (drop (length entries - 1) entries) ≡ length entries
last-length entries =
    let n = length entries - 1 in
    sym (length-append (take n entries) (drop n entries)) ∙ ap length (take-append-drop n entries)

-- equal counts are equal
alike : (n : Evictions) (all fresh : ℕ) → n.entries ≡ all → n.fresh ≡ fresh → n ≡ record { entries = all; fresh = fresh }
alike n all fresh a f = rw (← a, ← f) refl

-- entries that were counted, and those that are left, are all: so those that fit are left, and the others were counted
pub counted-beyond : (bytes count now : ℕ) (entries left : List Entry) (n : Evictions) → left ≡ cut entry_size bytes count entries → n.entries + length left ≡ length entries
    → n.fresh + count_by (λ (e : Entry). is_fresh now e.1) left ≡ count_by (λ (e : Entry). is_fresh now e.1) entries
    → n ≡ evictions_of now (beyond entry_size bytes count entries)
counted-beyond bytes count now entries left n are all fresh =
    let p : Entry → Bool = λ e. is_fresh now e.1 in
    let kept = cut entry_size bytes count entries in
    let rest = beyond entry_size bytes count entries in
    let split = cut-beyond entry_size bytes count entries in
    let long : length kept + length rest ≡ length entries = sym (length-append kept rest) ∙ ap length split in
    let many : count_by p kept + count_by p rest ≡ count_by p entries = sym (sum_by-append (λ e. cond (p e) 1 0) kept rest) ∙ ap (count_by p) split in
    alike n (length rest) (count_by p rest) (omega (arith, all, ap length are, long)) (omega (arith, fresh, ap (count_by p) are, many))
