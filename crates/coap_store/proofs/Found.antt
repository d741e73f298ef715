-- The element of a key: where it stands, and what is left when it is taken out.
use Rattle.std.proofs.Common.{◌≡◌, ℕ, zero, suc, ◌+◌, ◌<◌, ◌≤◌, Bool, true, false, cond, not, List, [], ◌∷◌, Option, Some, None, is_some, length, get_or, filter, find, nat_lt, refl, sym, ap, subst, arith}
use Rattle.std.specs.List.{list_all, position, position_or_len, remove}
use Rattle.std.proofs.lemmas.Bool.{and_parts, ltb-false}
use Rattle.std.proofs.lemmas.List.Quantifiers.{position-Some}
use Rattle.coap_store.specs.declared.key.CacheKey.{CacheKey}
use Rattle.coap_store.specs.Keys.{same_key}
use Rattle.coap_store.specs.Lists.{has_key, has_other_key, of_key, others, are_distinct}
use Rattle.coap_store.specs.Alike.{same_key-only}

-- a list of which each element passes is kept whole
pub filter-all : {X : Type 0} (p : X → Bool) (xs : List X) → list_all p xs ≡ true → filter p xs ≡ xs
filter-all p [] all = refl
filter-all p (x ∷ xs) all =
    let parts = and_parts (p x) (list_all p xs) all in
    rw (parts.0, filter-all p xs parts.1) refl

-- no place is found where no element passes
find-none : {X : Type 0} (p : X → Bool) (xs : List X) → length xs ≤ position_or_len p xs → find p xs ≡ None
find-none p [] le = refl
find-none p (x ∷ xs) le = go (p x) refl (λ rest. find-none p xs rest)
  where
    go : (b : Bool) → p x ≡ b → (length xs ≤ position_or_len p xs → find p xs ≡ None) → cond b (Some x) (find p xs) ≡ None
    go true e others = let zero_le : length (x ∷ xs) ≤ 0 = rw e at le in absurd (omega arith)
    go false e others = let rest : length (x ∷ xs) ≤ 1 + position_or_len p xs = rw e at le in others (omega arith)

-- so nothing is found where no place is
pub position-none : {X : Type 0} (p : X → Bool) (xs : List X) → position p xs ≡ None → find p xs ≡ None
position-none p xs none = go (nat_lt (position_or_len p xs) (length xs)) refl none
  where
    go : (b : Bool) → nat_lt (position_or_len p xs) (length xs) ≡ b → cond b (Some (position_or_len p xs)) None ≡ None → find p xs ≡ None
    go true e f = absurd cc
    go false e f = find-none p xs (ltb-false (position_or_len p xs) (length xs) e)

module _ {X : Type 0} (key : X → CacheKey) (k : CacheKey) where
  -- without an element of the key, the others are all
  pub others-none : (xs : List X) → of_key key k xs ≡ None → others key k xs ≡ xs
  others-none [] none = refl
  others-none (x ∷ xs) none = go (same_key (key x) k) (λ rest. others-none xs rest) none
    where
      go : (b : Bool) → (of_key key k xs ≡ None → others key k xs ≡ xs) → cond b (Some x) (of_key key k xs) ≡ None → cond (not b) (x ∷ others key k xs) (others key k xs) ≡ x ∷ xs
      go true rest f = absurd cc
      go false rest f = ap (λ l. x ∷ l) (rest f)

  -- the same by the test whether there is one
  pub others-absent : (xs : List X) → is_some (of_key key k xs) ≡ false → others key k xs ≡ xs
  others-absent xs absent = others-none xs (go (of_key key k xs) absent)
    where
      go : (found : Option X) → is_some found ≡ false → found ≡ None
      go None e = refl
      go (Some x) e = absurd cc

  -- the first element of the key is taken out, and the others are left
  pub record IsTaken (xs : List X) (i : ℕ) (x : X) : Type 0 where
    pub found : of_key key k xs ≡ Some x
    pub left : remove xs i ≡ others key k xs

  -- the element at the first place of the key is the one that is taken out
  taken : (xs : List X) (i : ℕ) (x : X) → are_distinct key xs ≡ true → i < length xs → x ≡ get_or xs i x → has_key key k x ≡ true → ((j : ℕ) → j < i → has_key key k (get_or xs j x) ≡ false) → IsTaken xs i x
  taken [] i x distinct within at is before = absurd (omega arith)
  taken (y ∷ ys) zero x distinct within at is before =
      let same : x ≡ y = at in
      let is_y : same_key (key y) k ≡ true = subst (λ z. same_key (key z) k ≡ true) same is in
      let parts = and_parts (list_all (has_other_key key (key y)) ys) (are_distinct key ys) distinct in
      let apart : list_all (has_other_key key k) ys ≡ true = subst (λ q. list_all (has_other_key key q) ys ≡ true) (same_key-only (key y) k is_y) parts.0 in
      record { found = rw is_y (ap Some (sym same)); left = rw is_y (sym (filter-all (has_other_key key k) ys apart)) }
  taken (y ∷ ys) (suc i) x distinct within at is before =
      let other : same_key (key y) k ≡ false = before 0 (omega arith) in
      let parts = and_parts (list_all (has_other_key key (key y)) ys) (are_distinct key ys) distinct in
      let rest = taken ys i x parts.1 (omega arith) at is (λ j less. before (suc j) (omega arith)) in
      record { found = rw other rest.found; left = rw other (ap (λ l. y ∷ l) rest.left) }

  -- so it is at the place where a search finds it
  pub position-taken : (xs : List X) (i : ℕ) (x : X) → are_distinct key xs ≡ true → position (has_key key k) xs ≡ Some i → x ≡ get_or xs i x → IsTaken xs i x
  position-taken xs i x distinct at is =
      let place = position-Some (has_key key k) xs i x at in
      taken xs i x distinct place.0 is (subst (λ z. has_key key k z ≡ true) (sym is) place.1) place.2
