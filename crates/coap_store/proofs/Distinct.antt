-- Lists in which no two elements have one key.
use Rattle.std.proofs.Common.{◌≡◌, ℕ, ◌-◌, ◌&&◌, Bool, true, false, cond, not, nat_le, List, [], ◌∷◌, Some, filter, map, refl, ap, subst}
use Rattle.std.specs.List.{list_all}
use Rattle.std.proofs.lemmas.Bool.{and_parts, and_from}
use Rattle.coap_store.specs.declared.key.CacheKey.{CacheKey}
use Rattle.coap_store.specs.Keys.{same_key}
use Rattle.coap_store.specs.Lists.{has_other_key, of_key, others, are_distinct, cut}
use Rattle.coap_store.specs.Alike.{same_key-only}

-- what each element of a list passes, each of those kept passes
all-filter : {X : Type 0} (p q : X → Bool) (xs : List X) → list_all p xs ≡ true → list_all p (filter q xs) ≡ true
all-filter p q [] all = refl
all-filter p q (x ∷ xs) all =
    let parts = and_parts (p x) (list_all p xs) all in
    go (q x) parts.0 (all-filter p q xs parts.1)
  where
    go : (b : Bool) → p x ≡ true → list_all p (filter q xs) ≡ true → list_all p (cond b (x ∷ filter q xs) (filter q xs)) ≡ true
    go true first rest = and_from (p x) (list_all p (filter q xs)) first rest
    go false first rest = rest

-- each of those that are cut passes
all-cut : {X : Type 0} (p : X → Bool) (size : X → ℕ) (bytes count : ℕ) (xs : List X) → list_all p xs ≡ true → list_all p (cut size bytes count xs) ≡ true
all-cut p size bytes count [] all = refl
all-cut p size bytes count (x ∷ xs) all =
    let parts = and_parts (p x) (list_all p xs) all in
    go (nat_le (size x) bytes && nat_le 1 count) parts.0 (all-cut p size (bytes - size x) (count - 1) xs parts.1)
  where
    go : (b : Bool) → p x ≡ true → list_all p (cut size (bytes - size x) (count - 1) xs) ≡ true → list_all p (cond b (x ∷ cut size (bytes - size x) (count - 1) xs) []) ≡ true
    go true first rest = and_from (p x) (list_all p (cut size (bytes - size x) (count - 1) xs)) first rest
    go false first rest = refl

-- each element that is kept passes the test
all-kept : {X : Type 0} (p : X → Bool) (xs : List X) → list_all p (filter p xs) ≡ true
all-kept p [] = refl
all-kept p (x ∷ xs) = go (p x) refl (all-kept p xs)
  where
    go : (b : Bool) → p x ≡ b → list_all p (filter p xs) ≡ true → list_all p (cond b (x ∷ filter p xs) (filter p xs)) ≡ true
    go true e rest = and_from (p x) (list_all p (filter p xs)) e rest
    go false e rest = rest

-- what each element passes after a change, each of those changed passes
all-map : {X : Type 0} (p q : X → Bool) (f : X → X) (xs : List X) → ((x : X) → p (f x) ≡ q x) → list_all q xs ≡ true → list_all p (map f xs) ≡ true
all-map p q f [] same all = refl
all-map p q f (x ∷ xs) same all =
    let parts = and_parts (q x) (list_all q xs) all in
    and_from (p (f x)) (list_all p (map f xs)) (rw (same x) parts.0) (all-map p q f xs same parts.1)

module _ {X : Type 0} (key : X → CacheKey) where
  -- some of distinct elements are distinct
  pub distinct-filter : (p : X → Bool) (xs : List X) → are_distinct key xs ≡ true → are_distinct key (filter p xs) ≡ true
  distinct-filter p [] distinct = refl
  distinct-filter p (x ∷ xs) distinct =
      let parts = and_parts (list_all (has_other_key key (key x)) xs) (are_distinct key xs) distinct in
      go (p x) (all-filter (has_other_key key (key x)) p xs parts.0) (distinct-filter p xs parts.1)
    where
      go : (b : Bool) → list_all (has_other_key key (key x)) (filter p xs) ≡ true → are_distinct key (filter p xs) ≡ true → are_distinct key (cond b (x ∷ filter p xs) (filter p xs)) ≡ true
      go true apart rest = and_from (list_all (has_other_key key (key x)) (filter p xs)) (are_distinct key (filter p xs)) apart rest
      go false apart rest = rest

  -- what is cut of distinct elements is distinct
  pub distinct-cut : (size : X → ℕ) (bytes count : ℕ) (xs : List X) → are_distinct key xs ≡ true → are_distinct key (cut size bytes count xs) ≡ true
  distinct-cut size bytes count [] distinct = refl
  distinct-cut size bytes count (x ∷ xs) distinct =
      let parts = and_parts (list_all (has_other_key key (key x)) xs) (are_distinct key xs) distinct in
      go (nat_le (size x) bytes && nat_le 1 count) (all-cut (has_other_key key (key x)) size (bytes - size x) (count - 1) xs parts.0) (distinct-cut size (bytes - size x) (count - 1) xs parts.1)
    where
      go : (b : Bool) → list_all (has_other_key key (key x)) (cut size (bytes - size x) (count - 1) xs) ≡ true → are_distinct key (cut size (bytes - size x) (count - 1) xs) ≡ true
          → are_distinct key (cond b (x ∷ cut size (bytes - size x) (count - 1) xs) []) ≡ true
      go true apart rest = and_from (list_all (has_other_key key (key x)) (cut size (bytes - size x) (count - 1) xs)) (are_distinct key (cut size (bytes - size x) (count - 1) xs)) apart rest
      go false apart rest = refl

  -- an element stands before the others
  pub distinct-front : (x : X) (xs : List X) → are_distinct key xs ≡ true → are_distinct key (x ∷ others key (key x) xs) ≡ true
  distinct-front x xs distinct =
      and_from (list_all (has_other_key key (key x)) (others key (key x) xs)) (are_distinct key (others key (key x) xs)) (all-kept (has_other_key key (key x)) xs) (distinct-filter (has_other_key key (key x)) xs distinct)

  -- what is found has the key
  pub of_key-key : (k : CacheKey) (xs : List X) (x : X) → of_key key k xs ≡ Some x → key x ≡ k
  of_key-key k [] x found = absurd cc
  of_key-key k (y ∷ ys) x found = go (same_key (key y) k) refl (λ f. of_key-key k ys x f) found
    where
      go : (b : Bool) → same_key (key y) k ≡ b → (of_key key k ys ≡ Some x → key x ≡ k) → cond b (Some y) (of_key key k ys) ≡ Some x → key x ≡ k
      go true e rest f = let same : y ≡ x = cc in subst (λ z. key z ≡ k) same (same_key-only (key y) k e)
      go false e rest f = rest f

  -- a change that keeps the keys keeps elements distinct
  pub distinct-map : (f : X → X) (xs : List X) → ((x : X) → key (f x) ≡ key x) → are_distinct key xs ≡ true → are_distinct key (map f xs) ≡ true
  distinct-map f [] same distinct = refl
  distinct-map f (x ∷ xs) same distinct =
      let parts = and_parts (list_all (has_other_key key (key x)) xs) (are_distinct key xs) distinct in
      let apart : list_all (has_other_key key (key (f x))) (map f xs) ≡ true = rw (same x) (all-map (has_other_key key (key x)) (has_other_key key (key x)) f xs (λ y. ap (λ (k : CacheKey). not (same_key k (key x))) (same y)) parts.0) in
      and_from (list_all (has_other_key key (key (f x))) (map f xs)) (are_distinct key (map f xs)) apart (distinct-map f xs same parts.1)
