-- What is done to a store keeps it within its limits.
use Rattle.std.proofs.Common.{◌≡◌, ℕ, ◌+◌, ◌≤◌, Bool, true, false, cond, List, [], ◌∷◌, length, Option, Some, None, filter, map, refl, ap, subst, arith}
use Rattle.std.specs.Option.{option_map_or}
use Rattle.std.proofs.lemmas.List.Sums.{sum_by-cons}
use Rattle.coap_endpoint.specs.declared.target.Target.{Target}
use Rattle.coap_store.specs.declared.key.CacheKey.{CacheKey}
use Rattle.coap_store.specs.Keys.{same_key}
use Rattle.coap_store.specs.Lists.{has_other_key, of_key, others, used, put, total, are_distinct}
use Rattle.coap_store.specs.Entries.{Entry, Limits, IsStore, entry_key, entry_size, is_for, marked}
use Rattle.coap_store.proofs.Cuts.{cut-bytes, cut-count}
use Rattle.coap_store.proofs.Distinct.{distinct-filter, distinct-cut, distinct-front, distinct-map, of_key-key}

-- some of the elements count no more than all
pub filter-total : {X : Type 0} (size : X → ℕ) (p : X → Bool) (xs : List X) → total size (filter p xs) ≤ total size xs
filter-total size p [] = omega arith
filter-total size p (x ∷ xs) = go (p x) (filter-total size p xs)
  where
    go : (b : Bool) → total size (filter p xs) ≤ total size xs → total size (cond b (x ∷ filter p xs) (filter p xs)) ≤ total size (x ∷ xs)
    go true rest = omega (arith, sum_by-cons size x xs, sum_by-cons size x (filter p xs))
    go false rest = omega (arith, sum_by-cons size x xs)

-- some of the elements are no more than all
pub filter-length : {X : Type 0} (p : X → Bool) (xs : List X) → length (filter p xs) ≤ length xs
filter-length p [] = omega arith
filter-length p (x ∷ xs) = go (p x) (filter-length p xs)
  where
    go : (b : Bool) → length (filter p xs) ≤ length xs → length (cond b (x ∷ filter p xs) (filter p xs)) ≤ length (x ∷ xs)
    go true rest = omega arith
    go false rest = omega arith

-- the element of a key and the others count no more than all
front-total : {X : Type 0} (key : X → CacheKey) (size : X → ℕ) (k : CacheKey) (xs : List X) (x : X) → of_key key k xs ≡ Some x → size x + total size (others key k xs) ≤ total size xs
front-total key size k [] x found = absurd cc
front-total key size k (y ∷ ys) x found = go (same_key (key y) k) refl (λ f. front-total key size k ys x f) found
  where
    go : (b : Bool) → same_key (key y) k ≡ b → (of_key key k ys ≡ Some x → size x + total size (others key k ys) ≤ total size ys) → cond b (Some y) (of_key key k ys) ≡ Some x → size x + total size (others key k (y ∷ ys)) ≤ total size (y ∷ ys)
    go true e rest f =
        let same : y ≡ x = cc in
        rw e (omega (arith, ap size same, sum_by-cons size y ys, filter-total size (has_other_key key k) ys))
    go false e rest f = rw e (omega (arith, sum_by-cons size y ys, sum_by-cons size y (others key k ys), rest f))

-- the element of a key and the others are no more than all
pub front-length : {X : Type 0} (key : X → CacheKey) (k : CacheKey) (xs : List X) (x : X) → of_key key k xs ≡ Some x → length (x ∷ others key k xs) ≤ length xs
front-length key k [] x found = absurd cc
front-length key k (y ∷ ys) x found = go (same_key (key y) k) refl (λ f. front-length key k ys x f) found
  where
    go : (b : Bool) → same_key (key y) k ≡ b → (of_key key k ys ≡ Some x → length (x ∷ others key k ys) ≤ length ys) → cond b (Some y) (of_key key k ys) ≡ Some x → length (x ∷ others key k (y ∷ ys)) ≤ length (y ∷ ys)
    go true e rest f = rw e (omega (arith, filter-length (has_other_key key k) ys))
    go false e rest f = rw e (omega (arith, rest f))

-- a change that keeps the sizes keeps the total
pub map-total : {X : Type 0} (size : X → ℕ) (f : X → X) (xs : List X) → ((x : X) → size (f x) ≡ size x) → total size (map f xs) ≡ total size xs
map-total size f [] same = refl
map-total size f (x ∷ xs) same = omega (arith, same x, sum_by-cons size x xs, sum_by-cons size (f x) (map f xs), map-total size f xs same)

-- a change keeps how many there are
pub map-length : {X : Type 0} (f : X → X) (xs : List X) → length (map f xs) ≡ length xs
map-length f [] = refl
map-length f (x ∷ xs) = omega (arith, map-length f xs)

-- a mark changes neither key nor size
pub marked-key : (target : Target) (entry : Entry) → entry_key (marked target entry) ≡ entry_key entry
marked-key target entry = go (is_for target entry)
  where
    go : (b : Bool) → entry_key (cond b (entry.0, record entry.1 { marked = true }) entry) ≡ entry_key entry
    go true = refl
    go false = refl

-- nor does it change the size
pub marked-size : (target : Target) (entry : Entry) → entry_size (marked target entry) ≡ entry_size entry
marked-size target entry = go (is_for target entry)
  where
    go : (b : Bool) → entry_size (cond b (entry.0, record entry.1 { marked = true }) entry) ≡ entry_size entry
    go true = refl
    go false = refl

module _ (limits : Limits) where
  -- without the entry of a key
  pub IsStore-others : (k : CacheKey) (entries : List Entry) → IsStore limits entries → IsStore limits (others entry_key k entries)
  IsStore-others k entries is = record {
    distinct = distinct-filter entry_key (has_other_key entry_key k) entries is.distinct;
    within_bytes = omega (arith, is.within_bytes, filter-total entry_size (has_other_key entry_key k) entries);
    within_entries = omega (arith, is.within_entries, filter-length (has_other_key entry_key k) entries);
  }

  -- with the entry of a key at the front
  pub IsStore-used : (k : CacheKey) (entries : List Entry) → IsStore limits entries → IsStore limits (used entry_key k entries)
  IsStore-used k entries is = go (of_key entry_key k entries) refl
    where
      go : (found : Option Entry) → of_key entry_key k entries ≡ found → IsStore limits (option_map_or (λ x. x ∷ others entry_key k entries) found entries)
      go None e = is
      go (Some x) e = record {
        distinct = subst (λ q. are_distinct entry_key (x ∷ others entry_key q entries) ≡ true) (of_key-key entry_key k entries x e) (distinct-front entry_key x entries is.distinct);
        within_bytes = omega (arith, is.within_bytes, sum_by-cons entry_size x (others entry_key k entries), front-total entry_key entry_size k entries x e);
        within_entries = omega (arith, is.within_entries, front-length entry_key k entries x e);
      }

  -- with a new entry
  pub IsStore-put : (x : Entry) (entries : List Entry) → IsStore limits entries → IsStore limits (put entry_key entry_size limits.bytes limits.entries x entries)
  IsStore-put x entries is = record {
    distinct = distinct-cut entry_key entry_size limits.bytes limits.entries (x ∷ others entry_key (entry_key x) entries) (distinct-front entry_key x entries is.distinct);
    within_bytes = cut-bytes entry_size limits.bytes limits.entries (x ∷ others entry_key (entry_key x) entries);
    within_entries = cut-count entry_size limits.bytes limits.entries (x ∷ others entry_key (entry_key x) entries);
  }

  -- with the entries of a target marked
  pub IsStore-marked : (target : Target) (entries : List Entry) → IsStore limits entries → IsStore limits (map (marked target) entries)
  IsStore-marked target entries is = record {
    distinct = distinct-map entry_key (marked target) entries (marked-key target) is.distinct;
    within_bytes = omega (arith, is.within_bytes, map-total entry_size (marked target) entries (marked-size target));
    within_entries = omega (arith, is.within_entries, map-length (marked target) entries);
  }
