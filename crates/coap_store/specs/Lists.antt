-- A store as a list, most recently used first. The functions for the key and the size of an element
-- are arguments.
use Rattle.std.specs.Prelude.{◌≡◌, ℕ, ◌-◌, ◌≤◌, ◌&&◌, Bool, true, not, nat_le, if◌then◌else◌, List, [], ◌∷◌, ◌++◌, length, filter, find, Option}
use Rattle.std.specs.List.{sum_by, list_all}
use Rattle.std.specs.Option.{option_map_or}
use Rattle.coap_store.specs.declared.key.CacheKey.{CacheKey}
use Rattle.coap_store.specs.Keys.{same_key}

-- the element has this key
abbrev pub has_key : {X : Type 0} → (X → CacheKey) → CacheKey → X → Bool
has_key key k x = same_key (key x) k

-- it has a different key
abbrev pub has_other_key : {X : Type 0} → (X → CacheKey) → CacheKey → X → Bool
has_other_key key k x = not (same_key (key x) k)

-- the element with a key
abbrev pub of_key : {X : Type 0} → (X → CacheKey) → CacheKey → List X → Option X
of_key key k xs = find (has_key key k) xs

-- the elements with other keys, in order
abbrev pub others : {X : Type 0} → (X → CacheKey) → CacheKey → List X → List X
others key k xs = filter (has_other_key key k) xs

-- no two elements have the same key
abbrev pub are_distinct : {X : Type 0} → (X → CacheKey) → List X → Bool
are_distinct key [] = true
are_distinct key (x ∷ xs) = list_all (has_other_key key (key x)) xs && are_distinct key xs

-- the bytes that elements count for
abbrev pub total : {X : Type 0} → (X → ℕ) → List X → ℕ
total size xs = sum_by size xs

-- the element with a key is used: it moves to the front
abbrev pub used : {X : Type 0} → (X → CacheKey) → CacheKey → List X → List X
used key k xs = option_map_or (λ x. x ∷ others key k xs) (of_key key k xs) xs

-- the elements in order, for as long as the next one still fits within the limits on bytes and on
-- elements
abbrev pub cut : {X : Type 0} → (X → ℕ) → ℕ → ℕ → List X → List X
cut size bytes count [] = []
cut size bytes count (x ∷ xs) =
    if nat_le (size x) bytes && nat_le 1 count
    then x ∷ cut size (bytes - size x) (count - 1) xs
    else []

-- a new element is first, replacing the one with its key, and what no longer fits is dropped
abbrev pub put : {X : Type 0} → (X → CacheKey) → (X → ℕ) → ℕ → ℕ → X → List X → List X
put key size bytes count x xs = cut size bytes count (x ∷ others key (key x) xs)

-- `ys` is a prefix of `xs` within both limits, and no other such prefix is longer
pub record IsLongestBeginning {X : Type 0} (size : X → ℕ) (bytes count : ℕ) (xs ys : List X)
    : Type 0 where
  pub rest : List X
  pub beginning : xs ≡ ys ++ rest
  pub within_bytes : total size ys ≤ bytes
  pub within_count : length ys ≤ count
  pub longest : (zs more : List X)
      → xs ≡ zs ++ more → total size zs ≤ bytes → length zs ≤ count
      → length zs ≤ length ys
