-- What is cut is the longest beginning within both limits.
use Rattle.std.proofs.Common.{◌≡◌, ℕ, ◌-◌, ◌≤◌, ◌&&◌, List, [], ◌∷◌, ◌++◌, length, Bool, true, false, cond, nat_le, refl, sym, ap, arith}
use Rattle.std.proofs.lemmas.Bool.{and_parts, leb-true, leb-false}
use Rattle.std.proofs.lemmas.List.Sums.{sum_by-cons}
use Rattle.coap_store.specs.Evicting.{beyond}
use Rattle.coap_store.specs.Lists.{total, cut, IsLongestBeginning}

module _ {X : Type 0} (size : X → ℕ) where
  -- the next one is kept exactly where it fits
  pub cut-fits : (bytes count : ℕ) (x : X) (xs : List X) → size x ≤ bytes → 1 ≤ count → cut size bytes count (x ∷ xs) ≡ x ∷ cut size (bytes - size x) (count - 1) xs
  cut-fits bytes count x xs small some = go (nat_le (size x) bytes) (nat_le 1 count) refl refl
    where
      go : (a b : Bool) → nat_le (size x) bytes ≡ a → nat_le 1 count ≡ b → cond (a && b) (x ∷ cut size (bytes - size x) (count - 1) xs) [] ≡ x ∷ cut size (bytes - size x) (count - 1) xs
      go true true e f = refl
      go false b e f = let large = leb-false (size x) bytes e in absurd (omega arith)
      go true false e f = let none = leb-false 1 count f in absurd (omega arith)

  -- what is cut counts no more than the bytes
  pub cut-bytes : (bytes count : ℕ) (xs : List X) → total size (cut size bytes count xs) ≤ bytes
  cut-bytes bytes count [] = omega arith
  cut-bytes bytes count (x ∷ xs) = go (nat_le (size x) bytes && nat_le 1 count) refl (cut-bytes (bytes - size x) (count - 1) xs)
    where
      go : (b : Bool) → (nat_le (size x) bytes && nat_le 1 count) ≡ b → total size (cut size (bytes - size x) (count - 1) xs) ≤ bytes - size x
          → total size (cond b (x ∷ cut size (bytes - size x) (count - 1) xs) []) ≤ bytes
      go true t rest =
          let small : size x ≤ bytes = leb-true (size x) bytes (and_parts (nat_le (size x) bytes) (nat_le 1 count) t).0 in
          omega (arith, sum_by-cons size x (cut size (bytes - size x) (count - 1) xs))
      go false t rest = omega arith

  -- and no more elements than there may be
  pub cut-count : (bytes count : ℕ) (xs : List X) → length (cut size bytes count xs) ≤ count
  cut-count bytes count [] = omega arith
  cut-count bytes count (x ∷ xs) = go (nat_le (size x) bytes && nat_le 1 count) refl (cut-count (bytes - size x) (count - 1) xs)
    where
      go : (b : Bool) → (nat_le (size x) bytes && nat_le 1 count) ≡ b → length (cut size (bytes - size x) (count - 1) xs) ≤ count - 1
          → length (cond b (x ∷ cut size (bytes - size x) (count - 1) xs) []) ≤ count
      go true t rest =
          let some : 1 ≤ count = leb-true 1 count (and_parts (nat_le (size x) bytes) (nat_le 1 count) t).1 in
          omega arith
      go false t rest = omega arith

  -- what is dropped stands after what is kept
  pub cut-beyond : (bytes count : ℕ) (xs : List X) → cut size bytes count xs ++ beyond size bytes count xs ≡ xs
  cut-beyond bytes count [] = refl
  cut-beyond bytes count (x ∷ xs) = go (nat_le (size x) bytes && nat_le 1 count) (cut-beyond (bytes - size x) (count - 1) xs)
    where
      go : (b : Bool) → cut size (bytes - size x) (count - 1) xs ++ beyond size (bytes - size x) (count - 1) xs ≡ xs
          → cond b (x ∷ cut size (bytes - size x) (count - 1) xs) [] ++ cond b (beyond size (bytes - size x) (count - 1) xs) (x ∷ xs) ≡ x ∷ xs
      go true rest = ap (λ l. x ∷ l) rest
      go false rest = refl

  -- no beginning within both limits is longer
  cut-longest : (bytes count : ℕ) (xs zs more : List X) → xs ≡ zs ++ more → total size zs ≤ bytes → length zs ≤ count → length zs ≤ length (cut size bytes count xs)
  cut-longest bytes count xs [] more e t l = omega arith
  cut-longest bytes count [] (z ∷ zs) more e t l = absurd (cc)
  cut-longest bytes count (x ∷ xs) (z ∷ zs) more e t l =
      let head : x ≡ z = cc in
      let tail : xs ≡ zs ++ more = cc in
      let s : size x ≡ size z = ap size head in
      let sum = sum_by-cons size z zs in
      let small : size x ≤ bytes = omega arith in
      let some : 1 ≤ count = omega arith in
      let next = cut-longest (bytes - size x) (count - 1) xs zs more tail (omega arith) (omega arith) in
      rw (cut-fits bytes count x xs small some) (omega arith)

  -- so it is the longest beginning
  pub cut-is-longest : (bytes count : ℕ) (xs : List X) → IsLongestBeginning size bytes count xs (cut size bytes count xs)
  cut-is-longest bytes count xs =
      record {
        rest = beyond size bytes count xs;
        beginning = sym (cut-beyond bytes count xs);
        within_bytes = cut-bytes bytes count xs;
        within_count = cut-count bytes count xs;
        longest = cut-longest bytes count xs;
      }
