-- A list that is cut where a test first holds.
use Rattle.std.proofs.Common.{◌≡◌, ℕ, ◌+◌, ◌<◌, ◌≤◌, Bool, not, List, [], ◌∷◌, length, take, drop, Some, None, position, refl, sym, ap, ◌∙◌, arith, ⊎_elim, ltb}
use Rattle.std.specs.List.{slice_split, onto_first, position_or_len}
use Rattle.std.proofs.lemmas.Bool.{cases_Bool, ltb-true, ltb-false}
use Rattle.std.proofs.lemmas.List.Sums.{prefix_len-le-length}
use Rattle.std.proofs.lemmas.List.Splits.{slice_split_first, slice_split-cons_no}
use Rattle.std.proofs.lemmas.Option.{none-some}

-- the position that is found is where the test first holds
pub position_is : {X : Type 0} (p : X → Bool) (xs : List X) (i : ℕ) → position p xs ≡ Some i → (position_or_len p xs ≡ i) × (position_or_len p xs < length xs)
position_is p xs i found =
    ⊎_elim
    (λ yes. let is : Some (position_or_len p xs) ≡ Some i = rw yes at found in (cc, ltb-true (position_or_len p xs) (length xs) yes))
    (λ no. absurd (none-some i (rw no at found)))
    (cases_Bool (ltb (position_or_len p xs) (length xs)))

-- no position is found only if the test holds nowhere
position_none : {X : Type 0} (p : X → Bool) (xs : List X) → position p xs ≡ None → length xs ≤ position_or_len p xs
position_none p xs none =
    ⊎_elim
    (λ yes. absurd (none-some (position_or_len p xs) (sym (rw yes at none))))
    (λ no. ltb-false (position_or_len p xs) (length xs) no)
    (cases_Bool (ltb (position_or_len p xs) (length xs)))

-- and then the cut is at the end
pub position_end : {X : Type 0} (p : X → Bool) (xs : List X) → position p xs ≡ None → length xs ≡ position_or_len p xs
position_end p xs none =
    let most = prefix_len-le-length (λ x. not (p x)) xs in
    omega (arith, position_none p xs none, most)

-- if the test holds nowhere, the list is one part
split-whole : {X : Type 0} (p : X → Bool) (xs : List X) → length xs ≤ position_or_len p xs → slice_split p xs ≡ xs ∷ []
split-whole p [] all = refl
split-whole p (x ∷ xs) all =
    ⊎_elim
    (λ yes. let none : position_or_len p (x ∷ xs) ≡ 0 = rw yes refl in absurd (omega arith))
    (λ no.
    let more : position_or_len p (x ∷ xs) ≡ 1 + position_or_len p xs = rw no refl in
    let rest : length xs ≤ position_or_len p xs = omega arith in
    slice_split-cons_no p x xs no ∙ ap (onto_first x) (split-whole p xs rest))
    (cases_Bool (p x))

-- the parts of a text that is cut at its first separator
pub slice_split-cut : {X : Type 0} (p : X → Bool) (xs : List X) (i : ℕ) → position p xs ≡ Some i → slice_split p xs ≡ take i xs ∷ slice_split p (drop (i + 1) xs)
slice_split-cut p [] i found = absurd (none-some i found)
slice_split-cut p (x ∷ xs) i found =
    let is = position_is p (x ∷ xs) i found in
    rw (is.0) at (slice_split_first p (x ∷ xs) x is.1)

-- and those of a text without a separator
pub slice_split-whole : {X : Type 0} (p : X → Bool) (xs : List X) → position p xs ≡ None → slice_split p xs ≡ xs ∷ []
slice_split-whole p xs none = split-whole p xs (position_none p xs none)
