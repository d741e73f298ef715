-- An octet and a byte after it, as they are written to places one after the other.
use Rattle.std.proofs.Common.{◌≡◌, ℕ, ◌+◌, ◌/◌, ◌%◌, ◌<◌, ◌≤◌, List, [], ◌∷◌, ◌++◌, length, take, set, sym, ap, ◌∙◌, arith, append_assoc, length-set}
use Rattle.std.specs.Fmt.{decimal}
use Rattle.std.proofs.lemmas.Fmt.{decimal_digit, decimal_step}
use Rattle.std.proofs.lemmas.List.{take_more_set}
use Rattle.hex.proofs.Pairs.{take-two_writes}

-- three writes in a row, seen from the front
take-three_writes : (xs : List ℕ) (o x y z : ℕ) → o + 2 < length xs → take (o + 3) (set (set (set xs o x) (o + 1) y) (o + 2) z) ≡ take o xs ++ x ∷ y ∷ z ∷ []
take-three_writes xs o x y z fits =
    let long : length (set (set xs o x) (o + 1) y) ≡ length xs = length-set (set xs o x) (o + 1) y ∙ length-set xs o x in
    let three : o + 3 ≡ o + 2 + 1 = omega arith in
    rw (three, take_more_set (set (set xs o x) (o + 1) y) (o + 2) z (omega (arith, long)), take-two_writes xs o x y (omega arith)) (append_assoc (take o xs) (x ∷ y ∷ []) (z ∷ []))

-- four writes in a row
take-four_writes : (xs : List ℕ) (o x y z w : ℕ) → o + 3 < length xs → take (o + 4) (set (set (set (set xs o x) (o + 1) y) (o + 2) z) (o + 3) w) ≡ take o xs ++ x ∷ y ∷ z ∷ w ∷ []
take-four_writes xs o x y z w fits =
    let long : length (set (set (set xs o x) (o + 1) y) (o + 2) z) ≡ length xs = length-set (set (set xs o x) (o + 1) y) (o + 2) z ∙ length-set (set xs o x) (o + 1) y ∙ length-set xs o x in
    let four : o + 4 ≡ o + 3 + 1 = omega arith in
    rw (four, take_more_set (set (set (set xs o x) (o + 1) y) (o + 2) z) (o + 3) w (omega (arith, long)), take-three_writes xs o x y z (omega arith)) (append_assoc (take o xs) (x ∷ y ∷ z ∷ []) (w ∷ []))

-- one digit
pub one-written : (xs : List ℕ) (start n after : ℕ) → start + 1 < length xs → n < 10 → take (start + 2) (set (set xs start (48 + n)) (start + 1) after) ≡ take start xs ++ decimal n ++ after ∷ []
one-written xs start n after fits small =
    rw (take-two_writes xs start (48 + n) after fits, decimal_digit n small) (sym (append_assoc (take start xs) ((48 + n) ∷ []) (after ∷ [])))

-- the digits of a number below 100
two_digits : (n : ℕ) → 10 ≤ n → n < 100 → decimal n ≡ (48 + n / 10) ∷ (48 + n % 10) ∷ []
two_digits n great small =
    decimal_step n great (omega arith) ∙ ap (λ (l : List ℕ). l ++ (48 + n % 10) ∷ []) (decimal_digit (n / 10) (omega arith))

-- two digits
pub two-written : (xs : List ℕ) (start n after : ℕ) → start + 2 < length xs → 10 ≤ n → n < 100 → take (start + 3) (set (set (set xs start (48 + n / 10)) (start + 1) (48 + n % 10)) (start + 2) after) ≡ take start xs ++ decimal n ++ after ∷ []
two-written xs start n after fits great small =
    rw (take-three_writes xs start (48 + n / 10) (48 + n % 10) after fits, two_digits n great small) (sym (append_assoc (take start xs) ((48 + n / 10) ∷ (48 + n % 10) ∷ []) (after ∷ [])))

-- the digits of a number below 1,000
three_digits : (n : ℕ) → 100 ≤ n → n < 1000 → decimal n ≡ (48 + n / 100) ∷ (48 + n / 10 % 10) ∷ (48 + n % 10) ∷ []
three_digits n great small =
    let hundreds : n / 10 / 10 ≡ n / 100 = omega arith in
    decimal_step n (omega arith) (omega arith)
    ∙ ap (λ (l : List ℕ). l ++ (48 + n % 10) ∷ []) (two_digits (n / 10) (omega arith) (omega arith))
    ∙ ap (λ (k : ℕ). (48 + k) ∷ (48 + n / 10 % 10) ∷ (48 + n % 10) ∷ []) hundreds

-- three digits
pub three-written : (xs : List ℕ) (start n after : ℕ) → start + 3 < length xs → 100 ≤ n → n < 1000 → take (start + 4) (set (set (set (set xs start (48 + n / 100)) (start + 1) (48 + n / 10 % 10)) (start + 2) (48 + n % 10)) (start + 3) after) ≡ take start xs ++ decimal n ++ after ∷ []
three-written xs start n after fits great small =
    rw (take-four_writes xs start (48 + n / 100) (48 + n / 10 % 10) (48 + n % 10) after fits, three_digits n great small) (sym (append_assoc (take start xs) ((48 + n / 100) ∷ (48 + n / 10 % 10) ∷ (48 + n % 10) ∷ []) (after ∷ [])))
