-- The digits of a number that is read from its front.
use Rattle.std.proofs.Common.{◌≡◌, ◌+◌, ◌-◌, ◌*◌, ◌/◌, ◌%◌, ◌≤◌, ◌++◌, ℕ, List, [], ◌∷◌, decimal, sym, ap, ◌∙◌, append_assoc, arith}
use Rattle.std.proofs.lemmas.Fmt.{decimal_digit, decimal_step}

-- the first digit
pub first_digit : (text rest : List ℕ) (b : ℕ) → 48 ≤ b → b ≤ 57 → text ≡ b ∷ rest → text ≡ decimal (b - 48) ++ rest
first_digit text rest b low high is =
    let back : 48 + (b - 48) ≡ b = omega arith in
    is ∙ sym (ap (λ l. l ++ rest) (decimal_digit (b - 48) (omega arith) ∙ ap (λ x. x ∷ []) back))

-- a further digit
pub more_digit : (text rest : List ℕ) (n b : ℕ) → 1 ≤ n → n ≤ 6552 → 48 ≤ b → b ≤ 57 → text ≡ decimal n ++ b ∷ rest → text ≡ decimal (n * 10 + (b - 48)) ++ rest
more_digit text rest n b some most low high is =
    let m = n * 10 + (b - 48) in
    let front : m / 10 ≡ n = omega arith in
    let last : 48 + m % 10 ≡ b = omega arith in
    let written : decimal m ≡ decimal n ++ b ∷ [] = decimal_step m (omega arith) (omega arith) ∙ (λ i. decimal (front i) ++ (last i ∷ [])) in
    is ∙ sym (ap (λ l. l ++ rest) written ∙ append_assoc (decimal n) (b ∷ []) rest)
