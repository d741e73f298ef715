-- Groups of an IPv6 address as they are written: with three and with four digits.
use Rattle.std.proofs.Common.{◌≡◌, ℕ, suc, ◌/◌, ◌%◌, ◌<◌, ◌≤◌, false, List, [], ◌∷◌, refl, ap, ◌∙◌, arith, eq-eqb}
use Rattle.std.specs.Fmt.{digit_glyph, digits, digits_onto}
use Rattle.std.proofs.lemmas.Bool.{ne_eqb}

-- the last digit, after others
last_of_more : (turns n : ℕ) (acc : List ℕ) → 16 ≤ n → digits_onto (suc turns) 16 false n acc ≡ digits_onto turns 16 false (n / 16) (digit_glyph false (n % 16) ∷ acc)
last_of_more turns n acc large = rw (ne_eqb (n / 16) 0 (λ none. omega arith)) refl

-- the only digit
only : (turns n : ℕ) (acc : List ℕ) → n < 16 → digits_onto (suc turns) 16 false n acc ≡ digit_glyph false n ∷ acc
only turns n acc small =
    let none : n / 16 ≡ 0 = omega arith in
    let same : n % 16 ≡ n = omega arith in
    rw (eq-eqb (n / 16) 0 none, same) refl

-- a number that has three digits
pub digits-three : (n : ℕ) → 256 ≤ n → n < 4096 → digits 16 false n ≡ digit_glyph false (n / 256) ∷ digit_glyph false (n / 16 % 16) ∷ digit_glyph false (n % 16) ∷ []
unfolding digits
digits-three n large small =
    let first : n / 16 / 16 ≡ n / 256 = omega arith in
    last_of_more 63 n [] (omega arith)
    ∙ last_of_more 62 (n / 16) (digit_glyph false (n % 16) ∷ []) (omega arith)
    ∙ only 61 (n / 16 / 16) (digit_glyph false (n / 16 % 16) ∷ digit_glyph false (n % 16) ∷ []) (omega arith)
    ∙ ap (λ (d : ℕ). digit_glyph false d ∷ digit_glyph false (n / 16 % 16) ∷ digit_glyph false (n % 16) ∷ []) first

-- a number that has four digits: the first, and those of the rest
pub digits-four : (n : ℕ) → 4096 ≤ n → n < 65536 → digits 16 false n ≡ digit_glyph false (n / 4096) ∷ digit_glyph false (n % 4096 / 256) ∷ digit_glyph false (n % 4096 / 16 % 16) ∷ digit_glyph false (n % 4096 % 16) ∷ []
unfolding digits
digits-four n large small =
    let first : n / 16 / 16 / 16 ≡ n / 4096 = omega arith in
    let second : n / 16 / 16 % 16 ≡ n % 4096 / 256 = omega arith in
    let third : n / 16 % 16 ≡ n % 4096 / 16 % 16 = omega arith in
    let fourth : n % 16 ≡ n % 4096 % 16 = omega arith in
    last_of_more 63 n [] (omega arith)
    ∙ last_of_more 62 (n / 16) (digit_glyph false (n % 16) ∷ []) (omega arith)
    ∙ last_of_more 61 (n / 16 / 16) (digit_glyph false (n / 16 % 16) ∷ digit_glyph false (n % 16) ∷ []) (omega arith)
    ∙ only 60 (n / 16 / 16 / 16) (digit_glyph false (n / 16 / 16 % 16) ∷ digit_glyph false (n / 16 % 16) ∷ digit_glyph false (n % 16) ∷ []) (omega arith)
    ∙ ap (λ (d : ℕ). digit_glyph false d ∷ digit_glyph false (n / 16 / 16 % 16) ∷ digit_glyph false (n / 16 % 16) ∷ digit_glyph false (n % 16) ∷ []) first
    ∙ ap (λ (d : ℕ). digit_glyph false (n / 4096) ∷ digit_glyph false d ∷ digit_glyph false (n / 16 % 16) ∷ digit_glyph false (n % 16) ∷ []) second
    ∙ ap (λ (d : ℕ). digit_glyph false (n / 4096) ∷ digit_glyph false (n % 4096 / 256) ∷ digit_glyph false d ∷ digit_glyph false (n % 16) ∷ []) third
    ∙ ap (λ (d : ℕ). digit_glyph false (n / 4096) ∷ digit_glyph false (n % 4096 / 256) ∷ digit_glyph false (n % 4096 / 16 % 16) ∷ digit_glyph false d ∷ []) fourth
