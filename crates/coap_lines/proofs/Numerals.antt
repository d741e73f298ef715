-- Numbers as texts: what is read, and what is written.
use Rattle.std.proofs.Common.{◌≡◌, ◌==◌, ℕ, ◌+◌, ◌-◌, ◌*◌, ◌%◌, ◌^◌, ◌<◌, ◌≤◌, Bool, true, false, ◌&&◌, ◌||◌, List, length, get_or, take, Option, Some, None, refl, sym, ap, arith, ⊎_elim, ltb, leb, cond, eq-eqb, le-leb, zero, suc}
use Rattle.std.specs.Fmt.{decimal, digits}
use Rattle.std.specs.Char.{digit_value, is_ascii_digit}
use Rattle.std.specs.Str.{bytes_eq}
use Rattle.std.specs.Str.Parse.{AllDigits, digits_value}
use Rattle.std.proofs.lemmas.Bool.{and_parts, cases_Bool, eqb-false, eqb-true, leb-true, ltb-false, ltb-true, or_parts}
use Rattle.std.proofs.lemmas.Bool.Decides.{nat_tests}
use Rattle.std.proofs.lemmas.Int.Digits.{digits_more, digits_value-lt, digits_value_more}
use Rattle.std.proofs.lemmas.Fmt.{decimal_by_steps, decimal-digits_value, decimal_is_IsNumeral, first_decimal, length-decimal-le}
use Rattle.std.proofs.lemmas.List.Folds.{list_any-append}
use Rattle.std.proofs.lemmas.List.{length-take-le}
use Rattle.std.proofs.Math.Nat.{pow-le-pow_right}
use Rattle.std.proofs.lemmas.Option.{none-some}
use Rattle.std.proofs.lemmas.Slice.Eq.{bytes_eq-Decides}
use Rattle.std.proofs.lemmas.Str.Parse.{IsNumeralModel, digit_at, digits_value-take-le, numerals_by_value, tells_digits}
use Rattle.coap_lines.specs.Numbers.{number_of}
use Rattle.coap_lines.specs.Texts.{has}

-- the standard library's definitions of digits and their value
own : IsNumeralModel (AllDigits 10) (digits_value 10)
own = numerals_by_value (AllDigits 10) tells_digits

-- a text that gives a number is read
number_of-some : (most n : ℕ) (text : List ℕ) → digits_value 10 text ≡ n → text ≡ decimal n → n ≤ most → number_of most text ≡ Some n
unfolding number_of
number_of-some most n text value spelled within =
    let same : bytes_eq text (decimal n) ≡ true = (bytes_eq-Decides text (decimal n)).1 spelled in
    let fits : leb n most ≡ true = le-leb n most within in
    rw (value, same, fits) refl

-- a number that was read is the one that the text gives
pub number_of-is : (most n : ℕ) (text : List ℕ) → number_of most text ≡ Some n → (text ≡ decimal n) × (n ≤ most)
unfolding number_of
number_of-is most n text found = go (bytes_eq text (decimal (digits_value 10 text)) && leb (digits_value 10 text) most) refl found
  where
    go : (b : Bool) → (bytes_eq text (decimal (digits_value 10 text)) && leb (digits_value 10 text) most) ≡ b → cond b (Some (digits_value 10 text)) None ≡ Some n → (text ≡ decimal n) × (n ≤ most)
    go false is found = absurd (none-some n found)
    go true is found =
        let same : digits_value 10 text ≡ n = cc in
        let parts = and_parts (bytes_eq text (decimal (digits_value 10 text))) (leb (digits_value 10 text) most) is in
        let spelled = (bytes_eq-Decides text (decimal (digits_value 10 text))).0 parts.0 in
        let within = leb-true (digits_value 10 text) most parts.1 in
        let both : (text ≡ decimal (digits_value 10 text)) × (digits_value 10 text ≤ most) = (spelled, within) in
        rw same at both

-- a text that gives no number
number_of-none : (most : ℕ) (text : List ℕ) → ((n : ℕ) → text ≡ decimal n → n ≤ most → ⊥) → number_of most text ≡ None
number_of-none most text never = go (number_of most text) refl
  where
    go : (found : Option ℕ) → number_of most text ≡ found → number_of most text ≡ None
    go None is = is
    go (Some n) is = let written = number_of-is most n text is in absurd (never n written.0 written.1)

-- a text is empty, or begins with a zero before another byte
abbrev pub has_wrong_start : List ℕ → Bool
has_wrong_start text = (length text == 0) || ((get_or text 0 0 == 48) && ltb 1 (length text))

-- a number whose text begins with a zero is zero
zero_first : (n : ℕ) → n < 2 ^ 64 → get_or (decimal n) 0 0 ≡ 48 → 1 < length (decimal n) → ⊥
unfolding digits
zero_first zero bound nought long = omega arith
zero_first (suc m) bound nought long = let above = first_decimal (suc m) (omega arith) bound in omega arith

-- such a text gives no number
starts_wrong : (n : ℕ) (text : List ℕ) → n < 2 ^ 64 → text ≡ decimal n → has_wrong_start text ≡ true → ⊥
starts_wrong n text bound spelled wrong =
    let numeral = (decimal_is_IsNumeral n bound).0 in
    ⊎_elim
    (λ empty. let is : length text ≡ 0 = eqb-true (length text) 0 empty in let none : length (decimal n) ≡ 0 = rw spelled at is in omega (arith, numeral.0))
    (λ other.
    let rest : ((get_or text 0 0 == 48) && ltb 1 (length text)) ≡ true = rw other at wrong in
    let parts = and_parts (get_or text 0 0 == 48) (ltb 1 (length text)) rest in
    let nought : get_or (decimal n) 0 0 ≡ 48 = rw spelled at (eqb-true (get_or text 0 0) 48 parts.0) in
    let long : 1 < length (decimal n) = rw spelled at (ltb-true 1 (length text) parts.1) in
    zero_first n bound nought long)
    (cases_Bool (length text == 0))

-- so no number is read from it
pub wrong-none : (most : ℕ) (text : List ℕ) → most < 2 ^ 64 → has_wrong_start text ≡ true → number_of most text ≡ None
wrong-none most text bound wrong = number_of-none most text (λ n spelled within. starts_wrong n text (omega arith) spelled wrong)

-- nor from a text with a byte that isn't a digit
pub other-none : (most : ℕ) (text : List ℕ) (i : ℕ) → most < 2 ^ 64 → i < length text → is_ascii_digit (get_or text i 0) ≡ false → number_of most text ≡ None
other-none most text i bound inside other = number_of-none most text (λ n spelled within.
    let digits : AllDigits 10 text = rw spelled (decimal_is_IsNumeral n (omega arith)).0.1 in
    let digit = digit_at text i digits inside in
    grind (arith, nat_tests))

-- nor from one whose first digits give too great a number
pub great-none : (most : ℕ) (text : List ℕ) (i : ℕ) → most < 2 ^ 64 → 2 ^ 64 ≤ digits_value 10 (take i text) → number_of most text ≡ None
great-none most text i bound great = number_of-none most text (λ n spelled within.
    let value : digits_value 10 text ≡ n = rw spelled (decimal_is_IsNumeral n (omega arith)).1 in
    omega (arith, digits_value-take-le 10 text i (omega arith), value))

-- nor from a text that is longer than such a number
pub long-none : (most : ℕ) (text : List ℕ) (i : ℕ) → most < 10 ^ i → most < 2 ^ 64 → 0 < i → i < length text → number_of most text ≡ None
long-none most text i few bound some long = number_of-none most text (λ n spelled within.
    let short : length (decimal n) ≤ i = length-decimal-le i n some (omega (arith, few, within)) (omega arith) in
    let same : length text ≡ length (decimal n) = ap length spelled in
    omega (arith, short, same))

-- the number of at most so many digits is below that power
pub digits-below : (text : List ℕ) (i number most : ℕ) → i ≤ length text → i ≤ most → AllDigits 10 (take i text) → number ≡ digits_value 10 (take i text) → number < 10 ^ most
digits-below text i number most inside few all value =
    let below = digits_value-lt 10 (take i text) all in
    let long : length (take i text) ≡ i = length-take-le i text inside in
    let own : number < 10 ^ i = rw value (rw long at below) in
    let power : 10 ^ i ≤ 10 ^ most = pow-le-pow_right {n = 10} (omega arith) few in
    omega (arith, own, power)

-- the number of one more digit
pub next_number : (text : List ℕ) (i number : ℕ) → i < length text → is_ascii_digit (get_or text i 0) ≡ true → number ≡ digits_value 10 (take i text) → digits_value 10 (take (i + 1) text) ≡ number * 10 + (get_or text i 0 - 48)
next_number text i number inside digit value =
    let worth : digit_value (get_or text i 0) ≡ get_or text i 0 - 48 = grind (arith, nat_tests) in
    rw (digits_value_more 10 text i inside, worth, value)

-- one more digit
pub next_digit : (text : List ℕ) (i : ℕ) → i < length text → is_ascii_digit (get_or text i 0) ≡ true → AllDigits 10 (take i text) → AllDigits 10 (take (i + 1) text)
next_digit text i inside digit before =
    let small : digit_value (get_or text i 0) < 10 = grind (arith, nat_tests) in
    digits_more 10 text i inside before small

-- digits without such a start are the text of their number
spelled_by : (text : List ℕ) → has_wrong_start text ≡ false → AllDigits 10 text → digits_value 10 text < 2 ^ 64 → text ≡ decimal (digits_value 10 text)
spelled_by text right digits bound =
    let parts = or_parts (length text == 0) ((get_or text 0 0 == 48) && ltb 1 (length text)) right in
    let some : 0 < length text = let here = eqb-false (length text) 0 parts.0 in omega arith in
    sym (decimal-digits_value own text digits some (λ nought. let short = ltb-false 1 (length text) (rw (eq-eqb (get_or text 0 0) 48 nought) at parts.1) in omega arith) bound)

-- so their number is read
pub spelled-some : (most n : ℕ) (text : List ℕ) → has_wrong_start text ≡ false → AllDigits 10 text → n ≡ digits_value 10 text → n < 2 ^ 64 → n ≤ most → number_of most text ≡ Some n
spelled-some most n text right digits value bound within =
    number_of-some most n text (sym value) (rw value (spelled_by text right digits (omega (arith, value)))) within

-- unless it is too great
pub spelled-more : (most n : ℕ) (text : List ℕ) → most < 2 ^ 64 → n ≡ digits_value 10 text → most < n → number_of most text ≡ None
spelled-more most n text bound value above = number_of-none most text (λ m spelled within.
    let same : digits_value 10 text ≡ m = rw spelled (decimal_is_IsNumeral m (omega arith)).1 in
    omega (arith, value, same))

-- a number's text is read
pub number_of-written : (most n : ℕ) (text : List ℕ) → most < 2 ^ 64 → (text ≡ decimal n) × (n ≤ most) → number_of most text ≡ Some n
number_of-written most n text bound written =
    let value : digits_value 10 (decimal n) ≡ n = (decimal_is_IsNumeral n (omega arith)).1 in
    number_of-some most n text (rw (written.0) value) written.0 written.1

-- a decimal number contains no byte that isn't a digit
pub has-decimal : (byte : ℕ) → ((x : ℕ) → 46 ≤ x → x ≤ 57 → (x == byte) ≡ false) → (n : ℕ) → n < 2 ^ 64 → has byte (decimal n) ≡ false
has-decimal byte others = decimal_by_steps (λ n ds. has byte ds ≡ false)
    (λ n small. let other = others (48 + n) (omega arith) (omega arith) in rw other refl)
    (λ n ds great before. let other = others (48 + n % 10) (omega arith) (omega arith) in rw (list_any-append, before, other) refl)
