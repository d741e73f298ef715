-- Numbers that end before a byte which isn't a digit.
use Rattle.std.proofs.Common.{◌≡◌, ◌==◌, ℕ, ◌+◌, ◌-◌, ◌^◌, ◌<◌, ◌≤◌, false, List, [], ◌∷◌, ◌++◌, length, get_or, drop, drop-cons, take, add-one, Option, Some, None, refl, sym, ap, ◌∙◌, arith, ⊎_elim, eq-eqb}
use Rattle.std.specs.Char.{digit_value, is_ascii_digit}
use Rattle.std.specs.Str.Parse.{AllDigits, digits_value}
use Rattle.std.proofs.lemmas.Bool.{cases_lt, false≢true, ne_eqb}
use Rattle.std.proofs.lemmas.Bool.Decides.{nat_tests}
use Rattle.std.proofs.lemmas.List.{get_or-append_right, get_or-take, length-take, take-append-drop, take-append-le, take_more}
use Rattle.std.proofs.lemmas.List.Folds.{list_any-append}
use Rattle.coap_lines.specs.Texts.{cut, has}
use Rattle.coap_lines.specs.Numbers.{number_before, number_of}
use Rattle.coap_lines.proofs.Cuts.{All-others, cut-front, cut-is, cut-without}
use Rattle.coap_lines.proofs.Numerals.{great-none, long-none, other-none}

-- digits contain no byte that isn't one
pub has-digits : (byte : ℕ) → is_ascii_digit byte ≡ false → (text : List ℕ) → AllDigits 10 text → has byte text ≡ false
has-digits byte other [] all = refl
has-digits byte other (b ∷ text) all =
    let differs : (b == byte) ≡ false = ne_eqb b byte (λ same. let small : digit_value byte < 10 = rw same at all.0 in apart byte other small) in
    rw (differs, has-digits byte other text all.1) refl
  where
    apart : (x : ℕ) → is_ascii_digit x ≡ false → digit_value x < 10 → ⊥
    apart x none small = grind (arith, nat_tests)

-- nor with one more byte that is another
pub has-more : (byte : ℕ) (text : List ℕ) (i : ℕ) → i < length text → has byte (take i text) ≡ false → (get_or text i 0 == byte) ≡ false → has byte (take (i + 1) text) ≡ false
has-more byte text i inside none differs = rw (take_more text i 0 inside, list_any-append, none, differs) refl

-- a text is cut behind what contains no such byte
front-of : (byte : ℕ) (text front rest : List ℕ) (i : ℕ) → i < length text → has byte (take (i + 1) text) ≡ false → cut byte text ≡ Some (front, rest) → (i < length front) × (take (i + 1) front ≡ take (i + 1) text)
front-of byte text front rest i inside none found =
    let split = (cut-is byte text front rest found).0 in
    let long = ⊎_elim (λ (less : i < length front). less) (λ (more : length front ≤ i). absurd (met split more)) (cases_lt i (length front)) in
    (long, sym (ap (take (i + 1)) split ∙ take-append-le (i + 1) front (byte ∷ rest) (omega arith)))
  where
    met : text ≡ front ++ byte ∷ rest → length front ≤ i → ⊥
    met split more =
        let k : ℕ = length front in
        let early : k < i + 1 = omega arith in
        let within : k < length (take (i + 1) text) = omega (arith, length-take (i + 1) text) in
        let miss : (get_or (take (i + 1) text) k 0 == byte) ≡ false = All-others byte (take (i + 1) text) none k 0 within in
        let nought : k - k ≡ 0 = omega arith in
        let here : get_or (take (i + 1) text) k 0 ≡ byte = get_or-take (i + 1) text k 0 early ∙ ap (λ (t : List ℕ). get_or t k 0) split ∙ get_or-append_right front (byte ∷ rest) k k 0 refl (omega arith) ∙ ap (λ (n : ℕ). get_or (byte ∷ rest) n 0) nought in
        false≢true (sym miss ∙ eq-eqb (get_or (take (i + 1) text) k 0) byte here)

-- no number is read if none is in any front that contains these bytes
pub before-none : (byte most : ℕ) (text : List ℕ) (i : ℕ) → i < length text → has byte (take (i + 1) text) ≡ false → ((front : List ℕ) → i < length front → take (i + 1) front ≡ take (i + 1) text → number_of most front ≡ None) → number_before byte most text ≡ None
unfolding number_before
before-none byte most text i inside none never = go (cut byte text) refl
  where
    go : (parts : Option (List ℕ × List ℕ)) → cut byte text ≡ parts → number_before byte most text ≡ None
    go None is = rw is refl
    go (Some (front, rest)) is =
        let (long, same) = front-of byte text front rest i inside none is in
        rw (is, never front long same) refl

-- the last of some bytes that two texts begin with
last-same : (a b : List ℕ) (i : ℕ) → take (i + 1) a ≡ take (i + 1) b → get_or a i 0 ≡ get_or b i 0
last-same a b i same =
    let below : i < i + 1 = omega arith in
    sym (get_or-take (i + 1) a i 0 below) ∙ ap (λ (t : List ℕ). get_or t i 0) same ∙ get_or-take (i + 1) b i 0 below

-- digits that end at another byte
pub stop-none : (byte most : ℕ) (text : List ℕ) (i : ℕ) → most < 2 ^ 64 → is_ascii_digit byte ≡ false → i < length text → AllDigits 10 (take i text) → is_ascii_digit (get_or text i 0) ≡ false → (get_or text i 0 == byte) ≡ false → number_before byte most text ≡ None
stop-none byte most text i bound other inside digits stop differs =
    before-none byte most text i inside (has-more byte text i inside (has-digits byte other (take i text) digits) differs)
    (λ front long same. other-none most front i bound long (rw (last-same front text i same) stop))

-- digits whose number is too great
pub great-before-none : (byte most : ℕ) (text : List ℕ) (i : ℕ) → most < 2 ^ 64 → is_ascii_digit byte ≡ false → i < length text → AllDigits 10 (take (i + 1) text) → 2 ^ 64 ≤ digits_value 10 (take (i + 1) text) → number_before byte most text ≡ None
great-before-none byte most text i bound other inside digits great =
    before-none byte most text i inside (has-digits byte other (take (i + 1) text) digits)
    (λ front long same. great-none most front (i + 1) bound (rw same great))

-- more digits than such a number has
pub long-before-none : (byte most : ℕ) (text : List ℕ) (i : ℕ) → most < 10 ^ i → most < 2 ^ 64 → 0 < i → is_ascii_digit byte ≡ false → i < length text → AllDigits 10 (take (i + 1) text) → number_before byte most text ≡ None
long-before-none byte most text i few bound some other inside digits =
    before-none byte most text i inside (has-digits byte other (take (i + 1) text) digits)
    (λ front long same. long-none most front i few bound some long)

-- digits up to the end
pub end-none : (byte most : ℕ) (text : List ℕ) → is_ascii_digit byte ≡ false → AllDigits 10 text → number_before byte most text ≡ None
unfolding number_before
end-none byte most text other digits = rw (cut-without byte text (has-digits byte other text digits)) refl

-- a text is cut at a byte that ends digits
cut-place : (byte : ℕ) (text : List ℕ) (i : ℕ) → i < length text → has byte (take i text) ≡ false → get_or text i 0 ≡ byte → cut byte text ≡ Some (take i text, drop (i + 1) text)
cut-place byte text i inside none here =
    let split : take i text ++ (get_or text i 0 ∷ drop (i + 1) text) ≡ text = rw (add-one, ← drop-cons text i 0 inside) (take-append-drop i text) in
    ap (cut byte) (sym (rw here at split)) ∙ cut-front byte (take i text) (drop (i + 1) text) none

-- digits that end at the byte
pub place-some : (byte most n : ℕ) (text : List ℕ) (i : ℕ) → is_ascii_digit byte ≡ false → i < length text → AllDigits 10 (take i text) → get_or text i 0 ≡ byte → number_of most (take i text) ≡ Some n → number_before byte most text ≡ Some (n, drop (i + 1) text)
unfolding number_before
place-some byte most n text i other inside digits here read =
    rw (cut-place byte text i inside (has-digits byte other (take i text) digits) here, read) refl

pub place-none : (byte most : ℕ) (text : List ℕ) (i : ℕ) → is_ascii_digit byte ≡ false → i < length text → AllDigits 10 (take i text) → get_or text i 0 ≡ byte → number_of most (take i text) ≡ None → number_before byte most text ≡ None
unfolding number_before
place-none byte most text i other inside digits here unread =
    rw (cut-place byte text i inside (has-digits byte other (take i text) digits) here, unread) refl
