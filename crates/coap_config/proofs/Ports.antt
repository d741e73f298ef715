-- Ports of a next proxy.
use Rattle.std.proofs.Common.{◌≡◌, ◌==◌, ◌<◌, ◌&&◌, ◌^◌, ℕ, Bool, true, false, not, nat_le, [], ◌∷◌, take, codes, bytes_eq, None, Result, Err, refl, subst, arith}
use Rattle.std.specs.Char.{digit_value, is_ascii_digit}
use Rattle.std.specs.List.{list_all}
use Rattle.std.specs.Str.Parse.{AllDigits, ParsesUnsigned, digits_value, without_leading_plus}
use Rattle.std.proofs.lemmas.Bool.{and_parts, leb-true, lt-leb, ne_eqb}
use Rattle.std.proofs.lemmas.Str.{digit_value_digit}
use Rattle.coap_uri.specs.Uri.{is_port}
use Rattle.coap_config.specs.ProxyOption.{is_numeral, port_of}
use Rattle.coap_config.specs.Texts.{Text}

-- the value of a decimal digit
digit : (c : ℕ) → is_ascii_digit c ≡ true → digit_value c < 10
digit c is =
    let parts = and_parts (nat_le 48 c) (nat_le c 57) is in
    let low = leb-true 48 c parts.0 in
    let high = leb-true c 57 parts.1 in
    omega (arith, digit_value_digit c (low, high))

-- decimal digits
all-digits : (ds : Text) → list_all is_ascii_digit ds ≡ true → AllDigits 10 ds
all-digits [] all = tt
all-digits (c ∷ cs) all =
    let parts = and_parts (is_ascii_digit c) (list_all is_ascii_digit cs) all in
    (digit c parts.0, all-digits cs parts.1)

-- no plus stands before them
no-plus : (c : ℕ) (cs : Text) → is_ascii_digit c ≡ true → without_leading_plus (c ∷ cs) ≡ c ∷ cs
no-plus c cs is =
    let low = leb-true 48 c (and_parts (nat_le 48 c) (nat_le c 57) is).0 in
    let other : (c == 43) ≡ false = ne_eqb c 43 (λ same. omega arith) in
    rw other refl

-- a number above 65,535 is no port
above : (n : ℕ) → ¬ (n < 2 ^ 16) → is_port n ≡ false
above n great = go (nat_le 1 n)
  where
    go : (b : Bool) → (b && nat_le n 65535) ≡ false
    go true = lt-leb n 65535 (omega (arith, great))
    go false = refl

-- digits that aren't read as a number of sixteen bits are no port
pub unparsed : {E : Type 0} (t : Text) (r : Result ℕ E) (e : E) → r ≡ Err e → ParsesUnsigned 16 10 t r → is_numeral t ≡ true → None ≡ port_of t
unparsed [] r e is parses numeral = refl
unparsed (c ∷ cs) r e is parses numeral =
    let digits = (and_parts (not (bytes_eq (take 1 (c ∷ cs)) (codes "0"))) (list_all is_ascii_digit (c ∷ cs)) numeral).1 in
    let first = (and_parts (is_ascii_digit c) (list_all is_ascii_digit cs) digits).0 in
    let plain = no-plus c cs first in
    let never : ParsesUnsigned 16 10 (c ∷ cs) (Err e) = subst (ParsesUnsigned 16 10 (c ∷ cs)) is parses in
    let great : ¬ (digits_value 10 (c ∷ cs) < 2 ^ 16) = λ small. never (rw plain ((omega arith, all-digits (c ∷ cs) digits), small)) in
    rw (numeral, above (digits_value 10 (c ∷ cs)) great) refl
