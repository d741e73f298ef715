-- Numbers in options.
use Rattle.std.proofs.Common.{◌≡◌, ◌≤◌, ◌&&◌, ℕ, true, false, List, Option, Some, None, Result, Ok, Err, arith, refl, ⊎_elim, leb}
use Rattle.std.specs.Prelude.{IfSome}
use Rattle.std.specs.Str.Parse.{IsNumeral, ParsesUnsigned, digits_value, without_leading_plus}
use Rattle.std.proofs.lemmas.Bool.{cases_Bool, and_parts, leb-true, le-leb}
use Rattle.clap.specs.Words.{ReadsOne, Text}
use Rattle.coap_config.specs.Settings.{AreInRange, AreSettings, IsNumberOf, SaysNumber, narrowed}
use Rattle.coap_config.specs.OptionTable.{greatest, largest_buffer, longest_period}
use Rattle.coap_config.specs.declared.settings.Settings.{Settings}
use Rattle.clap.specs.Words.{Row}

-- the greatest number of 64 bits
abbrev all : ℕ
all = 18446744073709551615

-- the number read from a text is the one that the text gives
reads-text : {E : Type 0} (G : Text → Result ℕ E → Type 0) (t : Text) (r : Option ℕ)
    → ((u : Text) (x : Result ℕ E) → G u x → ParsesUnsigned 64 10 u x) → ReadsOne G t r → SaysNumber 0 all t r
reads-text G t (Some n) only read =
    let parsed = only t (Ok n) read in
    ((parsed.0.0, omega arith, omega (arith, parsed.0.1)), parsed.1)
reads-text G t None only read =
    let never = only t (Err read.0) read.1 in
    λ said. never (said.0, omega (arith, said.2))

-- the number read from an option is the one that its text gives
pub reads-option : {E : Type 0} (G : Text → Result ℕ E → Type 0) (o found : Option Text) (r : Option ℕ) → found ≡ o
    → ((u : Text) (x : Result ℕ E) → G u x → ParsesUnsigned 64 10 u x) → (found ≡ None → r ≡ None)
    → ((t : Text) → found ≡ Some t → ReadsOne G t r) → IsNumberOf 0 all o r
reads-option G None found r is only none some = none is
reads-option G (Some t) found r is only none some = reads-text G t r only (some t is)

-- the number that a text gives within a range is the one that it gives, if that is in the range
narrowed-text : (least most : ℕ) (t : Text) (n : Option ℕ) → most ≤ all → SaysNumber 0 all t n → SaysNumber least most t (narrowed least most n)
narrowed-text least most t None small said = λ p. said (p.0, omega arith, omega (arith, p.2))
narrowed-text least most t (Some n) small said =
    ⊎_elim
    (λ yes.
    let bounds = and_parts (leb least n) (leb n most) yes in
    let low : least ≤ n = leb-true least n bounds.0 in
    let high : n ≤ most = leb-true n most bounds.1 in
    rw yes ((said.0.0, rw said.1 at low, rw said.1 at high), said.1))
    (λ fails. rw fails (λ p. absurd (out p fails)))
    (cases_Bool (leb least n && leb n most))
  where
    value : ℕ
    value = digits_value 10 (without_leading_plus t)

    out : (IsNumeral 10 (without_leading_plus t) × (least ≤ value) × (value ≤ most)) → (leb least n && leb n most) ≡ false → ⊥
    out p fails =
        let low : leb least n ≡ true = le-leb least n (rw said.1 p.1) in
        let high : leb n most ≡ true = le-leb n most (rw said.1 p.2) in
        let bad : true ≡ false = rw (low, high) at fails in
        absurd cc

-- a number that an option gives, if it is in a range
pub narrowed-option : (least most : ℕ) (o : Option Text) (n : Option ℕ) → most ≤ all → IsNumberOf 0 all o n → IsNumberOf least most o (narrowed least most n)
narrowed-option least most None n small is = rw is refl
narrowed-option least most (Some t) n small is = narrowed-text least most t n small is

-- a number that an option gives is in its range
pub in-range : (least most : ℕ) (o : Option Text) (n : Option ℕ) → IsNumberOf least most o n → IfSome n (λ x. (least ≤ x) × (x ≤ most))
in-range least most None None is = tt
in-range least most None (Some n) is = absurd cc
in-range least most (Some t) None is = tt
in-range least most (Some t) (Some n) is = (rw is.1 is.0.1, rw is.1 is.0.2)

-- a number that is in a range isn't above its end
upper : (least most : ℕ) (n : Option ℕ) → IfSome n (λ x. (least ≤ x) × (x ≤ most)) → IfSome n (λ x. x ≤ most)
upper least most None is = tt
upper least most (Some n) is = is.1

-- a number that an option gives isn't above the end of its range
pub not-above : (least most : ℕ) (o : Option Text) (n : Option ℕ) → IsNumberOf least most o n → IfSome n (λ x. x ≤ most)
not-above least most o n is = upper least most n (in-range least most o n is)

-- so all settings are in their ranges
pub settings-in-range : (rows : List Row) (s : Settings) → AreSettings rows s → AreInRange s
settings-in-range rows s are = record {
  port = in-range 1 65535 _ s.port are.port;
  salt = not-above 0 greatest _ s.salt are.salt;
  turns = in-range 1 greatest _ s.turns are.turns;
  stats = in-range 1 longest_period _ s.stats are.stats;
  record_bytes = in-range 1 greatest _ s.record_bytes are.record_bytes;
  receive_buffer = in-range 1 largest_buffer _ s.receive_buffer are.receive_buffer;
}
