-- Options from a number on, all behind the first as the bytes that spell them.
use Rattle.std.proofs.Common.{◌≡◌, ℕ, ◌<◌, ◌≤◌, List, [], ◌∷◌, ◌++◌, length, Option, Some, None, option_map, sym, ap, subst, ◌∙◌, arith, inl, inr}
use Rattle.std.specs.Prelude.{IfSome}
use Rattle.std.proofs.lemmas.Bool.{cases_lt}
use Rattle.coap_message.specs.declared.options.Opt.{Opt}
use Rattle.coap_message.specs.declared.reading.Parsed.{Parsed}
use Rattle.coap_message.specs.Options.{AreOptions, from_number, last_number}
use Rattle.coap_message.specs.Parsing.{parsed}
use Rattle.coap_message.specs.Reading.{option_at}
use Rattle.coap_message.specs.SpelledOptions.{options_of, SpellOptions, SpellUpTo, SplitFrom}
use Rattle.coap_message.specs.Spelling.{option_spelling, options_spelling}
use Rattle.coap_message.proofs.OptionSpellings.{next_none, next_some, options_of-spelling, options_spelling-append, spelling-spells}
use Rattle.coap_message.proofs.OptionLists.{AreOptions-append}
use Rattle.coap_message.proofs.Counting.{last_number-append}
use Rattle.coap_message.proofs.Runs.{from-below, from-here, from-in_order}

-- the number of the first option, if there is one
abbrev first_number : List Opt → ℕ
first_number [] = 0
first_number (o ∷ os) = o.number

-- the first of them isn't below the number
pub from-first : (n : ℕ) (os : List Opt) (o : Opt) (rest : List Opt) → from_number n os ≡ o ∷ rest → n ≤ o.number
from-first n [] o rest e = absurd cc
from-first n (p ∷ ps) o rest e =
    elim (cases_lt p.number n) [
      | inl below ↦ from-first n ps o rest (sym (from-below n p ps below) ∙ e)
      | inr above ↦ let same : p.number ≡ o.number = ap first_number (sym (from-here n p ps above) ∙ e) in omega (arith, above, same)
    ]

-- and the last of them is the last of all
pub from-last : (n b : ℕ) (os : List Opt) (o : Opt) (rest : List Opt) → from_number n os ≡ o ∷ rest → last_number o.number rest ≡ last_number b os
from-last n b [] o rest e = absurd cc
from-last n b (p ∷ ps) o rest e =
    elim (cases_lt p.number n) [
      | inl below ↦ from-last n p.number ps o rest (sym (from-below n p ps below) ∙ e)
      | inr above ↦ ap (last_number b) (sym (sym (from-here n p ps above) ∙ e))
    ]

-- What is read where they begin.
module _ (n before : ℕ) (bytes : List ℕ) (options : List Opt) (s : SpellOptions before bytes) (are : options_of before bytes ≡ from_number n options) where
  -- it is the first
  pub split-some : (read : Option Parsed) → option_map parsed read ≡ option_at before bytes → IfSome read (λ first. SplitFrom n options (parsed first))
  split-some None e = tt
  split-some (Some p) e = let next = next_some before bytes (parsed p).0 p.rest.now s (sym e) in record { are = sym are ∙ next.0; behind = next.1 }

  -- it isn't below the number
  pub split-above : (read : Option Parsed) → option_map parsed read ≡ option_at before bytes → IfSome read (λ first. n ≤ first.number)
  split-above None e = tt
  split-above (Some p) e = from-first n options (parsed p).0 (options_of p.number p.rest.now) (split-some (Some p) e).are

  -- and if nothing is, there are none
  pub split-none : (read : Option Parsed) → option_map parsed read ≡ option_at before bytes → read ≡ None → from_number n options ≡ []
  split-none read e none = sym are ∙ next_none before bytes s (sym e ∙ ap (option_map parsed) none)

-- The bytes of options, with those from a number on of others.
pub record Joined (bytes : List ℕ) (more : List ℕ) (options : List Opt) (last : ℕ) : Type 0 where
  pub read : options_of 0 (bytes ++ more) ≡ options_of 0 bytes ++ options
  pub spelled : SpellUpTo (bytes ++ more) last

-- the first after the others, and what spells those behind it
pub joined : (bytes : List ℕ) (last : ℕ) (o : Opt) (rest : List ℕ) → SpellUpTo bytes last → last ≤ o.number → o.number < 65536 → length o.value ≤ 65804 → SpellOptions o.number rest
    → Joined bytes (option_spelling last o ++ rest) (o ∷ options_of o.number rest) (last_number o.number (options_of o.number rest))
joined bytes last o rest s above small within behind =
    let os = options_of 0 bytes in
    let tail = o ∷ options_of o.number rest in
    let are : AreOptions 0 (os ++ tail) = AreOptions-append 0 os tail s.spelled.in_order (omega (arith, s.last_is), small, within, behind.in_order) in
    let more : options_spelling 0 (os ++ tail) ≡ bytes ++ (option_spelling last o ++ rest) =
    options_spelling-append 0 os tail ∙ ap (λ (n : ℕ). options_spelling 0 os ++ (option_spelling n o ++ options_spelling o.number (options_of o.number rest))) (sym s.last_is)
    ∙ ap (λ (l : List ℕ). options_spelling 0 os ++ (option_spelling last o ++ l)) (sym behind.bytes_are) ∙ ap (λ (l : List ℕ). l ++ (option_spelling last o ++ rest)) (sym s.spelled.bytes_are) in
    let read : options_of 0 (bytes ++ (option_spelling last o ++ rest)) ≡ os ++ tail = ap (options_of 0) (sym more) ∙ options_of-spelling 0 (os ++ tail) are in
    record {
      read = read;
      spelled = record {
        spelled = subst (SpellOptions 0) more (spelling-spells 0 (os ++ tail) are);
        last_is = sym (ap (last_number 0) read ∙ last_number-append 0 os tail);
      };
    }

-- the same, of those of a list from a number on
pub joined-from : (n : ℕ) (bytes : List ℕ) (last : ℕ) (options : List Opt) (end : ℕ) (o : Opt) (rest : List ℕ) → SpellUpTo bytes last → last_number 0 (options_of 0 bytes) ≤ n → AreOptions 0 options
    → SplitFrom n options (o, rest) → end ≡ last_number 0 options → Joined bytes (option_spelling last o ++ rest) (from_number n options) end
joined-from n bytes last options end o rest s below are split ends =
    let above : last ≤ o.number = omega (arith, s.last_is, below, from-first n options o (options_of o.number rest) split.are) in
    let first : AreOptions 0 (o ∷ options_of o.number rest) = subst (AreOptions 0) split.are (from-in_order n 0 options are) in
    let at : last_number o.number (options_of o.number rest) ≡ end = from-last n 0 options o (options_of o.number rest) split.are ∙ sym ends in
    subst (Joined bytes (option_spelling last o ++ rest) (from_number n options)) at
    (subst (λ (os : List Opt). Joined bytes (option_spelling last o ++ rest) os (last_number o.number (options_of o.number rest))) (sym split.are) (joined bytes last o rest s above first.1 first.2 split.behind))
