-- Options as the bytes that spell them: what is read from their front, and what is added at their end.
use Rattle.std.proofs.Common.{◌≡◌, ℕ, ◌<◌, ◌≤◌, ◌==◌, Bool, List, [], ◌∷◌, ◌++◌, length, Option, Some, None, refl, sym, ap, subst, ◌∙◌, append_assoc, arith}
use Rattle.std.specs.Option.{option_map_or}
use Rattle.std.specs.Cmp.Lexicographic.{pointwise}
use Rattle.coap_message.specs.SameOptions.{same_options, same_options-Decides}
use Rattle.std.proofs.lemmas.List.{append-nil, length-append}
use Rattle.std.proofs.lemmas.Option.{same_Some}
use Rattle.coap_message.specs.declared.options.Opt.{Opt}
use Rattle.coap_message.specs.Options.{AreOptions, last_number}
use Rattle.coap_message.specs.SpelledOptions.{options_of, SpellOptions, SpellUpTo}
use Rattle.coap_message.specs.Reading.{option_at, options_at}
use Rattle.coap_message.specs.Spelling.{option_spelling, options_spelling}
use Rattle.coap_message.proofs.Counting.{last_number-push}
use Rattle.coap_message.proofs.OneForm.{same_form}
use Rattle.coap_message.proofs.OneOption.{option_again}
use Rattle.coap_message.proofs.ManyOptions.{options_again}
use Rattle.coap_message.proofs.OptionLists.{AreOptions-push}
use Rattle.coap_message.proofs.Spellings.{form_option, form_options}

-- options are read from their spelling
pub options_of-spelling : (before : ℕ) (os : List Opt) → AreOptions before os → options_of before (options_spelling before os) ≡ os
unfolding options_of
options_of-spelling before os are =
    let read : options_at before (options_spelling before os ++ []) ≡ Some (os, []) = options_again before (options_spelling before os) os [] [] are (form_options before os are) refl in
    ap (λ (t : List ℕ). option_map_or (λ f. f.0) (options_at before t) []) (sym (append-nil (options_spelling before os)))
    ∙ ap (λ (found : Option (List Opt × List ℕ)). option_map_or (λ f. f.0) found []) read

-- a spelling spells options
pub spelling-spells : (before : ℕ) (os : List Opt) → AreOptions before os → SpellOptions before (options_spelling before os)
spelling-spells before os are =
    let read = options_of-spelling before os are in
    record { bytes_are = ap (options_spelling before) (sym read); in_order = subst (AreOptions before) (sym read) are }

-- ---- from the front

-- no option is read where there is none
none_is : (before : ℕ) (bytes : List ℕ) (os : List Opt) → bytes ≡ options_spelling before os → AreOptions before os → option_at before bytes ≡ None → os ≡ []
none_is before bytes [] b are e = refl
none_is before bytes (p ∷ ps) b are e =
    let again = option_again before (option_spelling before p) p (options_spelling p.number ps) are.1 (form_option before p are.0 are.1 are.2) in
    let other : ◌≡◌ {A = Option (Opt × List ℕ)} (Some (p, options_spelling p.number ps)) None = sym again ∙ ap (option_at before) (sym b) ∙ e in
    absurd cc

-- what is read is the first
some_is : (before : ℕ) (bytes : List ℕ) (os : List Opt) (o : Opt) (rest : List ℕ) → bytes ≡ options_spelling before os → AreOptions before os → option_at before bytes ≡ Some (o, rest)
    → (os ≡ o ∷ options_of o.number rest) × SpellOptions o.number rest
unfolding option_at
some_is before bytes [] o rest b are e = let other : ◌≡◌ {A = Option (Opt × List ℕ)} None (Some (o, rest)) = ap (option_at before) (sym b) ∙ e in absurd cc
some_is before bytes (p ∷ ps) o rest b are e =
    let again = option_again before (option_spelling before p) p (options_spelling p.number ps) are.1 (form_option before p are.0 are.1 are.2) in
    let same : (p, options_spelling p.number ps) ≡ (o, rest) = same_Some _ _ (sym again ∙ ap (option_at before) (sym b) ∙ e) in
    subst (λ (x : Opt × List ℕ). (p ∷ ps ≡ x.0 ∷ options_of x.0.number x.1) × SpellOptions x.0.number x.1) same
    (ap (λ (l : List Opt). p ∷ l) (sym (options_of-spelling p.number ps are.3)), spelling-spells p.number ps are.3)

-- where no option is read, none is left
pub next_none : (before : ℕ) (bytes : List ℕ) → SpellOptions before bytes → option_at before bytes ≡ None → options_of before bytes ≡ []
next_none before bytes s e = none_is before bytes (options_of before bytes) s.bytes_are s.in_order e

-- the option that is read is the first of those that are left
pub next_some : (before : ℕ) (bytes : List ℕ) (o : Opt) (rest : List ℕ) → SpellOptions before bytes → option_at before bytes ≡ Some (o, rest) → (options_of before bytes ≡ o ∷ options_of o.number rest) × SpellOptions o.number rest
next_some before bytes o rest s e = some_is before bytes (options_of before bytes) o rest s.bytes_are s.in_order e

-- ---- at the end

-- options in two parts are spelled one part after the other
pub options_spelling-append : (before : ℕ) (xs ys : List Opt) → options_spelling before (xs ++ ys) ≡ options_spelling before xs ++ options_spelling (last_number before xs) ys
options_spelling-append before [] ys = refl
options_spelling-append before (x ∷ xs) ys =
    ap (λ (l : List ℕ). option_spelling before x ++ l) (options_spelling-append x.number xs ys)
    ∙ sym (append_assoc (option_spelling before x) (options_spelling x.number xs) (options_spelling (last_number x.number xs) ys))

-- the spelling with one option more
options_spelling-push : (before : ℕ) (os : List Opt) (o : Opt) → options_spelling before (os ++ o ∷ []) ≡ options_spelling before os ++ option_spelling (last_number before os) o
options_spelling-push before os o =
    options_spelling-append before os (o ∷ [])
    ∙ ap (λ (l : List ℕ). options_spelling before os ++ l) (append-nil (option_spelling (last_number before os) o))

-- the bytes with one option more
pub record Pushed (bytes : List ℕ) (last : ℕ) (o : Opt) : Type 0 where
  pub read : options_of 0 (bytes ++ option_spelling last o) ≡ options_of 0 bytes ++ o ∷ []
  pub spelled : SpellUpTo (bytes ++ option_spelling last o) o.number

-- an option that is not below the last is added after the others
pub pushed : (bytes : List ℕ) (last : ℕ) (o : Opt) → SpellUpTo bytes last → last ≤ o.number → o.number < 65536 → length o.value ≤ 65804 → Pushed bytes last o
pushed bytes last o s above small within =
    let os = options_of 0 bytes in
    let are : AreOptions 0 (os ++ o ∷ []) = AreOptions-push 0 os o s.spelled.in_order (omega (arith, s.last_is)) small within in
    let more : options_spelling 0 (os ++ o ∷ []) ≡ bytes ++ option_spelling last o =
    options_spelling-push 0 os o ∙ ap (λ (n : ℕ). options_spelling 0 os ++ option_spelling n o) (sym s.last_is) ∙ ap (λ (l : List ℕ). l ++ option_spelling last o) (sym s.spelled.bytes_are) in
    let read : options_of 0 (bytes ++ option_spelling last o) ≡ os ++ o ∷ [] = ap (options_of 0) (sym more) ∙ options_of-spelling 0 (os ++ o ∷ []) are in
    record {
      read = read;
      spelled = record {
        spelled = subst (SpellOptions 0) more (spelling-spells 0 (os ++ o ∷ []) are);
        last_is = sym (ap (last_number 0) read ∙ last_number-push 0 os o);
      };
    }

-- no bytes spell no options
pub none_spelled : SpellUpTo [] 0
unfolding options_of
none_spelled = record { spelled = spelling-spells 0 [] tt; last_is = ap (last_number 0) (sym (options_of-spelling 0 [] tt)) }

-- ---- equality

-- bytes are the same exactly where the options are
pub same_bytes : (r : Bool) (a b : List ℕ) → SpellOptions 0 a → SpellOptions 0 b → r ≡ pointwise ◌==◌ a b → r ≡ same_options (options_of 0 a) (options_of 0 b)
same_bytes r a b s t e = same_form (options_of 0) (options_spelling 0) same_options same_options-Decides r a b s.bytes_are t.bytes_are e

-- ---- how many there are

-- an option takes a byte at least
option_spelling-takes : (before : ℕ) (o : Opt) → 0 < length (option_spelling before o)
unfolding option_spelling
option_spelling-takes before o = omega arith

-- so there are no more options than bytes
few : (before : ℕ) (os : List Opt) → length os ≤ length (options_spelling before os)
few before [] = omega arith
few before (o ∷ os) = omega (arith, few o.number os, option_spelling-takes before o, length-append (option_spelling before o) (options_spelling o.number os))

-- the same of the options that bytes spell
pub few_options : (bytes : List ℕ) → SpellOptions 0 bytes → length (options_of 0 bytes) ≤ length bytes
few_options bytes s = omega (arith, few 0 (options_of 0 bytes), ap length s.bytes_are)

-- no options, no bytes
pub no_bytes : (bytes : List ℕ) → SpellOptions 0 bytes → (bytes ≡ [] → options_of 0 bytes ≡ []) × (options_of 0 bytes ≡ [] → bytes ≡ [])
no_bytes bytes s = (λ e. ap (options_of 0) e ∙ options_of-spelling 0 [] tt, λ e. s.bytes_are ∙ ap (options_spelling 0) e)
