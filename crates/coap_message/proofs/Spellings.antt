-- The relation and the function: a message is spelled by its spelling, and by nothing else.
use Rattle.std.proofs.Common.{◌≡◌, ℕ, ◌-◌, ◌/◌, ◌%◌, ◌<◌, ◌≤◌, true, false, ltb, List, [], ◌∷◌, ◌++◌, length, refl, ap, ◌∙◌, inl, inr, arith}
use Rattle.std.proofs.lemmas.List.{length-append}
use Rattle.std.proofs.lemmas.Bool.{cases_lt, lt-ltb, le-ltb}
use Rattle.coap_message.specs.declared.options.Opt.{Opt}
use Rattle.coap_message.specs.Options.{AreOptions}
use Rattle.coap_message.specs.Message.{Message}
use Rattle.coap_message.specs.Spelling.{Extends, SpellsOption, SpellsOptions, SpellsPayload, IsMessage, Spells, bits_of, more_of, option_spelling, options_spelling, payload_spelling, spelling, more_length, option_length, options_length, payload_length, spelling_length}

-- ---- deltas and lengths

-- four bits and further bytes are the ones that are written for a number
record Form (n bits : ℕ) (more : List ℕ) : Type 0 where
  bits_are : bits ≡ bits_of n
  more_is : more ≡ more_of n

-- by their parts
form_at : (n : ℕ) (bits : ℕ) (more : List ℕ) → bits ≡ bits_of n → more ≡ more_of n → Form n bits more
form_at n bits more p q = record { bits_are = p; more_is = q }

-- whatever extends to a number is what is written for it
Extends-form : (bits : ℕ) (more : List ℕ) (n : ℕ) → Extends bits more n → Form n bits more
Extends-form bits [] n is =
    let low : ltb n 13 ≡ true = lt-ltb _ _ is.1 in
    form_at n bits [] (rw low is.0) (rw low refl)
Extends-form bits (a ∷ []) n is =
    let first : ltb n 13 ≡ false = le-ltb _ _ (omega (arith, is.2)) in
    let second : ltb n 269 ≡ true = lt-ltb _ _ (omega (arith, is.1, is.2)) in
    let a_is : a ≡ n - 13 = omega (arith, is.2) in
    form_at n bits (a ∷ []) (rw (first, second) is.0) (rw (first, second) (ap (λ (x : ℕ). x ∷ []) a_is))
Extends-form bits (a ∷ b ∷ []) n is =
    let first : ltb n 13 ≡ false = le-ltb _ _ (omega (arith, is.3)) in
    let second : ltb n 269 ≡ false = le-ltb _ _ (omega (arith, is.3)) in
    let a_is : a ≡ (n - 269) / 256 = omega (arith, is.1, is.2, is.3) in
    let b_is : b ≡ (n - 269) % 256 = omega (arith, is.1, is.2, is.3) in
    form_at n bits (a ∷ b ∷ []) (rw (first, second) is.0) (rw (first, second, ← a_is, ← b_is) refl)
Extends-form bits (a ∷ b ∷ c ∷ more) n is = absurd is

-- and what is written extends to it
extends_form : (n : ℕ) → n ≤ 65804 → Extends (bits_of n) (more_of n) n
extends_form n within =
    elim (cases_lt n 13) [
      | inl lt ↦ rw (lt-ltb n 13 lt) (refl, lt)
      | inr ge ↦
          elim (cases_lt n 269) [
            | inl lt ↦ rw (le-ltb n 13 ge, lt-ltb n 269 lt) (refl, omega arith, omega arith)
            | inr high ↦ rw (le-ltb n 13 ge, le-ltb n 269 high) (refl, omega arith, omega arith, omega arith)
          ]
    ]

-- ---- options

-- whatever spells an option is what is written for it
pub option_form : (before : ℕ) (front : List ℕ) (o : Opt) → SpellsOption before front o → front ≡ option_spelling before o
unfolding option_spelling
option_form before front o s =
    let delta : o.number - before ≡ s.delta = omega (arith, s.number) in
    let d = Extends-form s.delta_bits s.delta_more s.delta s.delta_is in
    let l = Extends-form s.length_bits s.length_more (length o.value) s.length_is in
    s.bytes_are ∙ rw (delta, d.bits_are, d.more_is, l.bits_are, l.more_is) refl

-- and what is written spells it
pub form_option : (before : ℕ) (o : Opt) → before ≤ o.number → o.number < 65536 → length o.value ≤ 65804 → SpellsOption before (option_spelling before o) o
unfolding option_spelling
form_option before o above small within = record {
  delta = o.number - before;
  delta_bits = bits_of (o.number - before);
  delta_more = more_of (o.number - before);
  length_bits = bits_of (length o.value);
  length_more = more_of (length o.value);
  number = omega arith;
  delta_is = extends_form (o.number - before) (omega arith);
  length_is = extends_form (length o.value) within;
  bytes_are = refl;
}

-- the same of options: what spells them is what is written
pub options_form : (before : ℕ) (bytes : List ℕ) (os : List Opt) → SpellsOptions before bytes os → bytes ≡ options_spelling before os
options_form before bytes [] s = s
options_form before bytes (o ∷ os) s =
    s.2 ∙ ap (λ (t : List ℕ). t ++ s.1) (option_form before s.0 o s.3) ∙ ap (λ (t : List ℕ). option_spelling before o ++ t) (options_form o.number s.1 os s.4)

-- and what is written spells them
pub form_options : (before : ℕ) (os : List Opt) → AreOptions before os → SpellsOptions before (options_spelling before os) os
form_options before [] are = refl
form_options before (o ∷ os) are =
    (option_spelling before o, options_spelling o.number os, refl, form_option before o are.0 are.1 are.2, form_options o.number os are.3)

-- the same of a payload: what spells it is what is written
payload_form : (bytes payload : List ℕ) → SpellsPayload bytes payload → bytes ≡ payload_spelling payload
payload_form bytes [] s = s
payload_form bytes (p ∷ ps) s = s

-- and what is written spells it
form_payload : (payload : List ℕ) → SpellsPayload (payload_spelling payload) payload
form_payload [] = refl
form_payload (p ∷ ps) = refl

-- ---- messages

-- a message has no other spelling
pub spelled_once : (bytes : List ℕ) (m : Message) → Spells bytes m → bytes ≡ spelling m
unfolding spelling
spelled_once bytes m s =
    s.bytes_are ∙ rw (options_form 0 s.options m.options s.options_are, payload_form s.payload m.payload s.payload_is) refl

-- each message has one
pub spelled : (m : Message) → IsMessage m → Spells (spelling m) m
unfolding spelling
spelled m is = record {
  message = is;
  options = options_spelling 0 m.options;
  payload = payload_spelling m.payload;
  options_are = form_options 0 m.options is.options;
  payload_is = form_payload m.payload;
  bytes_are = refl;
}

-- ---- how many bytes

-- how many bytes extend a number
more-length : (n : ℕ) → length (more_of n) ≡ more_length n
more-length n =
    elim (cases_lt n 13) [
      | inl lt ↦ rw (lt-ltb n 13 lt) refl
      | inr ge ↦
          elim (cases_lt n 269) [
            | inl lt ↦ rw (le-ltb n 13 ge, lt-ltb n 269 lt) refl
            | inr high ↦ rw (le-ltb n 13 ge, le-ltb n 269 high) refl
          ]
    ]

-- how many bytes an option has
pub option-length : (before : ℕ) (o : Opt) → length (option_spelling before o) ≡ option_length before o
unfolding option_spelling
option-length before o =
    omega (arith, length-append (more_of (o.number - before)) (more_of (length o.value) ++ o.value), length-append (more_of (length o.value)) o.value, more-length (o.number - before), more-length (length o.value))

-- how many options have
pub options-length : (before : ℕ) (os : List Opt) → length (options_spelling before os) ≡ options_length before os
options-length before [] = refl
options-length before (o ∷ os) = omega (arith, length-append (option_spelling before o) (options_spelling o.number os), option-length before o, options-length o.number os)

-- how many a payload and its marker have
payload-length : (payload : List ℕ) → length (payload_spelling payload) ≡ payload_length payload
payload-length [] = refl
payload-length (p ∷ ps) = omega arith

-- how many a message has
pub spelling-length : (m : Message) → length (spelling m) ≡ spelling_length m
unfolding spelling
spelling-length m =
    omega (arith, length-append m.token (options_spelling 0 m.options ++ payload_spelling m.payload), length-append (options_spelling 0 m.options) (payload_spelling m.payload), options-length 0 m.options, payload-length m.payload)
