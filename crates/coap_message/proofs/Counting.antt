-- The loops over options: how many there are, and the options themselves, so far and still to come.
use Rattle.std.proofs.Common.{◌≡◌, ℕ, true, false, List, [], ◌∷◌, ◌++◌, Option, Some, None, refl, sym, ap, ◌∙◌, append_assoc}
use Rattle.std.specs.Prelude.{option_map}
use Rattle.std.proofs.lemmas.List.{append-nil}
use Rattle.coap_message.specs.declared.options.Opt.{Opt}
use Rattle.coap_message.specs.Options.{last_number}
use Rattle.coap_message.specs.Reading.{option_at, begins_option, payload_at, no_options, one_option_more, options_at}
use Rattle.coap_message.proofs.ManyOptions.{options_step, options_fault, options_end}

-- the options and the payload, where they are found
abbrev pub Found : Type 0
Found = Option (List Opt × List ℕ)

-- these options in front
abbrev pub behind : List Opt → Found → Found
behind front found = option_map (λ f. (front ++ f.0, f.1)) found

-- one option more in front, before or after what is found
behind_more : (front : List Opt) (o : Opt) (found : Found) → behind front (option_map (one_option_more o) found) ≡ behind (front ++ o ∷ []) found
behind_more front o None = refl
behind_more front o (Some f) = ap (λ (l : List Opt). Some (l, f.1)) (sym (append_assoc front (o ∷ []) f.0))

-- a step of the loop: the option that is read stands in front
pub behind_step : (front : List Opt) (before : ℕ) (bytes : List ℕ) (o : Opt) (rest : List ℕ) (total : Found) → begins_option bytes ≡ true → option_at before bytes ≡ Some (o, rest)
    → behind front (options_at before bytes) ≡ total → behind (front ++ o ∷ []) (options_at o.number rest) ≡ total
behind_step front before bytes o rest total begins e so_far =
    sym (ap (behind front) (options_step before bytes o rest begins e) ∙ behind_more front o (options_at o.number rest)) ∙ so_far

-- its end: all options stand in front, and the payload is left
pub behind_end : (front : List Opt) (before : ℕ) (bytes payload : List ℕ) (total : Found) → begins_option bytes ≡ false → payload_at bytes ≡ Some payload → behind front (options_at before bytes) ≡ total → total ≡ Some (front, payload)
behind_end front before bytes payload total ends e so_far =
    sym so_far ∙ ap (behind front) (options_end before bytes ends ∙ ap (option_map no_options) e) ∙ ap (λ (l : List Opt). Some (l, payload)) (append-nil front)

-- where an option or the payload cannot be read, nothing is found in all
pub nothing_found : {B : Type 0} (f : List Opt × List ℕ → B) (before : ℕ) (bytes : List ℕ) (total : Option B) → begins_option bytes ≡ true → option_at before bytes ≡ None → option_map f (options_at before bytes) ≡ total → total ≡ None
nothing_found f before bytes total begins e so_far = sym so_far ∙ ap (option_map f) (options_fault before bytes begins e)

-- nor where the payload cannot be read
pub no_payload_found : {B : Type 0} (f : List Opt × List ℕ → B) (before : ℕ) (bytes : List ℕ) (total : Option B) → begins_option bytes ≡ false → payload_at bytes ≡ None → option_map f (options_at before bytes) ≡ total → total ≡ None
no_payload_found f before bytes total ends e so_far = sym so_far ∙ ap (option_map f) (options_end before bytes ends ∙ ap (option_map no_options) e)

-- the last number of options in two parts
pub last_number-append : (before : ℕ) (xs ys : List Opt) → last_number before (xs ++ ys) ≡ last_number (last_number before xs) ys
last_number-append before [] ys = refl
last_number-append before (x ∷ xs) ys = last_number-append x.number xs ys

-- the last number, one option on
pub last_number-push : (before : ℕ) (os : List Opt) (o : Opt) → last_number before (os ++ o ∷ []) ≡ o.number
last_number-push before os o = last_number-append before os (o ∷ [])
