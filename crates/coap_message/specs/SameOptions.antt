-- When options are equal.
use Rattle.std.specs.Prelude.{◌≡◌, ◌==◌, ℕ, Bool, List, [], ◌∷◌, refl}
use Rattle.std.specs.Bool.{Decides}
use Rattle.std.specs.Cmp.{first_so, second_so, unsigned_Decides}
use Rattle.std.specs.Cmp.Lexicographic.{pointwise, pointwise_decides}
use Rattle.std.specs.Hash.{HashWrites, Alike, same_Alike}
use Rattle.std.specs.Ordering.{on, eq_of_both}
use Rattle.coap_message.specs.declared.options.Opt.{Opt}
use Rattle.coap_message.specs.Options.{option_of}
use Rattle.coap_message.specs.Spelling.{options_spelling}

-- two options have the same number and the same value
abbrev pub same_option : Opt → Opt → Bool
same_option = eq_of_both (on (λ o. o.number) ◌==◌) (on (λ o. o.value) (pointwise ◌==◌))

-- lists of options have the same options in the same order
abbrev pub same_options : List Opt → List Opt → Bool
same_options = pointwise same_option

-- what options feed to a hasher: their bytes, in one write
abbrev pub fed_options : List Opt → HashWrites
fed_options os = options_spelling 0 os ∷ []

-- options with the same number and the same value are equal
both : {m n : ℕ} {v w : List ℕ} → m ≡ n → v ≡ w → option_of m v ≡ option_of n w
both p q = cc

-- so the test decides whether two options are equal
same_option-Decides : (a b : Opt) → Decides (same_option a b) (a ≡ b)
same_option-Decides a b =
    let numbers = unsigned_Decides a.number b.number in
    let values = pointwise_decides unsigned_Decides a.value b.value in
    let number_itself = (unsigned_Decides b.number b.number).1 refl in
    let value_itself = (pointwise_decides unsigned_Decides b.value b.value).1 refl in (
      λ h. both (numbers.0 (first_so _ _ h)) (values.0 (second_so _ _ h)),
      λ e. rw e (rw (number_itself, value_itself) refl),
    )

-- and whether two lists are
pub same_options-Decides : (a b : List Opt) → Decides (same_options a b) (a ≡ b)
same_options-Decides = pointwise_decides same_option-Decides

-- equal lists feed a hasher the same
pub same_options-Alike : Alike same_options fed_options
same_options-Alike = same_Alike fed_options same_options-Decides
