-- The options of a message, each in its place: with the number of options before it that have the
-- same option number.
use Rattle.std.specs.Prelude.{ℕ, Bool, ◌==◌, List, [], ◌∷◌, ◌++◌, count_by, length}
use Rattle.coap_message.specs.declared.options.Opt.{Opt}
use Rattle.coap_option.specs.declared.side.Side.{Side}
use Rattle.coap_option.specs.Recognition.{is_recognised}

-- an option, and the number of options before it that have the same option number
pub record PlacedOption : Type 0 where
  pub option : Opt
  pub before : ℕ

-- how many of the options have this number
abbrev pub count_of : ℕ → List Opt → ℕ
count_of number options = count_by (λ o. o.number == number) options

-- the places of the options that come after those passed
abbrev pub places_behind : List Opt → List Opt → List PlacedOption
places_behind passed [] = []
places_behind passed (o ∷ os) =
    record { option = o; before = count_of o.number passed } ∷ places_behind (passed ++ o ∷ []) os

-- the places of a message's options
abbrev pub places : List Opt → List PlacedOption
places options = places_behind [] options

-- the option is recognised in its place, in a message of this side
abbrev pub is_recognised_at : Side → PlacedOption → Bool
is_recognised_at side p = is_recognised side p.option.number (length p.option.value) p.before
