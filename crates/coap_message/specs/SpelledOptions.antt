-- Options as the bytes that encode them.
use Rattle.std.specs.Prelude.{◌≡◌, ℕ, List, [], ◌∷◌}
use Rattle.std.specs.Option.{option_map_or}
use Rattle.coap_message.specs.declared.options.Opt.{Opt}
use Rattle.coap_message.specs.Options.{AreOptions, from_number, last_number}
use Rattle.coap_message.specs.Reading.{options_at}
use Rattle.coap_message.specs.Spelling.{options_spelling}

-- the options after one with the number `before` that the bytes encode
unfoldable pub options_of : ℕ → List ℕ → List Opt
options_of before bytes = option_map_or (λ found. found.0) (options_at before bytes) []

-- the bytes encode options, and nothing else
pub record SpellOptions (before : ℕ) (bytes : List ℕ) : Type 0 where
  pub bytes_are : bytes ≡ options_spelling before (options_of before bytes)
  pub in_order : AreOptions before (options_of before bytes)

-- the same, with the number of the last option
pub record SpellUpTo (bytes : List ℕ) (last : ℕ) : Type 0 where
  pub spelled : SpellOptions 0 bytes
  pub last_is : last ≡ last_number 0 (options_of 0 bytes)

-- the first option whose number isn't lower than this, with the bytes that encode those behind it
pub record SplitFrom (number : ℕ) (options : List Opt) (first : Opt × List ℕ) : Type 0 where
  pub are : from_number number options ≡ first.0 ∷ options_of first.0.number first.1
  pub behind : SpellOptions first.0.number first.1
