-- Texts that are split at a character, and texts in lower case.
use Rattle.std.specs.Prelude.{ℕ, ◌==◌, nat_lt, List, length, map, Option, Some, None, if◌then◌else◌}
use Rattle.std.specs.Char.{to_ascii_lowercase}
use Rattle.std.specs.List.{after_first, before_first, position_or_len}

-- the bytes of a text
abbrev pub Text : Type 0
Text = List ℕ

-- what comes before the first such character, and what comes after it, if there is one
abbrev pub cut_at : ℕ → Text → Option (Text × Text)
cut_at c text =
    if nat_lt (position_or_len (λ b. b == c) text) (length text)
    then Some (before_first (λ b. b == c) text, after_first (λ b. b == c) text)
    else None

-- in ASCII lower case
abbrev pub lower : Text → Text
lower text = map to_ascii_lowercase text
