-- The values in a line: what peers chose, as they stand there.
use Rattle.std.specs.Prelude.{◌≢◌, ℕ, ◌+◌, ◌/◌, ◌%◌, ◌<◌, ◌==◌, ◌&&◌, Bool, not, nat_lt, if◌then◌else◌, List, [], ◌∷◌}
use Rattle.std.specs.List.{flat_map}

-- A byte stands for itself if it is a visible character of ASCII, but no quotation mark and no
-- equals sign.
abbrev pub is_plain : ℕ → Bool
is_plain b = (nat_lt 0x20 b && nat_lt b 0x7F) && (not (b == 0x22) && not (b == 0x3D))

-- a hexadecimal digit, in upper case
abbrev pub hex_digit : ℕ → ℕ
hex_digit n = if nat_lt n 10 then 0x30 + n else 0x37 + n

-- a byte, or a percent sign and its two hexadecimal digits
abbrev pub escape : ℕ → List ℕ
escape b =
    if is_plain b then b ∷ [] else 0x25 ∷ hex_digit (b / 16) ∷ hex_digit (b % 16) ∷ []

abbrev pub escaped : List ℕ → List ℕ
escaped bytes = flat_map escape bytes

-- a byte that ends no line, no word and no key: neither the blank nor a byte below it, as a line
-- feed, nor a quotation mark or an equals sign
pub record EndsNothing (b : ℕ) : Type 0 where
  pub printed : 0x20 < b
  pub quotation : b ≢ 0x22
  pub equals : b ≢ 0x3D
