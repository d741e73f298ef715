-- The bytes of a datagram as a text: hexadecimal digits, or a hyphen if there are none.
use Rattle.std.specs.Prelude.{◌≡◌, ℕ, ◌≤◌, ◌⊎◌, nat_le, List, [], ◌∷◌, length, take, codes, Option, Some, None, Result, Ok, Err, if◌then◌else◌}
use Rattle.std.specs.Str.{bytes_eq}
use Rattle.hex.specs.declared.error.FromHexError.{FromHexError}
use Rattle.hex.specs.Hex.{decode_of, encode_upper}

-- a text encodes the bytes: an even number of digits in either case, at least two, or a hyphen for
-- none
abbrev pub IsHex : List ℕ → List ℕ → Type 0
IsHex text bytes =
    ((text ≡ codes "-") × (bytes ≡ [])) ⊎ ((2 ≤ length text) × (decode_of text ≡ Ok bytes))

abbrev pub decoded : Result (List ℕ) FromHexError → Option (List ℕ)
decoded (Ok bytes) = Some bytes
decoded (Err e) = None

-- the bytes of an even number of digits
abbrev pub digits_read : List ℕ → Option (List ℕ)
digits_read text = decoded (decode_of text)

-- the first bytes of a slice, as many as were written
abbrev pub bytes_at_front : ℕ → Unit {0} → List ℕ → List ℕ
bytes_at_front count u places = take count places

-- the bytes that a text encodes
unfoldable pub bytes_read : List ℕ → Option (List ℕ)
bytes_read text =
    if bytes_eq text (codes "-") then Some []
    else if nat_le 2 (length text) then digits_read text
    else None

-- the text of bytes, in upper case
abbrev pub hex_text : List ℕ → List ℕ
hex_text [] = codes "-"
hex_text (b ∷ bytes) = encode_upper (b ∷ bytes)
