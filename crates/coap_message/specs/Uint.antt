-- Integers as option values (RFC 7252, 3.2).
use Rattle.std.specs.Prelude.{◌≢◌, ℕ, zero, suc, ◌+◌, ◌*◌, ◌^◌, ◌<◌, List, [], ◌∷◌, length, slice_index}
use Rattle.std.specs.Int.{w64, to_be_bytes}

-- numbers that are bytes
abbrev pub IsBytes : List ℕ → Type 0
IsBytes bytes = (i : ℕ) → slice_index bytes i < 256

-- the number that bytes encode in network byte order
abbrev pub uint_of : List ℕ → ℕ
uint_of [] = 0
uint_of (b ∷ bytes) = b * 256 ^ length bytes + uint_of bytes

-- bytes without their leading zeros
abbrev pub without_zeros : List ℕ → List ℕ
without_zeros [] = []
without_zeros (zero ∷ bytes) = without_zeros bytes
without_zeros (suc b ∷ bytes) = suc b ∷ bytes

-- the fewest bytes that encode a number below 2 ^ 64
unfoldable pub uint_spelling : ℕ → List ℕ
uint_spelling n = without_zeros (to_be_bytes w64 n)

-- there is no leading zero
abbrev pub IsShortest : List ℕ → Type 0
IsShortest [] = Unit {0}
IsShortest (b ∷ bytes) = b ≢ 0
