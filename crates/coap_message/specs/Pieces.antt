-- Pieces of bytes, stored one after the other, each preceded by its length.
use Rattle.std.specs.Prelude.{◌≡◌, ◌==◌, ℕ, zero, suc, ◌+◌, ◌/◌, ◌%◌, if◌then◌else◌, Bool, List, [], ◌∷◌, ◌++◌, length, take, drop, replicate, Option, Some, None, option_map}
use Rattle.std.specs.Option.{option_map_or}
use Rattle.std.specs.Bool.{Decides}
use Rattle.std.specs.Cmp.{unsigned_Decides}
use Rattle.std.specs.Cmp.Lexicographic.{pointwise, pointwise_decides}
use Rattle.std.specs.Hash.{HashWrites, Alike, same_Alike}

-- the encoding of a length: a byte 255 for each 255 in it, and then the remainder
abbrev pub length_spelling : ℕ → List ℕ
length_spelling n = replicate (n / 255) 255 ++ (n % 255) ∷ []

-- each piece preceded by its length
abbrev pub pieces_spelling : List (List ℕ) → List ℕ
pieces_spelling [] = []
pieces_spelling (p ∷ ps) = length_spelling (length p) ++ (p ++ pieces_spelling ps)

-- the length at the front, and what follows it
abbrev pub length_at : List ℕ → Option (ℕ × List ℕ)
length_at [] = None
length_at (b ∷ rest) =
    if b == 255
    then option_map (λ found. (255 + found.0, found.1)) (length_at rest)
    else Some (b, rest)

-- the pieces that bytes encode, at most this many
unfoldable pub pieces_within : ℕ → List ℕ → List (List ℕ)
pieces_within zero bytes = []
pieces_within (suc most) bytes =
    option_map_or
    (λ found. take found.0 found.1 ∷ pieces_within most (drop found.0 found.1))
    (length_at bytes) []

-- the pieces that bytes encode, each of which takes at least one byte
abbrev pub pieces_of : List ℕ → List (List ℕ)
pieces_of bytes = pieces_within (length bytes) bytes

-- the bytes encode pieces, and nothing else
pub record SpellPieces (bytes : List ℕ) : Type 0 where
  pub bytes_are : bytes ≡ pieces_spelling (pieces_of bytes)

-- lists of pieces have the same pieces in the same order
abbrev pub same_pieces : List (List ℕ) → List (List ℕ) → Bool
same_pieces = pointwise (pointwise ◌==◌)

-- what pieces feed to a hasher: their bytes, in one write
abbrev pub fed_pieces : List (List ℕ) → HashWrites
fed_pieces ps = pieces_spelling ps ∷ []

-- the test decides whether two lists are equal
pub same_pieces-Decides : (a b : List (List ℕ)) → Decides (same_pieces a b) (a ≡ b)
same_pieces-Decides = pointwise_decides (pointwise_decides unsigned_Decides)

-- equal lists feed a hasher the same
pub same_pieces-Alike : Alike same_pieces fed_pieces
same_pieces-Alike = same_Alike fed_pieces same_pieces-Decides
