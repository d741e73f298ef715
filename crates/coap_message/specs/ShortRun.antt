-- Options with the same number whose values are short: after the first, each is encoded as a piece
-- is.
use Rattle.std.specs.Prelude.{◌≡◌, ℕ, ◌<◌, List, ◌∷◌, ◌++◌, length}
use Rattle.std.specs.List.{AllByRecursion}
use Rattle.coap_message.specs.Pieces.{pieces_of, SpellPieces}

-- the bytes begin with pieces of fewer than 13 bytes, whose lengths need no extension in an option
-- either (RFC 7252, 3.1)
pub record ShortRun (bytes front rest : List ℕ) : Type 0 where
  pub parts : bytes ≡ front ++ rest
  pub spelled : SpellPieces front
  pub short : AllByRecursion (λ piece. length piece < 13) (pieces_of front)

-- the bytes begin with one of them
pub record ShortPiece (bytes rest : List ℕ) : Type 0 where
  pub piece : List ℕ
  pub short : length piece < 13
  pub parts : bytes ≡ length piece ∷ (piece ++ rest)
