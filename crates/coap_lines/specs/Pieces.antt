-- Pieces of a line, which are taken from a reader one after the other.
use Rattle.std.specs.Prelude.{◌≡◌, ℕ, ◌+◌, ◌≤◌, ◌<◌, false, List, [], ◌∷◌, ◌++◌, length, Option, IfSome, vec_len}
use Rattle.std.specs.Global.{Vec}
use Rattle.std.specs.Io.KnownBytes.{Consumes, IsAtEnd}
use Rattle.coap_lines.specs.Texts.{has, line_feed}
use Rattle.coap_lines.specs.declared.reading.cutting.Piece.{Piece}
use Rattle.coap_lines.specs.declared.reading.cutting.Piece.TheVariants.{Feed, Open, Last}

-- the bytes of a line that were taken: its line feed isn't kept
abbrev pub taken : Piece → List ℕ → List ℕ
taken Feed line = line ++ line_feed ∷ []
taken Open line = line
taken Last line = line

-- A piece of at most `most` bytes was taken of what a reader had left, and added to what was held.
-- Before a line feed that is taken stand fewer than `most` bytes; a piece without one has a byte,
-- unless none was wanted; and the last one is empty.
pub record IsPiece (most : ℕ) (input left : Option (List ℕ)) (old new : Vec ℕ) (piece : Piece) :
    Type 0 where
  pub bytes : List ℕ
  pub added : new.items ≡ old.items ++ bytes
  pub within : vec_len new ≡ vec_len old + length bytes
  pub none : has line_feed bytes ≡ false
  pub took : Consumes input left (taken piece bytes)
  pub fits : length bytes ≤ most
  pub feed : piece ≡ Feed → length bytes < most
  pub some : piece ≡ Open → 0 < most → 0 < length bytes
  pub last : piece ≡ Last → (bytes ≡ []) × IfSome input (λ _. IsAtEnd left)
