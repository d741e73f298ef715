use Rattle.std.proofs.Common.{◌≡◌, ◌<◌, ◌≤◌, false, vec_capacity, vec_len}
use Rattle.std.specs.Io.KnownBytes.{Consumes}
use Rattle.coap_lines.specs.Texts.{has}
use Rattle.coap_lines.proofs.reading.input.read_piece.Given as goal

-- the line so far was taken from the input, and contains no line feed; each piece gave it a byte, and
-- the reader hasn't failed since
abbrev pub invariant-loop-pieces : goal.invariant-loop-pieces
invariant-loop-pieces g l = (vec_len l.line ≤ 16385) × (has 10 l.line.items ≡ false) × Consumes (g.R.Read.remaining l.fn.reader.inner) (g.R.Read.remaining l.reader.inner) l.line.items × (vec_capacity l.fn.line ≤ vec_capacity l.line) × (l.pieces ≤ vec_len l.line) × (0 < vec_len l.line → l.reader.failing.last ≡ false)
