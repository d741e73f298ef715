use Rattle.std.proofs.Common.{◌≡◌, ◌++◌, ◌+◌, ◌<◌, ◌≤◌, false, List, ℕ, length}
use Rattle.std.specs.Io.KnownBytes.{Appends}
use Rattle.coap_lines.proofs.writing.output.write_pieces.Given as goal

-- the rest follows what was written, and each piece had a byte; the writer hasn't failed since the first
-- of them, and before it is as it was
abbrev pub invariant-loop-pieces : goal.invariant-loop-pieces
invariant-loop-pieces g l = (done : List ℕ) × (l.bytes ≡ done ++ l.rest) × Appends (g.W.Write.contents l.fn.writer.inner) (g.W.Write.contents l.writer.inner) done × (l.pieces + length l.rest ≤ length l.bytes) × (0 < l.pieces → l.writer.failing.last ≡ false) × (l.pieces ≡ 0 → (l.writer.failing.last ≡ l.fn.writer.failing.last) × (l.rest ≡ l.bytes))
