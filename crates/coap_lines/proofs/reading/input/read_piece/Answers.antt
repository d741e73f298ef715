use Rattle.std.proofs.Common.{arith, rules}
use Rattle.coap_lines.proofs.NextLines.{begun}
use Rattle.coap_lines.proofs.Pieces.{piece-none, piece-taken}
use Rattle.coap_lines.proofs.reading.input.read_piece.Goals as goal

pub returns-in_err-take_piece-clause-begun : goal.returns-in_err-take_piece-clause-begun
returns-in_err-take_piece-clause-begun g c = begun _ _ _ c.loop-pieces.line.items _ c.loop-pieces.invariant.1 c.loop-pieces.invariant.2 c.in_err-take_piece.ensures.kept

pub returns-in-Feed-clause-none : goal.returns-in-Feed-clause-none
returns-in-Feed-clause-none g c = piece-none _ _ _ _ _ _ c.in_ok-take_piece.ensures.taken c.loop-pieces.invariant.1

pub returns-in-Feed-clause-bytes : goal.returns-in-Feed-clause-bytes
returns-in-Feed-clause-bytes g c = piece-taken _ _ _ _ _ _ _ _ c.in-Feed.is c.loop-pieces.invariant.2 c.in_ok-take_piece.ensures.taken

pub loop-pieces-preserved : goal.loop-pieces-preserved
loop-pieces-preserved g c =
    let piece = c.in_ok-take_piece.ensures.taken in
    let (within, none, taken, room, few, kept) = c.loop-pieces.invariant in
    (omega (arith, piece.within, piece.fits, c.len.ensures), piece-none _ _ _ _ _ _ piece none, piece-taken _ _ _ _ _ _ _ _ c.in-Open.is taken piece, search rules, omega (arith, piece.within, piece.some c.in-Open.is (omega (arith, c.len.ensures, c.if-room-eq0.false)), few), search rules)
