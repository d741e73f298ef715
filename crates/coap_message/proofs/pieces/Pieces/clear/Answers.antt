use Rattle.std.proofs.Common.{[]}
use Rattle.coap_message.proofs.PieceSpellings.{none_spelled, pieces_of-spelling}
use Rattle.coap_message.proofs.pieces.Pieces.clear.Goals as goal

pub invariant_of-self : goal.invariant_of-self
invariant_of-self c = rw c.clear.ensures none_spelled

pub returns : goal.returns
returns c = rw c.clear.ensures (pieces_of-spelling [])
