use Rattle.std.proofs.Common.{[]}
use Rattle.coap_message.proofs.PieceSpellings.{none_spelled, pieces_of-spelling}
use Rattle.coap_message.proofs.pieces.Pieces.with_room.Goals as goal

pub invariant_of-result : goal.invariant_of-result
invariant_of-result c = rw c.in_ok-with_capacity.ensures none_spelled

pub returns : goal.returns
returns c = rw c.in_ok-with_capacity.ensures (pieces_of-spelling [])
