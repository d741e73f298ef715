use Rattle.std.proofs.Common.{length, arith, ap}
use Rattle.coap_message.proofs.PieceSpellings.{few_pieces}
use Rattle.coap_message.proofs.pieces.Pieces.iter.Goals as goal

pub returns-clause-few : goal.returns-clause-few
returns-clause-few c = omega (arith, few_pieces c.self.inside.bytes c.self.invariant, ap length c.self.view_is)
