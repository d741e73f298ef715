use Rattle.std.proofs.Common.{◌++◌, ◌∷◌, [], ap, ◌∙◌}
use Rattle.coap_message.specs.Pieces.{pieces_of}
use Rattle.coap_message.proofs.PieceSpellings.{pushed}
use Rattle.coap_message.proofs.pieces.Pieces.push.Goals as goal

pub invariant_of-self-in_default : goal.invariant_of-self-in_default
invariant_of-self-in_default c = rw c.in_default.ensures.ok (pushed c.self.inside.bytes c.args.piece.now c.self.invariant).spelled

pub returns-clause-ok : goal.returns-clause-ok
returns-clause-ok c = ap pieces_of c.in_default.ensures.ok ∙ (pushed c.self.inside.bytes c.args.piece.now c.self.invariant).read ∙ ap (λ l. l ++ c.args.piece.now ∷ []) c.self.view_is
