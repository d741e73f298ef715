use Rattle.std.proofs.Common.{◌++◌, ap, ◌∙◌}
use Rattle.coap_message.specs.Pieces.{pieces_of}
use Rattle.coap_message.proofs.PieceSpellings.{appended}
use Rattle.coap_message.proofs.pieces.Pieces.append_spelled.Goals as goal

pub invariant_of-self-2 : goal.invariant_of-self-2
invariant_of-self-2 c = rw c.in_ok-append.ensures.ok (appended c.self.inside.bytes c.args.bytes.now c.self.invariant c.requires).spelled

pub returns-clause-ok : goal.returns-clause-ok
returns-clause-ok c = ap pieces_of c.in_ok-append.ensures.ok ∙ (appended c.self.inside.bytes c.args.bytes.now c.self.invariant c.requires).read ∙ ap (λ l. l ++ pieces_of c.args.bytes.now) c.self.view_is
