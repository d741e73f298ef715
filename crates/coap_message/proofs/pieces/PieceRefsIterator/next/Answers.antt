use Rattle.std.proofs.Common.{◌≡◌, ◌∷◌, [], ◌<◌, length, take, drop, arith, sym, ap, ◌∙◌}
use Rattle.coap_message.specs.Pieces.{pieces_of}
use Rattle.coap_message.proofs.PieceSpellings.{first_piece, no_piece, lengths_stand, lengths_fit}
use Rattle.coap_message.proofs.pieces.PieceRefsIterator.next.Goals as goal

pub read_length-requires-clause-stands : goal.read_length-requires-clause-stands
read_length-requires-clause-stands c = lengths_stand c.self.inside.rest.now c.self.invariant

pub read_length-requires-clause-fits : goal.read_length-requires-clause-fits
read_length-requires-clause-fits c = lengths_fit c.self.inside.rest.now c.self.invariant

pub returns-in_err-len-clause-steps : goal.returns-in_err-len-clause-steps
returns-in_err-len-clause-steps c =
    let none : c.args.self.now ≡ [] = sym c.self.view_is ∙ no_piece c.self.inside.rest.now (sym c.in_err-len.ensures) in
    rw c.from_residual.ensures (none, none)

pub split_at-requires : goal.split_at-requires
split_at-requires c = (first_piece c.self.inside.rest.now c.in_ok-len.len c.in_ok-len.behind.now c.self.invariant (sym c.in_ok-len.ensures)).within

pub invariant_of-self : goal.invariant_of-self
invariant_of-self c = rw c.split_at.ensures.back (first_piece c.self.inside.rest.now c.in_ok-len.len c.in_ok-len.behind.now c.self.invariant (sym c.in_ok-len.ensures)).spelled

pub returns-clause-steps : goal.returns-clause-steps
returns-clause-steps c = rw (c.split_at.ensures.back, c.split_at.ensures.front) (sym c.self.view_is ∙ (first_piece c.self.inside.rest.now c.in_ok-len.len c.in_ok-len.behind.now c.self.invariant (sym c.in_ok-len.ensures)).pieces)

pub returns-clause-goes : goal.returns-clause-goes
returns-clause-goes c =
    let left : c.args.self.now ≡ take c.in_ok-len.len c.in_ok-len.behind.now ∷ pieces_of (drop c.in_ok-len.len c.in_ok-len.behind.now) = sym c.self.view_is ∙ (first_piece c.self.inside.rest.now c.in_ok-len.len c.in_ok-len.behind.now c.self.invariant (sym c.in_ok-len.ensures)).pieces in
    let fewer : length (pieces_of c.split_at.result.1.now) < length c.args.self.now = omega (arith, ap length left, ap (λ l. length (pieces_of l)) c.split_at.ensures.back) in
    record { on = λ f. (tt, tt, fewer); keeps = tt; rests = λ f. tt }
