use Rattle.std.proofs.Common.{◌≡◌, ◌∷◌, ◌+◌, ◌<◌, ◌^◌, ℕ, List, length, arith, sym, ap, ◌∙◌, rules}
use Rattle.std.specs.Prelude.{option_map}
use Rattle.coap_message.specs.Pieces.{length_at}
use Rattle.coap_message.proofs.PieceSpellings.{length-fits}
use Rattle.coap_message.proofs.pieces.read_length.Goals as goal

pub overflow_add-len : goal.overflow_add-len
overflow_add-len c =
    let byte : c.in-Some.byte.now ≡ 255 = search rules in
    let rest : c.lengths.rest.now ≡ 255 ∷ c.in-Some.behind.now = c.in-Some.ensures.cases.0 ∙ ap (λ (b : ℕ). b ∷ c.in-Some.behind.now) byte in
    let few : length c.args.bytes.now < 2 ^ 64 = omega arith in
    omega (
      arith,
      length-fits c.args.bytes.now c.in-Some.behind.now c.lengths.len few c.requires.stands c.requires.fits (omega (arith, ap length rest, c.lengths.invariant.left))
          (ap (λ (l : List ℕ). option_map (λ (f : ℕ × List ℕ). (c.lengths.len + f.0, f.1)) (length_at l)) (sym rest) ∙ c.lengths.invariant.found),
    )
