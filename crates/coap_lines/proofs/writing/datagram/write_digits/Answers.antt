use Rattle.std.proofs.Common.{◌+◌, ◌*◌, ◌<◌, ◌∙◌, ℕ, ap, arith, get_or}
use Rattle.hex.specs.Hex.{upper_digits}
use Rattle.hex.proofs.Pairs.{encode_done, encode_step}
use Rattle.coap_lines.specs.declared.writing.datagram.TheConstants.{PAIRS}
use Rattle.coap_lines.proofs.DigitPairs.{pair-at}
use Rattle.coap_lines.proofs.writing.datagram.write_digits.Goals as goal

pub loop-i-preserved : goal.loop-i-preserved
loop-i-preserved c =
    let byte : ℕ = get_or c.args.bytes.now c.loop-i.i 0 in
    let below : byte < 256 = omega (arith, c.type_inv.bytes c.loop-i.i) in
    let pair = pair-at byte below in
    encode_step upper_digits c.args.bytes.now c.loop-i.places c.loop-i.i _ _ (omega arith) (omega arith) (ap (λ (k : ℕ). get_or PAIRS.now (2 * k) 0) c.from-pair.ensures ∙ pair.0) (ap (λ (k : ℕ). get_or PAIRS.now (2 * k + 1) 0) c.from-pair.ensures ∙ pair.1) c.loop-i.invariant

pub returns : goal.returns
returns c =
    encode_done _ _ _ c.loop-i.i (omega arith) (omega arith) c.loop-i.invariant
