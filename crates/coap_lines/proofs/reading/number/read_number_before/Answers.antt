use Rattle.std.proofs.Common.{◌≡◌, ◌+◌, ◌-◌, ◌∙◌, ap, arith, drop, length, rules, sym, take}
use Rattle.std.proofs.lemmas.Bool.{ne_eqb}
use Rattle.std.proofs.lemmas.List.{length-drop, take_all}
use Rattle.coap_lines.specs.Numbers.{number_seen}
use Rattle.coap_lines.proofs.NumbersBefore.{end-none, great-before-none, place-none, place-some, stop-none}
use Rattle.coap_lines.proofs.Numerals.{next_digit, next_number, spelled-more, spelled-some, wrong-none}
use Rattle.coap_lines.proofs.reading.number.read_number_before.Goals as goal
use Rattle.coap_lines.proofs.reading.number.read_number_before.Goals.{then-next-byte-via-then-next-byte, then-next-byte-via-else-next-byte+then-number-most, then-next-byte-via-else-next-byte+else-number-most+then-has_wrong_start}

pub returns-then-next-byte-clause-read : goal.returns-then-next-byte-clause-read
returns-then-next-byte-clause-read c =
    let text = c.args.text.now in
    let i = c.loop-place.place in
    let most = c.args.most in
    let (digits, value, small) = c.loop-place.invariant in
    elim c.then-next-byte.branch [
      | then-next-byte-via-then-next-byte w ↦
          sym (stop-none c.args.byte most text i c.ranges.most.fits c.requires c.loop-place-test.true digits (sym c.is_ascii_digit.ensures.value ∙ c.if-not-is_ascii_digit.true) (ne_eqb _ _ w.if-next-byte.true))
      | then-next-byte-via-else-next-byte+then-number-most w ↦
          sym (place-none c.args.byte most text i c.requires c.loop-place-test.true digits w.if-next-byte.false (spelled-more most c.loop-place.number (take i text) c.ranges.most.fits value w.if-number-most.true))
      | then-next-byte-via-else-next-byte+else-number-most+then-has_wrong_start w ↦
          sym (place-none c.args.byte most text i c.requires c.loop-place-test.true digits w.if-next-byte.false (wrong-none most (take i text) c.ranges.most.fits (sym w.has_wrong_start.ensures ∙ w.if-has_wrong_start.true)))
    ]

pub returns-then-not-is_ascii_digit-clause-read : goal.returns-then-not-is_ascii_digit-clause-read
returns-then-not-is_ascii_digit-clause-read c =
    let text = c.args.text.now in
    let i = c.loop-place.place in
    let (digits, value, small) = c.loop-place.invariant in
    let rest : take (length text - (i + 1)) (drop (i + 1) text) ≡ drop (i + 1) text = take_all (length text - (i + 1)) (drop (i + 1) text) (omega (arith, length-drop (i + 1) text)) in
    rw rest (sym (place-some c.args.byte c.args.most c.loop-place.number text i c.requires c.loop-place-test.true digits c.if-next-byte.false (spelled-some c.args.most c.loop-place.number (take i text) (sym c.has_wrong_start.ensures ∙ c.if-has_wrong_start.false) digits value small c.if-number-most.false)))

pub returns-in_err-checked_mul-clause-read : goal.returns-in_err-checked_mul-clause-read
returns-in_err-checked_mul-clause-read c =
    let text = c.args.text.now in
    let i = c.loop-place.place in
    let next = next_number text i c.loop-place.number c.loop-place-test.true (search rules) c.loop-place.invariant.1 in
    let digits = next_digit text i c.loop-place-test.true (search rules) c.loop-place.invariant.0 in
    ap number_seen c.from_residual.ensures ∙ sym (great-before-none c.args.byte c.args.most text i c.ranges.most.fits c.requires c.loop-place-test.true digits (omega (arith, next, c.in_err-checked_mul.ensures)))

pub returns-in_err-number-clause-read : goal.returns-in_err-number-clause-read
returns-in_err-number-clause-read c =
    let text = c.args.text.now in
    let i = c.loop-place.place in
    let next = next_number text i c.loop-place.number c.loop-place-test.true (search rules) c.loop-place.invariant.1 in
    let digits = next_digit text i c.loop-place-test.true (search rules) c.loop-place.invariant.0 in
    ap number_seen c.from_residual-in_err-number.ensures ∙ sym (great-before-none c.args.byte c.args.most text i c.ranges.most.fits c.requires c.loop-place-test.true digits (omega (arith, next, c.in_ok-checked_mul.ensures, c.from.ensures, c.in_err-number.ensures)))

pub loop-place-preserved : goal.loop-place-preserved
loop-place-preserved c =
    let text = c.args.text.now in
    let i = c.loop-place.place in
    let next = next_number text i c.loop-place.number c.loop-place-test.true (search rules) c.loop-place.invariant.1 in
    (next_digit text i c.loop-place-test.true (search rules) c.loop-place.invariant.0, omega (arith, next, c.in_ok-checked_mul.ensures, c.from.ensures, c.in_ok-number.ensures), omega (arith, c.in_ok-number.ensures))

pub returns-clause-read : goal.returns-clause-read
returns-clause-read c =
    let whole = take_all c.loop-place.place c.args.text.now (omega arith) in
    sym (end-none c.args.byte c.args.most c.args.text.now c.requires (rw whole at c.loop-place.invariant.0))
