use Rattle.std.proofs.Common.{◌≡◌, ◌+◌, ◌-◌, ◌∙◌, ◌<◌, ◌^◌, arith, drop, length, rules, sym, take}
use Rattle.std.proofs.lemmas.Bool.{ne_eqb}
use Rattle.std.proofs.lemmas.List.{length-drop, take_all}
use Rattle.coap_lines.proofs.NumbersBefore.{end-none, long-before-none, place-none, place-some, stop-none}
use Rattle.coap_lines.proofs.Numerals.{digits-below, next_digit, next_number, spelled-more, spelled-some, wrong-none}
use Rattle.coap_lines.proofs.reading.number.read_short_before.Goals as goal
use Rattle.coap_lines.proofs.reading.number.read_short_before.Goals.{then-next-byte-via-then-next-byte, then-next-byte-via-else-next-byte+then-number-from, then-next-byte-via-else-next-byte+else-number-from+then-has_wrong_start}

pub returns-then-place-text-clause-read : goal.returns-then-place-text-clause-read
returns-then-place-text-clause-read c =
    let (within, digits, value) = c.digits.invariant in
    let whole = take_all c.digits.place c.args.text.now (omega (arith, c.if-place-text.true)) in
    sym (end-none c.args.byte c.args.most c.args.text.now c.requires (rw whole at digits))

pub returns-then-next-byte-clause-read : goal.returns-then-next-byte-clause-read
returns-then-next-byte-clause-read c =
    let text = c.args.text.now in
    let i = c.digits.place in
    let most = c.args.most in
    let (within, digits, value) = c.digits.invariant in
    let inside : i < length text = omega (arith, within, c.if-place-text.false) in
    elim c.then-next-byte.branch [
      | then-next-byte-via-then-next-byte w ↦
          sym (stop-none c.args.byte most text i (omega (arith, c.ranges.most.fits)) c.requires inside digits (sym c.is_ascii_digit.ensures.value ∙ c.if-not-is_ascii_digit.true) (ne_eqb _ _ w.if-next-byte.true))
      | then-next-byte-via-else-next-byte+then-number-from w ↦
          sym (place-none c.args.byte most text i c.requires inside digits w.if-next-byte.false (spelled-more most c.digits.number (take i text) (omega (arith, c.ranges.most.fits)) value (omega (arith, w.from.ensures, w.if-number-from.true))))
      | then-next-byte-via-else-next-byte+else-number-from+then-has_wrong_start w ↦
          sym (place-none c.args.byte most text i c.requires inside digits w.if-next-byte.false (wrong-none most (take i text) (omega (arith, c.ranges.most.fits)) (sym w.has_wrong_start.ensures ∙ w.if-has_wrong_start.true)))
    ]

pub returns-then-not-is_ascii_digit-clause-read : goal.returns-then-not-is_ascii_digit-clause-read
returns-then-not-is_ascii_digit-clause-read c =
    let text = c.args.text.now in
    let i = c.digits.place in
    let (within, digits, value) = c.digits.invariant in
    let inside : i < length text = omega (arith, within, c.if-place-text.false) in
    let rest : take (length text - (i + 1)) (drop (i + 1) text) ≡ drop (i + 1) text = take_all (length text - (i + 1)) (drop (i + 1) text) (omega (arith, length-drop (i + 1) text)) in
    rw rest (sym (place-some c.args.byte c.args.most c.digits.number text i c.requires inside digits c.if-next-byte.false (spelled-some c.args.most c.digits.number (take i text) (sym c.has_wrong_start.ensures ∙ c.if-has_wrong_start.false) digits value (omega (arith, c.digits.auto.number-fits)) (omega (arith, c.from.ensures, c.if-number-from.false)))))

pub overflow_mul-number : goal.overflow_mul-number
overflow_mul-number c =
    let (within, digits, value) = c.digits.invariant in
    let below : c.digits.number < 10 ^ 5 = digits-below c.args.text.now c.digits.place c.digits.number 5 within (omega (arith, c.digits-test.true)) digits value in
    omega (arith, below)

pub overflow_add-number : goal.overflow_add-number
overflow_add-number c =
    let (within, digits, value) = c.digits.invariant in
    let below : c.digits.number < 10 ^ 5 = digits-below c.args.text.now c.digits.place c.digits.number 5 within (omega (arith, c.digits-test.true)) digits value in
    omega (arith, below, c.from-in-digits.ensures, c.type_inv.text c.digits.place)

pub digits-preserved : goal.digits-preserved
digits-preserved c =
    let text = c.args.text.now in
    let i = c.digits.place in
    let (within, digits, value) = c.digits.invariant in
    let inside : i < length text = omega (arith, within, c.if-place-text.false) in
    let next = next_number text i c.digits.number inside (search rules) value in
    (omega (arith, inside), next_digit text i inside (search rules) digits, omega (arith, next, c.from-in-digits.ensures))

pub returns-clause-read : goal.returns-clause-read
returns-clause-read c =
    let (within, digits, value) = c.digits.invariant in
    let six : c.digits.place ≡ 5 + 1 = omega (arith, c.digits-test.false, c.digits.auto.place-end) in
    sym (long-before-none c.args.byte c.args.most c.args.text.now 5 (omega (arith, c.ranges.most.fits)) (omega (arith, c.ranges.most.fits)) (omega arith) c.requires (omega (arith, within, six)) (rw six at digits))
