use Rattle.std.proofs.Common.{sym, ◌∙◌, ◌+◌, arith, rules}
use Rattle.std.proofs.lemmas.List.{take_all}
use Rattle.coap_lines.proofs.Numerals.{great-none, next_digit, next_number, other-none, spelled-more, spelled-some, wrong-none}
use Rattle.coap_lines.proofs.reading.number.read_number.Goals as goal

pub returns-then-has_wrong_start-clause-read : goal.returns-then-has_wrong_start-clause-read
returns-then-has_wrong_start-clause-read c = sym (wrong-none c.args.most c.args.text.now c.ranges.most.fits (sym c.has_wrong_start.ensures ∙ c.if-has_wrong_start.true))

pub returns-then-not-is_ascii_digit-clause-read : goal.returns-then-not-is_ascii_digit-clause-read
returns-then-not-is_ascii_digit-clause-read c = sym (other-none c.args.most c.args.text.now c.loop-byte.byte-index c.ranges.most.fits c.loop-byte-test.true (search rules))

pub returns-in_err-checked_mul-clause-read : goal.returns-in_err-checked_mul-clause-read
returns-in_err-checked_mul-clause-read c =
    let text = c.args.text.now in
    let i = c.loop-byte.byte-index in
    let next = next_number text i c.loop-byte.number c.loop-byte-test.true (search rules) c.loop-byte.invariant.1 in
    c.from_residual.ensures ∙ sym (great-none c.args.most text (i + 1) c.ranges.most.fits (omega (arith, next, c.in_err-checked_mul.ensures)))

pub returns-in_err-number-clause-read : goal.returns-in_err-number-clause-read
returns-in_err-number-clause-read c =
    let text = c.args.text.now in
    let i = c.loop-byte.byte-index in
    let next = next_number text i c.loop-byte.number c.loop-byte-test.true (search rules) c.loop-byte.invariant.1 in
    c.from_residual-in_err-number.ensures ∙ sym (great-none c.args.most text (i + 1) c.ranges.most.fits (omega (arith, next, c.in_ok-checked_mul.ensures, c.from.ensures, c.in_err-number.ensures)))

pub loop-byte-preserved : goal.loop-byte-preserved
loop-byte-preserved c =
    let text = c.args.text.now in
    let i = c.loop-byte.byte-index in
    let next = next_number text i c.loop-byte.number c.loop-byte-test.true (search rules) c.loop-byte.invariant.1 in
    (next_digit text i c.loop-byte-test.true (search rules) c.loop-byte.invariant.0, omega (arith, next, c.in_ok-checked_mul.ensures, c.from.ensures, c.in_ok-number.ensures), omega (arith, c.in_ok-number.ensures))

pub returns-then-number-most-clause-read : goal.returns-then-number-most-clause-read
returns-then-number-most-clause-read c =
    let whole = take_all c.loop-byte.byte-index c.args.text.now (omega arith) in
    sym (spelled-some c.args.most c.loop-byte.number c.args.text.now (sym c.has_wrong_start.ensures ∙ c.if-has_wrong_start.false) (rw whole at c.loop-byte.invariant.0) (rw whole at c.loop-byte.invariant.1) c.loop-byte.invariant.2 c.if-number-most.true)

pub returns-else-number-most-clause-read : goal.returns-else-number-most-clause-read
returns-else-number-most-clause-read c =
    let whole = take_all c.loop-byte.byte-index c.args.text.now (omega arith) in
    sym (spelled-more c.args.most c.loop-byte.number c.args.text.now c.ranges.most.fits (rw whole at c.loop-byte.invariant.1) c.if-number-most.false)
