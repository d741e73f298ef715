use Rattle.std.proofs.Common.{◌≡◌, ◌%◌, sym, ap, ◌∙◌, refl, arith}
use Rattle.std.proofs.lemmas.Grind.{and_numeral}
use Rattle.coap_message.specs.Reading.{option_at}
use Rattle.coap_message.proofs.OneOption.{option_short}
use Rattle.coap_message.proofs.reading.read_option.Goals as goal

pub returns-then-first-lt-EXTENDED-clause-exact : goal.returns-then-first-lt-EXTENDED-clause-exact
returns-then-first-lt-EXTENDED-clause-exact c =
    let short = option_short c.args.before c.in_ok-first.first.now c.in_ok-first.rest.now 0 c.from.result (omega arith) (omega (arith, c.from.ensures)) (omega arith) (omega (arith, c.from.ensures)) in
    c.cut_option.ensures.exact ∙ sym short ∙ ap (option_at c.args.before) (sym c.in_ok-first.ensures.cases.0)

pub returns-then-len-lt-EXTENDED-clause-exact : goal.returns-then-len-lt-EXTENDED-clause-exact
returns-then-len-lt-EXTENDED-clause-exact c =
    let len : c.from-then-len-lt-EXTENDED-2.result ≡ c.in_ok-first.first.now % 16 = c.from-then-len-lt-EXTENDED-2.ensures ∙ and_numeral c.in_ok-first.first.now 14 refl in
    let short = option_short c.args.before c.in_ok-first.first.now c.in_ok-first.rest.now c.from-then-len-lt-EXTENDED.result c.from-then-len-lt-EXTENDED-2.result c.from-then-len-lt-EXTENDED.ensures len (omega arith) (omega (arith, and_numeral c.in_ok-first.first.now 14 refl, c.if-len-lt-EXTENDED.true, len)) in
    let h = c.cut_option-then-len-lt-EXTENDED.ensures.exact in
    h ∙ sym short ∙ ap (option_at c.args.before) (sym c.in_ok-first.ensures.cases.0)
