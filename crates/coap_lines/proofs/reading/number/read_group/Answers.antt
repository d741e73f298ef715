use Rattle.std.proofs.Common.{sym, ◌∙◌}
use Rattle.coap_lines.proofs.Groups.{others-none, digits-utf8, group-some, group-none}
use Rattle.coap_lines.proofs.reading.number.read_group.Goals as goal

pub returns-then-not-are_few_digits : goal.returns-then-not-are_few_digits
returns-then-not-are_few_digits c = sym (others-none c.args.text.now (sym c.are_few_digits.ensures ∙ c.if-not-are_few_digits.true))

pub returns-in_default : goal.returns-in_default
returns-in_default c = sym (digits-utf8 c.args.text.now (sym c.are_few_digits.ensures ∙ c.if-not-are_few_digits.false) c.in_default.ensures.cases.0)

pub returns-in-Ok-from_str_radix : goal.returns-in-Ok-from_str_radix
returns-in-Ok-from_str_radix c = sym (group-some c.args.text.now c.in-Ok-from_str_radix.number (sym c.are_few_digits.ensures ∙ c.if-not-are_few_digits.false) (rw (c.in-Ok.ensures.cases.0) at c.in-Ok-from_str_radix.ensures.value))

pub returns-in-Err : goal.returns-in-Err
returns-in-Err c = sym (group-none c.args.text.now (sym c.are_few_digits.ensures ∙ c.if-not-are_few_digits.false) (rw (c.in-Ok.ensures.cases.0) at c.in-Err.ensures.value))
