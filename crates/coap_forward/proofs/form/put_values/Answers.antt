use Rattle.std.proofs.Common.{map}
use Rattle.std.proofs.lemmas.Result.{err_from_is_err_and}
use Rattle.coap_message.specs.Spelling.{option_spelling, options_spelling}
use Rattle.coap_message.proofs.Appending.{Appends-part}
use Rattle.coap_message.specs.Options.{option_of}
use Rattle.coap_forward.specs.Gaps.{values_left}
use Rattle.coap_forward.proofs.form.put_values.Goals as goal

pub returns-in_err-put_option-clause-written : goal.returns-in_err-put_option-clause-written
returns-in_err-put_option-clause-written c =
    let i = c.values.invariant in
    let l = c.values in
    let v = c.in-Some.value.now in
    let p = err_from_is_err_and c.from_residual.result c.from_residual.ensures.1 in
    let behind = values_left c.next_value.new.self in
    rw p.1 (Appends-part c.args.out.now l.out c.put_option.new.out c.args.room (option_spelling l.last (option_of c.args.number v)) (options_spelling c.args.number (map (option_of c.args.number) behind))
    (options_spelling c.args.before (map (option_of c.args.number) (values_left c.args.values))) c.in_err-put_option.field-0.0 p.0 i.room i.longer (rw c.in-Some.ensures at i.written) c.in_err-put_option.ensures)
