use Rattle.std.proofs.Common.{List, map}
use Rattle.std.proofs.lemmas.Result.{err_from_is_err_and}
use Rattle.coap_message.specs.declared.options.Opt.{Opt}
use Rattle.coap_message.specs.Datagram.{unit_of}
use Rattle.coap_message.specs.Options.{option_of}
use Rattle.coap_forward.specs.Gaps.{end_of, others_in, values_left}
use Rattle.coap_forward.proofs.Gaps.{full-first, written-both, ok-both}
use Rattle.coap_forward.proofs.form.put_part.Goals as goal

pub returns-in_err-last-clause-written : goal.returns-in_err-last-clause-written
returns-in_err-last-clause-written c =
    let p = err_from_is_err_and c.from_residual.result c.from_residual.ensures.1 in
    let new = c.put_others.new.out in
    let values : List Opt = map (option_of (end_of c.args.part.gap)) (values_left c.args.part.values) in
    rw p.1 (full-first c.args.out.now new new c.args.room c.args.before (others_in c.args.form.request.now.code c.args.part.gap c.args.form.request.now.options) values c.in_err-last.field-0.0 p.0 c.in_err-last.ensures.written)

pub returns-clause-written : goal.returns-clause-written
returns-clause-written c =
    let values : List Opt = map (option_of (end_of c.args.part.gap)) (values_left c.args.part.values) in
    written-both c.args.out.now c.put_others.new.out c.put_values.new.out c.args.room c.args.before (others_in c.args.form.request.now.code c.args.part.gap c.args.form.request.now.options) values c.in_ok-last.last (unit_of c.put_values.result) c.in_ok-last.ensures.last c.in_ok-last.ensures.written
    (rw (← c.end.ensures) c.put_values.ensures.written)

pub returns-clause-last : goal.returns-clause-last
returns-clause-last c =
    let values : List Opt = map (option_of (end_of c.args.part.gap)) (values_left c.args.part.values) in
    ok-both c.args.before c.in_ok-last.last (others_in c.args.form.request.now.code c.args.part.gap c.args.form.request.now.options) values c.put_values.result c.in_ok-last.ensures.last (rw (← c.end.ensures) c.put_values.ensures.last)
