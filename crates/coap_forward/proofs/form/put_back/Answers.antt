use Rattle.std.proofs.Common.{List, ◌++◌, Err}
use Rattle.std.proofs.lemmas.Result.{err_from_is_err_and}
use Rattle.coap_message.specs.declared.options.Opt.{Opt}
use Rattle.coap_message.specs.Datagram.{unit_of}
use Rattle.coap_forward.specs.Gaps.{given, others_in, part_of, scheme_value}
use Rattle.coap_forward.specs.declared.form.Gap.TheVariants.{BeforePath, BeforeQuery, BeforeScheme, Last}
use Rattle.coap_forward.proofs.Gaps.{full-first, held-within, written-both}
use Rattle.coap_forward.proofs.form.put_back.Goals.{After-put_part}
use Rattle.coap_forward.proofs.form.put_back.Goals as goal

-- the parts
abbrev one : After-put_part → List Opt
one c = part_of c.args.form.request.now BeforePath c.args.form.target.now.path

abbrev two : After-put_part → List Opt
two c = part_of c.args.form.request.now BeforeQuery c.args.form.target.now.query

abbrev three : After-put_part → List Opt
three c = part_of c.args.form.request.now BeforeScheme (given (scheme_value c.args.form.target.now.port))

abbrev four : After-put_part → List Opt
four c = others_in c.args.form.request.now.code Last c.args.form.request.now.options

pub returns-in_err-last : goal.returns-in_err-last
returns-in_err-last c =
    let k = (goal.at.returns-in_err-last c).After-put_part in
    let p = err_from_is_err_and c.from_residual.result c.from_residual.ensures.1 in
    let new = c.put_part.new.out in
    rw p.1 (full-first c.args.out.now new new c.args.room c.args.before (one k) (two k ++ (three k ++ four k)) c.in_err-last.field-0.0 p.0 (rw c.iter.ensures.list at c.in_err-last.ensures.written))

pub returns-in_err-last-2 : goal.returns-in_err-last-2
returns-in_err-last-2 c =
    let k = (goal.at.returns-in_err-last-2 c).After-put_part in
    let p = err_from_is_err_and c.from_residual-in_err-last-2.result c.from_residual-in_err-last-2.ensures.1 in
    let pathed = c.put_part.new.out in
    let new = c.put_part-2.new.out in
    rw p.1 (written-both c.args.out.now pathed new c.args.room c.args.before (one k) (two k ++ (three k ++ four k)) c.in_ok-last.last (Err p.0) (rw c.iter.ensures.list at c.in_ok-last.ensures.last) (rw c.iter.ensures.list at c.in_ok-last.ensures.written)
    (full-first pathed new new c.args.room c.in_ok-last.last (two k) (three k ++ four k) c.in_err-last-2.field-0.0 p.0 (rw c.iter-2.ensures.list at c.in_err-last-2.ensures.written)))

pub returns-in_err-last-3 : goal.returns-in_err-last-3
returns-in_err-last-3 c =
    let k = (goal.at.returns-in_err-last-3 c).After-put_part in
    let p = err_from_is_err_and c.from_residual-in_err-last-3.result c.from_residual-in_err-last-3.ensures.1 in
    let pathed = c.put_part.new.out in
    let queried = c.put_part-2.new.out in
    let new = c.put_part-3.new.out in
    rw p.1 (written-both c.args.out.now pathed new c.args.room c.args.before (one k) (two k ++ (three k ++ four k)) c.in_ok-last.last (Err p.0) (rw c.iter.ensures.list at c.in_ok-last.ensures.last) (rw c.iter.ensures.list at c.in_ok-last.ensures.written)
    (written-both pathed queried new c.args.room c.in_ok-last.last (two k) (three k ++ four k) c.in_ok-last-2.last (Err p.0) (rw c.iter-2.ensures.list at c.in_ok-last-2.ensures.last) (rw c.iter-2.ensures.list at c.in_ok-last-2.ensures.written)
    (full-first queried new new c.args.room c.in_ok-last-2.last (three k) (four k) c.in_err-last-3.field-0.0 p.0 (rw c.scheme_of.ensures at c.in_err-last-3.ensures.written))))

pub returns : goal.returns
returns c =
    let k = (goal.at.returns c).After-put_part in
    let pathed = c.put_part.new.out in
    let queried = c.put_part-2.new.out in
    let schemed = c.put_part-3.new.out in
    let new = c.put_others.new.out in
    written-both c.args.out.now pathed new c.args.room c.args.before (one k) (two k ++ (three k ++ four k)) c.in_ok-last.last (unit_of c.put_others.result) (rw c.iter.ensures.list at c.in_ok-last.ensures.last) (rw c.iter.ensures.list at c.in_ok-last.ensures.written)
    (written-both pathed queried new c.args.room c.in_ok-last.last (two k) (three k ++ four k) c.in_ok-last-2.last (unit_of c.put_others.result) (rw c.iter-2.ensures.list at c.in_ok-last-2.ensures.last) (rw c.iter-2.ensures.list at c.in_ok-last-2.ensures.written)
    (written-both queried schemed new c.args.room c.in_ok-last-2.last (three k) (four k) c.in_ok-last-3.last (unit_of c.put_others.result) (rw c.scheme_of.ensures at c.in_ok-last-3.ensures.last) (rw c.scheme_of.ensures at c.in_ok-last-3.ensures.written) c.put_others.ensures.written))

pub put_part-requires-2-clause-held : goal.put_part-requires-2-clause-held
put_part-requires-2-clause-held c = held-within c.args.out.now c.put_part.new.out c.args.room _ c.in_ok-last.ensures.written

pub put_part-requires-3-clause-held : goal.put_part-requires-3-clause-held
put_part-requires-3-clause-held c = held-within c.put_part.new.out c.put_part-2.new.out c.args.room _ c.in_ok-last-2.ensures.written

pub put_others-requires-clause-held : goal.put_others-requires-clause-held
put_others-requires-clause-held c = held-within c.put_part-2.new.out c.put_part-3.new.out c.args.room _ c.in_ok-last-3.ensures.written
