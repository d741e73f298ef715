use Rattle.std.proofs.Common.{◌≡◌, ℕ, List, ◌++◌, Err, ap, ◌∙◌, rules}
use Rattle.std.specs.Prelude.{option_map, unwrap_or}
use Rattle.std.proofs.lemmas.Result.{err_from_is_err_and}
use Rattle.coap_message.specs.declared.options.Opt.{Opt}
use Rattle.coap_message.specs.Datagram.{unit_of}
use Rattle.coap_message.specs.Uint.{uint_spelling}
use Rattle.coap_forward.specs.Gaps.{given, part_of, port_value, tag_options, values_left}
use Rattle.coap_forward.specs.declared.form.Gap.TheVariants.{BeforeHost, BeforePort}
use Rattle.coap_forward.proofs.Gaps.{full-first, held-within, written-both, ok-both, given-short, port-bytes}
use Rattle.coap_forward.proofs.form.put_front.Goals.{After-put_part}
use Rattle.coap_forward.proofs.form.put_front.Goals as goal

-- the parts
abbrev one : After-put_part → List Opt
one c = part_of c.args.form.request.now BeforeHost (given c.args.form.target.now.host)

abbrev two : After-put_part → List Opt
two c = tag_options (option_map (λ v. v.now) c.args.form.tag)

abbrev three : After-put_part → List Opt
three c = part_of c.args.form.request.now BeforePort (given (port_value c.args.form.target.now.port))

pub put_part-requires-clause-within : goal.put_part-requires-clause-within
put_part-requires-clause-within c = rw c.host_of.ensures (given-short c.args.form.target.now.host c.requires.target.host)

pub returns-in_err-last-clause-written : goal.returns-in_err-last-clause-written
returns-in_err-last-clause-written c =
    let k = (goal.at.returns-in_err-last-clause-written c).After-put_part in
    let p = err_from_is_err_and c.from_residual.result c.from_residual.ensures.1 in
    let new = c.put_part.new.out in
    rw p.1 (full-first c.args.out.now new new c.args.room 0 (one k) (two k ++ three k) c.in_err-last.field-0.0 p.0 (rw c.host_of.ensures at c.in_err-last.ensures.written))

pub returns-in_err-last-2-clause-written : goal.returns-in_err-last-2-clause-written
returns-in_err-last-2-clause-written c =
    let k = (goal.at.returns-in_err-last-2-clause-written c).After-put_part in
    let p = err_from_is_err_and c.from_residual-in_err-last-2.result c.from_residual-in_err-last-2.ensures.1 in
    let hosted = c.put_part.new.out in
    let new = c.put_values.new.out in
    rw p.1 (written-both c.args.out.now hosted new c.args.room 0 (one k) (two k ++ three k) c.in_ok-last.last (Err p.0) (rw c.host_of.ensures at c.in_ok-last.ensures.last) (rw c.host_of.ensures at c.in_ok-last.ensures.written)
    (full-first hosted new new c.args.room c.in_ok-last.last (two k) (three k) c.in_err-last-2.field-0.0 p.0 c.in_err-last-2.ensures.written))

-- the values of the port
port : (c : goal.After-put_part-2) → values_left c.port_of.result ≡ given (port_value c.args.form.target.now.port)
unfolding uint_spelling
port c =
    let bytes : c.without_zeros.result.now ≡ uint_spelling (unwrap_or c.args.form.target.now.port 0) = search rules in
    c.port_of.ensures ∙ ap given (ap (λ (b : List ℕ). option_map (λ (n : ℕ). b) c.args.form.target.now.port) bytes ∙ port-bytes c.args.form.target.now.port)

pub returns-clause-written : goal.returns-clause-written
returns-clause-written c =
    let k = (goal.at.returns-clause-written c).After-put_part in
    let hosted = c.put_part.new.out in
    let marked = c.put_values.new.out in
    let new = c.put_part-2.new.out in
    written-both c.args.out.now hosted new c.args.room 0 (one k) (two k ++ three k) c.in_ok-last.last (unit_of c.put_part-2.result) (rw c.host_of.ensures at c.in_ok-last.ensures.last) (rw c.host_of.ensures at c.in_ok-last.ensures.written)
    (written-both hosted marked new c.args.room c.in_ok-last.last (two k) (three k) c.in_ok-last-2.last (unit_of c.put_part-2.result) c.in_ok-last-2.ensures.last c.in_ok-last-2.ensures.written
    (rw (port c) at c.put_part-2.ensures.written))

pub returns-clause-last : goal.returns-clause-last
returns-clause-last c =
    let k = (goal.at.returns-clause-last c).After-put_part in
    ok-both 0 c.in_ok-last.last (one k) (two k ++ three k) c.put_part-2.result (rw c.host_of.ensures at c.in_ok-last.ensures.last)
    (ok-both c.in_ok-last.last c.in_ok-last-2.last (two k) (three k) c.put_part-2.result c.in_ok-last-2.ensures.last (rw (port c) at c.put_part-2.ensures.last))

pub put_values-requires-clause-held : goal.put_values-requires-clause-held
put_values-requires-clause-held c = held-within c.args.out.now c.put_part.new.out c.args.room _ c.in_ok-last.ensures.written

pub put_part-requires-2-clause-held : goal.put_part-requires-2-clause-held
put_part-requires-2-clause-held c = held-within c.put_part.new.out c.put_values.new.out c.args.room _ c.in_ok-last-2.ensures.written
