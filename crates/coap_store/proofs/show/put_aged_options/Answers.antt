use Rattle.std.proofs.Common.{[], ◌∷◌, Ok, Err, arith}
use Rattle.std.proofs.lemmas.Result.{err_from_is_err_and}
use Rattle.coap_message.specs.Datagram.{Appends}
use Rattle.coap_message.specs.Options.{last_number}
use Rattle.coap_message.specs.Spelling.{options_spelling}
use Rattle.coap_store.specs.declared.show.MaxAgeSide.TheVariants.{Before}
use Rattle.coap_store.specs.Renewing.{max_age_option}
use Rattle.coap_store.specs.Writing.{side_of}
use Rattle.coap_store.proofs.AroundMaxAge.{full-before, full-between, last-before, written-after}
use Rattle.coap_store.proofs.show.put_aged_options.Goals as goal

pub returns-in_err-before : goal.returns-in_err-before
returns-in_err-before c =
    let p = err_from_is_err_and c.from_residual.result c.from_residual.ensures.1 in
    let new = c.put_side.new.out in
    rw p.1 (full-before c.args.left c.args.options.now c.args.out.now new new new c.args.room c.in_err-before.field-0.0 p.0 c.in_err-before.ensures.written)

pub put_max_age-requires-clause-above : goal.put_max_age-requires-clause-above
put_max_age-requires-clause-above c = rw c.in_ok-before.ensures.last (last-before 0 c.args.options.now (omega arith))

pub returns-in_err-put_max_age : goal.returns-in_err-put_max_age
returns-in_err-put_max_age c =
    let p = err_from_is_err_and c.from_residual-in_err-put_max_age.result c.from_residual-in_err-put_max_age.ensures.1 in
    let new = c.put_max_age.new.out in
    rw p.1 (full-between c.args.left c.args.options.now c.args.out.now c.put_side.new.out new new c.args.room c.in_ok-before.ensures.written c.in_err-put_max_age.field-0.0 p.0 (rw c.in_ok-before.ensures.last at c.in_err-put_max_age.ensures))

pub returns-in_err-put_side : goal.returns-in_err-put_side
returns-in_err-put_side c =
    let p = err_from_is_err_and c.from_residual-in_err-put_side.result c.from_residual-in_err-put_side.ensures.1 in
    let max_age : Appends c.put_side.new.out c.put_max_age.new.out c.args.room (options_spelling (last_number 0 (side_of Before c.args.options.now)) (max_age_option c.args.left ∷ [])) (Ok tt) = rw c.in_ok-before.ensures.last at c.in_ok-put_max_age.ensures in
    rw p.1 (written-after c.args.left c.args.options.now c.args.out.now c.put_side.new.out c.put_max_age.new.out c.put_side-2.new.out c.args.room c.in_ok-before.ensures.written (Err p.0) max_age c.in_err-put_side.ensures.written)

pub returns : goal.returns
returns c =
    let max_age : Appends c.put_side.new.out c.put_max_age.new.out c.args.room (options_spelling (last_number 0 (side_of Before c.args.options.now)) (max_age_option c.args.left ∷ [])) (Ok tt) = rw c.in_ok-before.ensures.last at c.in_ok-put_max_age.ensures in
    written-after c.args.left c.args.options.now c.args.out.now c.put_side.new.out c.put_max_age.new.out c.put_side-2.new.out c.args.room c.in_ok-before.ensures.written (Ok tt) max_age c.in_ok-put_side.ensures.written
