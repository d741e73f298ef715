use Rattle.std.proofs.Common.{[], ◌∷◌, ◌++◌, Err}
use Rattle.std.proofs.lemmas.Result.{err_from_is_err_and}
use Rattle.coap_message.specs.Datagram.{holding}
use Rattle.coap_message.specs.Spelling.{head_spelling, options_spelling, payload_spelling, spelling}
use Rattle.coap_message.proofs.Appending.{Appends-full, Appends-behind}
use Rattle.coap_store.specs.Renewing.{max_age_option}
use Rattle.coap_forward.proofs.writing.try_with_max_age.Goals as goal

pub returns-in_err-put_max_age : goal.returns-in_err-put_max_age
unfolding spelling
returns-in_err-put_max_age c =
    let p = err_from_is_err_and c.from_residual-in_err-put_max_age.result c.from_residual-in_err-put_max_age.ensures.1 in
    let options = options_spelling 0 (max_age_option c.args.seconds ∷ []) in
    let payload = payload_spelling c.args.payload.now in
    rw p.1 (Appends-behind (holding c.args.out.now []) c.put_head.new.out c.put_max_age.new.out c.args.out.now.room (head_spelling c.args.head c.args.token.now) (options ++ payload) tt (Err p.0) (rw c.room-room.ensures at c.in_ok-put_head.ensures.written)
    (Appends-full c.put_head.new.out c.put_max_age.new.out c.args.out.now.room options payload c.in_err-put_max_age.field-0.0 p.0 (rw c.room-room.ensures at c.in_err-put_max_age.ensures)))
