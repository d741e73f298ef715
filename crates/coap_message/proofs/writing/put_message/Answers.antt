use Rattle.std.proofs.Common.{[], ◌++◌, Err}
use Rattle.std.proofs.lemmas.Result.{err_from_is_err_and}
use Rattle.coap_message.specs.Datagram.{holding}
use Rattle.coap_message.specs.Spelling.{head_spelling, options_spelling, payload_spelling, spelling}
use Rattle.coap_message.proofs.Appending.{Appends-full, Appends-behind}
use Rattle.coap_message.proofs.writing.put_message.Goals as goal

pub returns-in_err-put_options-clause-written : goal.returns-in_err-put_options-clause-written
unfolding spelling
returns-in_err-put_options-clause-written c =
    let p = err_from_is_err_and c.from_residual-in_err-put_options.result c.from_residual-in_err-put_options.ensures.1 in
    let options = options_spelling 0 c.args.content.options in
    let payload = payload_spelling c.args.content.payload.now in
    rw p.1 (Appends-behind (holding c.args.out.now []) c.put_head.new.out c.put_options.new.out c.args.room (head_spelling c.args.head c.args.token.now) (options ++ payload) tt (Err p.0) c.in_ok-put_head.ensures.written
    (Appends-full c.put_head.new.out c.put_options.new.out c.args.room options payload c.in_err-put_options.field-0.0 p.0 c.in_err-put_options.ensures))
