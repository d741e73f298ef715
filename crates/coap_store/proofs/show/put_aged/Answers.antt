use Rattle.std.proofs.Common.{[], ◌++◌, Err}
use Rattle.std.proofs.lemmas.Result.{err_from_is_err_and}
use Rattle.coap_message.specs.Datagram.{holding}
use Rattle.coap_message.specs.Spelling.{head_spelling, options_spelling, payload_spelling, spelling}
use Rattle.coap_message.proofs.Appending.{Appends-full, Appends-behind}
use Rattle.coap_store.specs.Renewing.{with_max_age}
use Rattle.coap_store.proofs.show.put_aged.Goals as goal

pub returns-in_err-put_aged_options : goal.returns-in_err-put_aged_options
unfolding spelling
returns-in_err-put_aged_options c =
    let p = err_from_is_err_and c.from_residual-in_err-put_aged_options.result c.from_residual-in_err-put_aged_options.ensures.1 in
    let options = options_spelling 0 (with_max_age c.args.left c.message.inside.options) in
    let payload = payload_spelling c.message.inside.payload in
    rw (p.1, ← c.message.view_is) (Appends-behind (holding c.args.out.now []) c.put_head.new.out c.put_aged_options.new.out c.args.room (head_spelling (record { kind = c.args.envelope.kind; code = c.message.inside.code; id = c.args.envelope.id }) c.args.envelope.token.now) (options ++ payload) tt (Err p.0) (rw c.head.ensures at c.in_ok-put_head.ensures.written)
    (Appends-full c.put_head.new.out c.put_aged_options.new.out c.args.room options payload c.in_err-put_aged_options.field-0.0 p.0 (rw c.lent.ensures at c.in_err-put_aged_options.ensures)))
