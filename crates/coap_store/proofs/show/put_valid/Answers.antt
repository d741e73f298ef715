use Rattle.std.proofs.Common.{[], ◌∷◌, ◌++◌, Err}
use Rattle.std.proofs.lemmas.Result.{err_from_is_err_and}
use Rattle.coap_message.specs.Datagram.{holding}
use Rattle.coap_message.specs.Options.{option_of}
use Rattle.coap_message.specs.Spelling.{head_spelling, option_spelling, options_spelling, spelling}
use Rattle.coap_message.proofs.Appending.{Appends-full, Appends-behind}
use Rattle.coap_message.specs.declared.code.TheConstants.Code.{VALID}
use Rattle.coap_store.specs.Renewing.{max_age_option}
use Rattle.coap_store.proofs.show.put_valid.Goals as goal

pub returns-in_err-put_option : goal.returns-in_err-put_option
unfolding spelling
returns-in_err-put_option c =
    let p = err_from_is_err_and c.from_residual-in_err-put_option.result c.from_residual-in_err-put_option.ensures.1 in
    let old = c.put_head.new.out in
    let new = c.put_option.new.out in
    let tag = option_spelling 0 (option_of 4 c.args.tag.now) in
    let max_age = options_spelling 4 (max_age_option c.args.left ∷ []) in
    rw p.1 (Appends-behind (holding c.args.out.now []) old new c.args.room (head_spelling (record { kind = c.args.envelope.kind; code = VALID; id = c.args.envelope.id }) c.args.envelope.token.now) ((tag ++ max_age) ++ []) tt (Err p.0) (rw c.head.ensures at c.in_ok-put_head.ensures.written)
    (Appends-full old new c.args.room (tag ++ max_age) [] p.0 p.0
    (Appends-full old new c.args.room tag max_age c.in_err-put_option.field-0.0 p.0 c.in_err-put_option.ensures)))
