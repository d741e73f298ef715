use Rattle.std.proofs.Common.{[], ◌++◌, Err}
use Rattle.std.specs.Prelude.{option_map}
use Rattle.std.proofs.lemmas.Result.{err_from_is_err_and}
use Rattle.coap_message.specs.declared.kind.Kind.TheVariants.{Con}
use Rattle.coap_message.specs.Datagram.{holding}
use Rattle.coap_message.specs.Spelling.{head_spelling, options_spelling, payload_spelling, spelling}
use Rattle.coap_message.proofs.Appending.{Appends-full, Appends-behind}
use Rattle.coap_option.specs.Selection.{sent_on}
use Rattle.coap_forward.specs.Forms.{merged, target_options, tagged, payload_sent}
use Rattle.coap_forward.proofs.form.put_forwarded.Goals as goal

pub returns-in_err-put_form_options : goal.returns-in_err-put_form_options
unfolding spelling
returns-in_err-put_form_options c =
    let p = err_from_is_err_and c.from_residual-in_err-put_form_options.result c.from_residual-in_err-put_form_options.ensures.1 in
    let options = options_spelling 0 (merged (target_options c.args.form.target.now) (tagged (option_map (λ tag. tag.now) c.args.form.tag) (sent_on c.args.form.request.now))) in
    let payload = payload_spelling (payload_sent c.args.form.request.now) in
    let head = head_spelling (record { kind = Con; code = c.args.form.request.now.code; id = 0 }) c.args.token.now in
    rw p.1 (Appends-behind (holding c.args.out.now []) c.put_head.new.out c.put_form_options.new.out c.args.room head (options ++ payload) tt (Err p.0) (rw c.code.ensures.exact at c.in_ok-put_head.ensures.written)
    (Appends-full c.put_head.new.out c.put_form_options.new.out c.args.room options payload c.in_err-put_form_options.field-0.0 p.0 c.in_err-put_form_options.ensures))
