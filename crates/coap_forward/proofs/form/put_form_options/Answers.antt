use Rattle.std.proofs.Common.{ℕ, List, ◌++◌, Option, Result, Ok, Err}
use Rattle.std.specs.Prelude.{option_map}
use Rattle.std.proofs.lemmas.Result.{err_from_is_err_and}
use Rattle.coap_message.specs.declared.error.Full.{Full}
use Rattle.coap_message.specs.declared.options.Opt.{Opt}
use Rattle.coap_message.specs.Datagram.{Datagram, Appends}
use Rattle.coap_message.specs.Spelling.{options_spelling}
use Rattle.coap_option.specs.Selection.{sent_on}
use Rattle.coap_forward.specs.Forms.{merged, target_options, tagged}
use Rattle.coap_forward.specs.Gaps.{front_options, back_options}
use Rattle.coap_forward.proofs.Gaps.{full-first, written-both, error-as, tag-given, of-all}
use Rattle.coap_forward.proofs.form.put_form_options.Goals.{After-put_front}
use Rattle.coap_forward.proofs.form.put_form_options.Goals as goal

-- the parts
abbrev tag : After-put_front → Option (List ℕ)
tag c = option_map (λ v. v.now) c.args.form.tag

abbrev front : After-put_front → List Opt
front c = front_options c.args.form.target.now (tag c) c.args.form.request.now

abbrev back : After-put_front → List Opt
back c = back_options c.args.form.target.now c.args.form.request.now

-- what is written of them is written of all options
all : (c : After-put_front) (new : Datagram) (r : Result (Unit {0}) Full) → Appends c.args.out.now new c.args.room (options_spelling 0 (front c ++ back c)) r
    → Appends c.args.out.now new c.args.room (options_spelling 0 (merged (target_options c.args.form.target.now) (tagged (tag c) (sent_on c.args.form.request.now)))) r
all c new r a = of-all c.args.form.target.now (tag c) c.args.form.request.now c.requires.target (tag-given c.args.form.tag c.requires.short) c.put_front.ensures.in_order c.requires.known.screened c.args.out.now new c.args.room r a

pub returns-in_err-last : goal.returns-in_err-last
returns-in_err-last c =
    let k = (goal.at.returns-in_err-last c).After-put_front in
    let p = err_from_is_err_and c.from_residual.result c.from_residual.ensures.1 in
    let new = c.put_front.new.out in
    rw p.1 (all k new (Err p.0) (full-first c.args.out.now new new c.args.room 0 (front k) (back k) c.in_err-last.field-0.0 p.0 c.in_err-last.ensures.written))

pub returns-in_err-put_back : goal.returns-in_err-put_back
returns-in_err-put_back c =
    let k = (goal.at.returns-in_err-put_back c).After-put_front in
    let p = err_from_is_err_and c.from_residual-in_err-put_back.result c.from_residual-in_err-put_back.ensures.1 in
    let mid = c.put_front.new.out in
    let new = c.put_back.new.out in
    rw p.1 (all k new (Err p.0) (written-both c.args.out.now mid new c.args.room 0 (front k) (back k) c.in_ok-last.last (Err p.0) c.in_ok-last.ensures.last c.in_ok-last.ensures.written
    (error-as mid new c.args.room (options_spelling c.in_ok-last.last (back k)) c.in_err-put_back.field-0.0 p.0 c.in_err-put_back.ensures)))

pub returns : goal.returns
returns c =
    let k = (goal.at.returns c).After-put_front in
    let mid = c.put_front.new.out in
    let new = c.put_back.new.out in
    all k new (Ok tt) (written-both c.args.out.now mid new c.args.room 0 (front k) (back k) c.in_ok-last.last (Ok tt) c.in_ok-last.ensures.last c.in_ok-last.ensures.written c.in_ok-put_back.ensures)
