use Rattle.std.proofs.Common.{◌≡◌, ◌≢◌, [], ◌++◌, List, OnErr, OnOk, sym, ap, subst, ◌∙◌}
use Rattle.coap_message.specs.declared.options.Opt.{Opt}
use Rattle.coap_message.specs.Options.{AreOptions, from_number}
use Rattle.coap_option.specs.Selection.{key_of}
use Rattle.coap_option.proofs.Tails.{is-tail}
use Rattle.coap_option.proofs.survey.Survey.push_key.Goals as goal

-- the options from the number on are those of the key
are-key : (c : goal.After-append_from) → key_of c.args.request.now ≡ from_number c.in-Some.number c.option_list.result
are-key c =
    let m = c.args.request.now in
    let are : AreOptions 0 m.options = subst (AreOptions 0) c.option_list.ensures c.append_from.ensures.options in
    (is-tail m c.args.self c.in-Some.number c.requires.known are (sym c.in-Some.ensures)).key ∙ ap (from_number c.in-Some.number) (sym c.option_list.ensures)

pub returns-in-Some-clause-ok : goal.returns-in-Some-clause-ok
returns-in-Some-clause-ok c =
    let alone = ap (λ (l : List Opt). l ++ from_number c.in-Some.number c.option_list.result) c.requires.empty in
    subst (λ (l : List Opt). OnOk c.append_from.result (c.append_from.new.self ≡ l)) (alone ∙ sym (are-key c)) c.append_from.ensures.ok

pub returns-in-Some-clause-err : goal.returns-in-Some-clause-err
returns-in-Some-clause-err c = subst (λ (l : List Opt). OnErr c.append_from.result (l ≢ [])) (sym (are-key c)) c.append_from.ensures.some
