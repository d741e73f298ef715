use Rattle.std.proofs.Common.{◌≡◌, true, List, [], ◌++◌, sym, ap, ◌∙◌}
use Rattle.std.proofs.lemmas.Bool.{eq-eqb}
use Rattle.std.proofs.lemmas.List.{append-nil}
use Rattle.std.proofs.lemmas.Result.{err_from_is_err_and}
use Rattle.coap_message.specs.declared.options.Opt.{Opt}
use Rattle.coap_message.specs.OptRef.{seen}
use Rattle.coap_option.specs.declared.side.Side.TheVariants.{Response}
use Rattle.coap_forward.proofs.Values.{counts, values_in, values-placed, counted, holds-one}
use Rattle.coap_forward.proofs.changes.values_at.Goals as goal

pub returns-in_err-push-clause-err : goal.returns-in_err-push-clause-err
returns-in_err-push-clause-err c =
    let p = err_from_is_err_and c.from_residual.result c.from_residual.ensures.1 in
    let x = seen c.in-Some.option in
    let number : x.number ≡ c.args.number = c.if-option-number.true in
    let is : counts Response c.args.number x ≡ true = rw (eq-eqb x.number c.args.number number) (sym c.recognised.ensures ∙ c.if-recognised.true) in
    let rest = values_in Response c.args.number c.next.new.self in
    rw p.1 (λ none. holds-one c.loop-option.values rest x.value
    (sym (values-placed Response c.args.number c.requires.anywhere [] c.args.response.now.options ∙ c.loop-option.invariant
    ∙ ap (λ l. c.loop-option.values ++ l) (counted Response c.args.number _ _ x c.in-Some.ensures.steps is)) ∙ none))

pub returns-clause-ok : goal.returns-clause-ok
returns-clause-ok c =
    c.shrink_to_fit.ensures
    ∙ sym (values-placed Response c.args.number c.requires.anywhere [] c.args.response.now.options ∙ c.loop-option.invariant
    ∙ ap (λ (os : List Opt). c.loop-option.values ++ values_in Response c.args.number os) c.in-None.ensures.steps.0 ∙ append-nil c.loop-option.values)
