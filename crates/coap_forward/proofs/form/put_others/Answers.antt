use Rattle.std.proofs.Common.{ℕ, ◌≡◌, ◌≤◌, ◌∙◌, ◌&&◌, List, [], Result, Ok, Err, ap, refl, subst, sym, arith, rules}
use Rattle.std.specs.Prelude.{IfOk}
use Rattle.coap_message.specs.declared.error.Full.{Full}
use Rattle.coap_message.specs.declared.options.Opt.{Opt}
use Rattle.coap_message.specs.Datagram.{Appends, unit_of}
use Rattle.coap_message.specs.Message.{Message}
use Rattle.std.proofs.lemmas.Result.{err_from_is_err_and}
use Rattle.coap_message.specs.OptRef.{seen}
use Rattle.coap_message.specs.Options.{AreOptions, from_number, last_number}
use Rattle.coap_message.specs.Spelling.{option_spelling, options_spelling}
use Rattle.coap_message.proofs.Appending.{Appends-part}
use Rattle.coap_option.specs.Selection.{is_forwarded}
use Rattle.coap_forward.specs.Gaps.{end_of, is_in, meets, others_in}
use Rattle.coap_store.proofs.PickedWriting.{picked, written-all, written-next}
use Rattle.coap_forward.proofs.Gaps.{AreOptions-others, last-others, known-others, no-others, whole-gap}
use Rattle.coap_forward.proofs.form.put_others.Goals as goal

pub loop-option-init : goal.loop-option-init
loop-option-init c =
    let m = c.args.form.request.now in
    let list : c.options-options.result ≡ m.options = c.options-options.ensures.list in
    let in_order : AreOptions 0 m.options = c.options-options.ensures.in_order in
    rw (c.into_iter-option-iterator.ensures.into_iter_gives, list) (record {
      room = refl;
      longer = omega arith;
      within = c.requires.held;
      in_order = AreOptions-others m.code c.args.gap c.args.before m.options c.requires.above in_order;
      written = refl;
      behind = refl;
    })

pub returns-then-not-meets-clause-written : goal.returns-then-not-meets-clause-written
returns-then-not-meets-clause-written c =
    let m = c.args.form.request.now in
    let none : others_in m.code c.args.gap m.options ≡ [] = no-others m.code c.args.gap m.options c.options-options.ensures.in_order (ap (meets c.args.gap) (sym (known-others c.args.form.request.now c.args.form.survey c.requires.known)) ∙ sym c.if-not-meets.ensures) in
    rw none (search rules)

pub returns-then-not-meets-clause-last : goal.returns-then-not-meets-clause-last
returns-then-not-meets-clause-last c =
    let m = c.args.form.request.now in
    let none : others_in m.code c.args.gap m.options ≡ [] = no-others m.code c.args.gap m.options c.options-options.ensures.in_order (ap (meets c.args.gap) (sym (known-others c.args.form.request.now c.args.form.survey c.requires.known)) ∙ sym c.if-not-meets.ensures) in
    rw none refl

-- where the gap takes all in one piece, they are the options from a number on
from-there : (c : goal.After-put_options_from) → others_in c.args.form.request.now.code c.args.gap c.args.form.request.now.options ≡ from_number c.in-Some.number c.option_list.result
from-there c =
    let m = c.args.form.request.now in
    let are : AreOptions 0 m.options = c.options-options.ensures.in_order in
    whole-gap m c.args.form.survey c.args.gap c.in-Some.number c.requires.known are (sym c.in-Some.ensures) ∙ ap (from_number c.in-Some.number) (sym c.option_list.ensures)

pub returns-in-Some-clause-written : goal.returns-in-Some-clause-written
returns-in-Some-clause-written c =
    subst (λ (os : List Opt). Appends c.args.out.now c.put_options_from.new.out c.args.room (options_spelling c.args.before os) (unit_of c.put_options_from.result)) (sym (from-there c)) c.put_options_from.ensures.written

pub returns-in-Some-clause-last : goal.returns-in-Some-clause-last
returns-in-Some-clause-last c =
    subst (λ (os : List Opt). IfOk c.put_options_from.result (λ last. last ≡ last_number c.args.before os)) (sym (from-there c)) c.put_options_from.ensures.last

pub returns-in-Some-clause-below : goal.returns-in-Some-clause-below
returns-in-Some-clause-below c = go c.put_options_from.result (returns-in-Some-clause-last c)
  where
    m : Message
    m = c.args.form.request.now

    go : (r : Result ℕ Full) → IfOk r (λ last. last ≡ last_number c.args.before (others_in m.code c.args.gap m.options)) → IfOk r (λ last. last ≤ end_of c.args.gap)
    go (Ok last) is = let most = last-others m.code c.args.gap c.args.before m.options c.options-options.ensures.in_order c.requires.above in omega (arith, is, most)
    go (Err e) is = tt

pub returns-clause-below : goal.returns-clause-below
returns-clause-below c =
    let m = c.args.form.request.now in
    let last : c.loop-option.last ≡ last_number c.args.before (others_in m.code c.args.gap m.options) = rw c.in-None.ensures.steps.0 at c.loop-option.invariant.behind in
    let in_order : AreOptions 0 m.options = c.options-options.ensures.in_order in
    omega (arith, last, last-others m.code c.args.gap c.args.before m.options in_order c.requires.above)

pub returns-in_err-put_option-clause-written : goal.returns-in_err-put_option-clause-written
returns-in_err-put_option-clause-written c =
    let m = c.args.form.request.now in
    let l = c.loop-option in
    let o = seen c.in-Some-option.option in
    let on = rw c.code.ensures.exact at c.if-is_forwarded.ensures in
    let has = c.if-has.ensures in
    let next = picked (λ o. is_in c.args.gap o.number && is_forwarded m.code o) _ _ _ c.in-Some-option.ensures.steps (sym (λ i. has i && on i)) in
    let p = err_from_is_err_and c.from_residual.result c.from_residual.ensures.1 in
    rw p.1 (Appends-part c.args.out.now l.out c.put_option.new.out c.args.room (option_spelling l.last o) (options_spelling o.number (others_in m.code c.args.gap c.next.new.self))
    (options_spelling c.args.before (others_in m.code c.args.gap m.options)) c.in_err-put_option.field-0.0 p.0 l.invariant.room l.invariant.longer (rw next at l.invariant.written) c.in_err-put_option.ensures)

pub loop-option-preserved-then-is_forwarded : goal.loop-option-preserved-then-is_forwarded
loop-option-preserved-then-is_forwarded c =
    let on = rw c.code.ensures.exact at c.if-is_forwarded.ensures in
    let has = c.if-has.ensures in
    let next = picked (λ o. is_in c.args.gap o.number && is_forwarded c.args.form.request.now.code o) _ _ _ c.in-Some-option.ensures.steps (sym (λ i. has i && on i)) in
    written-next _ _ _ _ _ _ _ _ _ _ next c.loop-option.invariant c.in_ok-put_option.ensures

pub returns-clause-written : goal.returns-clause-written
returns-clause-written c =
    let none = ap (λ os. others_in c.args.form.request.now.code c.args.gap os) c.in-None.ensures.steps.0 in
    written-all _ _ _ _ _ _ _ none c.loop-option.invariant
