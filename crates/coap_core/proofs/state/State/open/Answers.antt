use Rattle.std.proofs.Common.{◌≡◌, ◌∙◌, Result, Ok, Err, refl, rules, sym}
use Rattle.std.specs.Prelude.{OnErr}
use Rattle.std.proofs.lemmas.Result.{IfOk-from_err}
use Rattle.coap_model.specs.State.{State}
use Rattle.coap_pending.specs.Waiters.{joined}
use Rattle.coap_core.proofs.Undoing.{err-holds, exchange-undone, on-err, waiter-undone}
use Rattle.coap_core.proofs.state.State.open.Goals as goal

pub accept_request-done-requires-clause-new : goal.accept_request-done-requires-clause-new
accept_request-done-requires-clause-new g c =
    let new = rw (← c.self.view_is) at c.requires.can.reply.new in
    record { unknown = new.unknown; until = new.until; room = new.room }

-- a state is itself, whatever came of a call
unchanged : {T E : Type 0} (r : Result T E) (w : State) → OnErr r (w ≡ w)
unchanged (Ok x) w = tt
unchanged (Err e) w = refl

pub returns-in_err-form : goal.returns-in_err-form
returns-in_err-form g c = record { exact = IfOk-from_err _ _ c.from_residual.ensures.0; err = unchanged c.from_residual.result c.args.self.now; kept = refl }

pub accept_request-done-requires-clause-events : goal.accept_request-done-requires-clause-events
accept_request-done-requires-clause-events g c =
    let can = rw (← c.self.view_is) at c.requires.can.reply.ready.can in
    can.events

pub open-requires-clause-now : goal.open-requires-clause-now
open-requires-clause-now g c = c.requires.can.reply.ready.moment

pub returns-then-is_err : goal.returns-then-is_err
returns-then-is_err g c =
    let failed = sym c.is_err.ensures.value ∙ c.if-is_err.true in
    let same = c.self-2.view_is ∙ err-holds c.accept_request-done.result failed c.accept_request-done.ensures.err in
    let came = rw (c.in-Ok.ensures.ok, c.in_ok-number.ensures.ok) at same in
    let sound = rw c.in_ok-number.ensures.ok at c.in-Ok.ensures.sound in
    let before = c.self.inside.under_way in
    let now = c.self-2.inside.under_way in
    let first = waiter-undone _ _ now.waiters before.waiters (joined c.joining_of-joining.result) sound refl refl came refl refl in
    let second = exchange-undone _ _ now.exchanges before.exchanges _ c.in_ok-number.ensures.sound refl refl first refl refl in
    record {
      exact = search rules;
      err = on-err c.accept_request-done.result (rw (c.withdraw_exchange-then-is_err.ensures.exact, c.withdraw_waiter.ensures.exact) (second ∙ c.self.view_is));
      kept = search rules;
    }
