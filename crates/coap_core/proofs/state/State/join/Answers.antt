use Rattle.std.proofs.Common.{◌∙◌, refl, rules, sym}
use Rattle.coap_pending.specs.Waiters.{joined}
use Rattle.coap_core.proofs.Undoing.{err-holds, on-err, waiter-undone}
use Rattle.coap_core.proofs.state.State.join.Goals as goal

pub accept_request-done-requires-clause-new : goal.accept_request-done-requires-clause-new
accept_request-done-requires-clause-new g c =
    let new = rw (← c.self.view_is) at c.requires.can.reply.new in
    record { unknown = new.unknown; until = new.until; room = new.room }

pub accept_request-done-requires-clause-events : goal.accept_request-done-requires-clause-events
accept_request-done-requires-clause-events g c =
    let can = rw (← c.self.view_is) at c.requires.can.reply.ready.can in
    can.events

pub returns-then-is_err : goal.returns-then-is_err
returns-then-is_err g c =
    let failed = sym c.is_err.ensures.value ∙ c.if-is_err.true in
    let same = c.self-2.view_is ∙ err-holds c.accept_request-done.result failed c.accept_request-done.ensures.err in
    let came = rw c.in_ok-waiter.ensures.ok at same in
    let undone = waiter-undone _ _ c.self-2.inside.under_way.waiters c.self.inside.under_way.waiters (joined c.joining_of-joining.result) c.in_ok-waiter.ensures.sound refl refl came refl refl in
    record {
      exact = search rules;
      err = on-err c.accept_request-done.result (rw c.withdraw_waiter.ensures.exact (undone ∙ c.self.view_is));
      kept = search rules;
    }
