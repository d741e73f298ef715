use Rattle.std.proofs.Common.{◌+◌, refl, ap, subst, Some, sym}
use Rattle.std.proofs.lemmas.Result.{IfOk-from_err}
use Rattle.coap_pending.specs.declared.waiter.Waiter.{Waiter}
use Rattle.coap_exchange.specs.Ready.{Tables}
use Rattle.coap_pending.specs.Table.{Table, IsTable}
use Rattle.coap_pending.specs.Waiters.{joined}
use Rattle.endpoint_counts.proofs.Indexing.{none-above, push-at, push-others}
use Rattle.coap_exchange.proofs.Readying.{waiter-elsewhere, waits-gone, ready-free, ready-moved, ready-room, there-as}
use Rattle.coap_exchange.proofs.under_way.UnderWay.join.Goals as goal

pub replace-requires-clause-there : goal.replace-requires-clause-there
replace-requires-clause-there c =
    let old : Tables = record { exchanges = c.self.inside.exchanges; waiters = c.self.inside.waiters } in
    let new : Tables = record { exchanges = c.self.inside.exchanges; waiters = c.admit_in_room.new.self } in
    let come : Waiter = joined c.args.joining in
    let is = c.in_ok-number.ensures.ok in
    let stays = waiter-elsewhere (c.self.inside.waiters.admitted + 1) old c.admit_in_room.new.self (Some c.args.joining.exchange) c.ready_since-was.ensures.sound c.ready_since-is.ensures.sound (λ q e. rw is (push-others (c.self.inside.waiters.admitted + 1) q c.self.inside.waiters.items come e)) (waits-gone (Some c.args.joining.exchange) _ (none-above c.self.inside.waiters.admitted c.self.inside.waiters.items c.ready_since-was.ensures.sound.below)) (rw (is, push-at (c.self.inside.waiters.admitted + 1) c.self.inside.waiters.items come (none-above c.self.inside.waiters.admitted c.self.inside.waiters.items c.ready_since-was.ensures.sound.below)) refl) in
    there-as old new c.ready_since-was.ensures.sound c.ready_since-is.ensures.sound (Some c.args.joining.exchange) stays c.self.inside.ready c.self.invariant _ (sym (c.ready_since-was.ensures.exact old refl c.got_in-got.ensures.exact))

pub replace-requires-clause-free : goal.replace-requires-clause-free
replace-requires-clause-free c =
    let old : Tables = record { exchanges = c.self.inside.exchanges; waiters = c.self.inside.waiters } in
    let new : Tables = record { exchanges = c.self.inside.exchanges; waiters = c.admit_in_room.new.self } in
    let come : Waiter = joined c.args.joining in
    let is = c.in_ok-number.ensures.ok in
    let stays = waiter-elsewhere (c.self.inside.waiters.admitted + 1) old c.admit_in_room.new.self (Some c.args.joining.exchange) c.ready_since-was.ensures.sound c.ready_since-is.ensures.sound (λ q e. rw is (push-others (c.self.inside.waiters.admitted + 1) q c.self.inside.waiters.items come e)) (waits-gone (Some c.args.joining.exchange) _ (none-above c.self.inside.waiters.admitted c.self.inside.waiters.items c.ready_since-was.ensures.sound.below)) (rw (is, push-at (c.self.inside.waiters.admitted + 1) c.self.inside.waiters.items come (none-above c.self.inside.waiters.admitted c.self.inside.waiters.items c.ready_since-was.ensures.sound.below)) refl) in
    rw (c.ready_since-was.ensures.exact old refl c.got_in-got.ensures.exact, c.ready_since-is.ensures.exact new refl c.got_in-got.ensures.exact) (ready-free old new c.ready_since-was.ensures.sound c.ready_since-is.ensures.sound (Some c.args.joining.exchange) stays c.self.inside.ready c.self.invariant)

pub replace-requires-clause-room : goal.replace-requires-clause-room
replace-requires-clause-room c =
    let old : Tables = record { exchanges = c.self.inside.exchanges; waiters = c.self.inside.waiters } in
    let new : Tables = record { exchanges = c.self.inside.exchanges; waiters = c.admit_in_room.new.self } in
    let come : Waiter = joined c.args.joining in
    let is = c.in_ok-number.ensures.ok in
    let stays = waiter-elsewhere (c.self.inside.waiters.admitted + 1) old c.admit_in_room.new.self (Some c.args.joining.exchange) c.ready_since-was.ensures.sound c.ready_since-is.ensures.sound (λ q e. rw is (push-others (c.self.inside.waiters.admitted + 1) q c.self.inside.waiters.items come e)) (waits-gone (Some c.args.joining.exchange) _ (none-above c.self.inside.waiters.admitted c.self.inside.waiters.items c.ready_since-was.ensures.sound.below)) (rw (is, push-at (c.self.inside.waiters.admitted + 1) c.self.inside.waiters.items come (none-above c.self.inside.waiters.admitted c.self.inside.waiters.items c.ready_since-was.ensures.sound.below)) refl) in
    rw (c.ready_since-was.ensures.exact old refl c.got_in-got.ensures.exact, c.ready_since-is.ensures.exact new refl c.got_in-got.ensures.exact) (ready-room old new c.ready_since-was.ensures.sound c.ready_since-is.ensures.sound (Some c.args.joining.exchange) stays c.self.inside.ready c.self.invariant c.laws.ensures (ap (λ (t : Table Waiter). t.limit) is))

pub invariant_of-self-2 : goal.invariant_of-self-2
invariant_of-self-2 c =
    let old : Tables = record { exchanges = c.self.inside.exchanges; waiters = c.self.inside.waiters } in
    let new : Tables = record { exchanges = c.self.inside.exchanges; waiters = c.admit_in_room.new.self } in
    let come : Waiter = joined c.args.joining in
    let is = c.in_ok-number.ensures.ok in
    let stays = waiter-elsewhere (c.self.inside.waiters.admitted + 1) old c.admit_in_room.new.self (Some c.args.joining.exchange) c.ready_since-was.ensures.sound c.ready_since-is.ensures.sound (λ q e. rw is (push-others (c.self.inside.waiters.admitted + 1) q c.self.inside.waiters.items come e)) (waits-gone (Some c.args.joining.exchange) _ (none-above c.self.inside.waiters.admitted c.self.inside.waiters.items c.ready_since-was.ensures.sound.below)) (rw (is, push-at (c.self.inside.waiters.admitted + 1) c.self.inside.waiters.items come (none-above c.self.inside.waiters.admitted c.self.inside.waiters.items c.ready_since-was.ensures.sound.below)) refl) in
    let replaced = rw (c.ready_since-was.ensures.exact old refl c.got_in-got.ensures.exact, c.ready_since-is.ensures.exact new refl c.got_in-got.ensures.exact) at c.replace.ensures.replaced in
    ready-moved old new c.ready_since-was.ensures.sound c.ready_since-is.ensures.sound (Some c.args.joining.exchange) stays c.self.inside.ready c.self.invariant c.replace.new.self replaced c.replace.ensures.limit (ap (λ (t : Table Waiter). t.limit) is)

pub returns-in_err-number-clause-number : goal.returns-in_err-number-clause-number
returns-in_err-number-clause-number c = IfOk-from_err _ _ c.from_residual.ensures.0

pub returns-in_err-number-clause-sound : goal.returns-in_err-number-clause-sound
returns-in_err-number-clause-sound c = subst (λ (t : Tables). IsTable t.waiters) c.self.view_is c.admit_in_room.ensures.sound

pub returns-clause-err : goal.returns-clause-err
returns-clause-err c = tt

pub returns-clause-sound : goal.returns-clause-sound
returns-clause-sound c = subst (λ (t : Tables). IsTable t.waiters) c.self.view_is c.admit_in_room.ensures.sound
