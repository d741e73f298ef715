use Rattle.std.proofs.Common.{refl, sym}
use Rattle.coap_pending.specs.Table.{item_at}
use Rattle.endpoint_counts.proofs.Indexing.{withdrawn-gone}
use Rattle.coap_pending.proofs.Tables.{withdrawn-limit, withdrawn-others}
use Rattle.coap_exchange.specs.Ready.{Tables}
use Rattle.coap_exchange.proofs.Readying.{waits-gone, waiter-elsewhere, waits-its, ready-free, ready-moved, ready-room, there-as}
use Rattle.coap_exchange.proofs.under_way.UnderWay.withdraw_waiter.Goals as goal

pub replace-requires-clause-there : goal.replace-requires-clause-there
replace-requires-clause-there c =
    let old : Tables = record { exchanges = c.self.inside.exchanges; waiters = c.self.inside.waiters } in
    let new : Tables = record { exchanges = c.self.inside.exchanges; waiters = c.withdraw.new.self } in
    let stays = waiter-elsewhere c.self.inside.waiters.admitted old c.withdraw.new.self c.awaited-exchange.result c.ready_since-was.ensures.sound c.ready_since-is.ensures.sound (λ q e. rw c.withdraw.ensures.exact (withdrawn-others c.self.inside.waiters q e)) (rw (c.awaited-exchange.ensures.exact, c.admitted.ensures.exact) (waits-its (item_at c.self.inside.waiters.admitted c.self.inside.waiters.items))) (rw c.withdraw.ensures.exact (waits-gone c.awaited-exchange.result _ (withdrawn-gone c.self.inside.waiters))) in
    there-as old new c.ready_since-was.ensures.sound c.ready_since-is.ensures.sound c.awaited-exchange.result stays c.self.inside.ready c.self.invariant _ (sym (c.ready_since-was.ensures.exact old refl c.got_in-got.ensures.exact))

pub replace-requires-clause-free : goal.replace-requires-clause-free
replace-requires-clause-free c =
    let old : Tables = record { exchanges = c.self.inside.exchanges; waiters = c.self.inside.waiters } in
    let new : Tables = record { exchanges = c.self.inside.exchanges; waiters = c.withdraw.new.self } in
    let stays = waiter-elsewhere c.self.inside.waiters.admitted old c.withdraw.new.self c.awaited-exchange.result c.ready_since-was.ensures.sound c.ready_since-is.ensures.sound (λ q e. rw c.withdraw.ensures.exact (withdrawn-others c.self.inside.waiters q e)) (rw (c.awaited-exchange.ensures.exact, c.admitted.ensures.exact) (waits-its (item_at c.self.inside.waiters.admitted c.self.inside.waiters.items))) (rw c.withdraw.ensures.exact (waits-gone c.awaited-exchange.result _ (withdrawn-gone c.self.inside.waiters))) in
    rw (c.ready_since-was.ensures.exact old refl c.got_in-got.ensures.exact, c.ready_since-is.ensures.exact new refl c.got_in-got.ensures.exact) (ready-free old new c.ready_since-was.ensures.sound c.ready_since-is.ensures.sound c.awaited-exchange.result stays c.self.inside.ready c.self.invariant)

pub replace-requires-clause-room : goal.replace-requires-clause-room
replace-requires-clause-room c =
    let old : Tables = record { exchanges = c.self.inside.exchanges; waiters = c.self.inside.waiters } in
    let new : Tables = record { exchanges = c.self.inside.exchanges; waiters = c.withdraw.new.self } in
    let stays = waiter-elsewhere c.self.inside.waiters.admitted old c.withdraw.new.self c.awaited-exchange.result c.ready_since-was.ensures.sound c.ready_since-is.ensures.sound (λ q e. rw c.withdraw.ensures.exact (withdrawn-others c.self.inside.waiters q e)) (rw (c.awaited-exchange.ensures.exact, c.admitted.ensures.exact) (waits-its (item_at c.self.inside.waiters.admitted c.self.inside.waiters.items))) (rw c.withdraw.ensures.exact (waits-gone c.awaited-exchange.result _ (withdrawn-gone c.self.inside.waiters))) in
    rw (c.ready_since-was.ensures.exact old refl c.got_in-got.ensures.exact, c.ready_since-is.ensures.exact new refl c.got_in-got.ensures.exact) (ready-room old new c.ready_since-was.ensures.sound c.ready_since-is.ensures.sound c.awaited-exchange.result stays c.self.inside.ready c.self.invariant c.laws.ensures (rw c.withdraw.ensures.exact (withdrawn-limit c.self.inside.waiters)))

pub invariant_of-self : goal.invariant_of-self
invariant_of-self c =
    let old : Tables = record { exchanges = c.self.inside.exchanges; waiters = c.self.inside.waiters } in
    let new : Tables = record { exchanges = c.self.inside.exchanges; waiters = c.withdraw.new.self } in
    let stays = waiter-elsewhere c.self.inside.waiters.admitted old c.withdraw.new.self c.awaited-exchange.result c.ready_since-was.ensures.sound c.ready_since-is.ensures.sound (λ q e. rw c.withdraw.ensures.exact (withdrawn-others c.self.inside.waiters q e)) (rw (c.awaited-exchange.ensures.exact, c.admitted.ensures.exact) (waits-its (item_at c.self.inside.waiters.admitted c.self.inside.waiters.items))) (rw c.withdraw.ensures.exact (waits-gone c.awaited-exchange.result _ (withdrawn-gone c.self.inside.waiters))) in
    let replaced = rw (c.ready_since-was.ensures.exact old refl c.got_in-got.ensures.exact, c.ready_since-is.ensures.exact new refl c.got_in-got.ensures.exact) at c.replace.ensures.replaced in
    ready-moved old new c.ready_since-was.ensures.sound c.ready_since-is.ensures.sound c.awaited-exchange.result stays c.self.inside.ready c.self.invariant c.replace.new.self replaced c.replace.ensures.limit (rw c.withdraw.ensures.exact (withdrawn-limit c.self.inside.waiters))
