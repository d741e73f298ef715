use Rattle.std.proofs.Common.{refl, ap, sym}
use Rattle.coap_pending.specs.declared.waiter.Waiter.{Waiter}
use Rattle.coap_exchange.specs.Ready.{Tables}
use Rattle.coap_pending.specs.Table.{Table}
use Rattle.coap_exchange.proofs.Readying.{ready-free, ready-moved, ready-room, there-as}
use Rattle.coap_exchange.proofs.WaiterUpdating.{updated-elsewhere}
use Rattle.coap_exchange.proofs.under_way.UnderWay.update_waiter.Goals as goal

pub replace-requires-clause-there : goal.replace-requires-clause-there
replace-requires-clause-there c =
    let old : Tables = record { exchanges = c.self.inside.exchanges; waiters = c.self.inside.waiters } in
    let new : Tables = record { exchanges = c.self.inside.exchanges; waiters = c.update.new.self } in
    let stays = updated-elsewhere c.args.number c.args.change old c.update.new.self c.awaited-exchange.result c.ready_since-was.ensures.sound c.ready_since-is.ensures.sound c.update.ensures c.awaited-exchange.ensures.exact in
    there-as old new c.ready_since-was.ensures.sound c.ready_since-is.ensures.sound c.awaited-exchange.result stays c.self.inside.ready c.self.invariant _ (sym (c.ready_since-was.ensures.exact old refl c.got_in-got.ensures.exact))

pub replace-requires-clause-free : goal.replace-requires-clause-free
replace-requires-clause-free c =
    let old : Tables = record { exchanges = c.self.inside.exchanges; waiters = c.self.inside.waiters } in
    let new : Tables = record { exchanges = c.self.inside.exchanges; waiters = c.update.new.self } in
    let stays = updated-elsewhere c.args.number c.args.change old c.update.new.self c.awaited-exchange.result c.ready_since-was.ensures.sound c.ready_since-is.ensures.sound c.update.ensures c.awaited-exchange.ensures.exact in
    rw (c.ready_since-was.ensures.exact old refl c.got_in-got.ensures.exact, c.ready_since-is.ensures.exact new refl c.got_in-got.ensures.exact) (ready-free old new c.ready_since-was.ensures.sound c.ready_since-is.ensures.sound c.awaited-exchange.result stays c.self.inside.ready c.self.invariant)

pub replace-requires-clause-room : goal.replace-requires-clause-room
replace-requires-clause-room c =
    let old : Tables = record { exchanges = c.self.inside.exchanges; waiters = c.self.inside.waiters } in
    let new : Tables = record { exchanges = c.self.inside.exchanges; waiters = c.update.new.self } in
    let stays = updated-elsewhere c.args.number c.args.change old c.update.new.self c.awaited-exchange.result c.ready_since-was.ensures.sound c.ready_since-is.ensures.sound c.update.ensures c.awaited-exchange.ensures.exact in
    rw (c.ready_since-was.ensures.exact old refl c.got_in-got.ensures.exact, c.ready_since-is.ensures.exact new refl c.got_in-got.ensures.exact) (ready-room old new c.ready_since-was.ensures.sound c.ready_since-is.ensures.sound c.awaited-exchange.result stays c.self.inside.ready c.self.invariant c.laws.ensures (ap (λ (t : Table Waiter). t.limit) c.update.ensures))

pub invariant_of-self : goal.invariant_of-self
invariant_of-self c =
    let old : Tables = record { exchanges = c.self.inside.exchanges; waiters = c.self.inside.waiters } in
    let new : Tables = record { exchanges = c.self.inside.exchanges; waiters = c.update.new.self } in
    let stays = updated-elsewhere c.args.number c.args.change old c.update.new.self c.awaited-exchange.result c.ready_since-was.ensures.sound c.ready_since-is.ensures.sound c.update.ensures c.awaited-exchange.ensures.exact in
    let replaced = rw (c.ready_since-was.ensures.exact old refl c.got_in-got.ensures.exact, c.ready_since-is.ensures.exact new refl c.got_in-got.ensures.exact) at c.replace.ensures.replaced in
    ready-moved old new c.ready_since-was.ensures.sound c.ready_since-is.ensures.sound c.awaited-exchange.result stays c.self.inside.ready c.self.invariant c.replace.new.self replaced c.replace.ensures.limit (ap (λ (t : Table Waiter). t.limit) c.update.ensures)
