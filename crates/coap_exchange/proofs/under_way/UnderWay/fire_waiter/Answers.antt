use Rattle.std.proofs.Common.{ap}
use Rattle.coap_pending.specs.declared.waiter.Waiter.{Waiter}
use Rattle.coap_exchange.specs.Ready.{Tables}
use Rattle.coap_pending.specs.Table.{Table, IsTable}
use Rattle.coap_pending.specs.Waiters.{fired_waiter}
use Rattle.coap_pending.proofs.Changes.{changed_at-is}
use Rattle.coap_exchange.proofs.Readying.{ready-fired, ready-same}
use Rattle.coap_exchange.proofs.under_way.UnderWay.fire_waiter.Goals as goal

pub invariant_of-self : goal.invariant_of-self
invariant_of-self c =
    let old : Tables = record { exchanges = c.self.inside.exchanges; waiters = c.self.inside.waiters } in
    let new : Tables = record { exchanges = c.self.inside.exchanges; waiters = c.fire.new.self } in
    let is : IsTable c.fire.new.self = rw c.fire.ensures.fired (changed_at-is c.args.number (fired_waiter c.args.now) c.self.inside.waiters c.laws.ensures) in
    ready-same old new c.self.inside.ready (ready-fired c.args.number c.args.now old c.fire.new.self c.laws.ensures is (ap (λ (t : Table Waiter). t.items) c.fire.ensures.fired)) (ap (λ (t : Table Waiter). t.limit) c.fire.ensures.fired) c.self.invariant
