use Rattle.coap_pending.specs.Exchanges.{tainted_by}
use Rattle.coap_exchange.proofs.Readying.{got-all, got-tainted, ready-same}
use Rattle.std.proofs.Common.{ℕ, refl, ap, Option}
use Rattle.coap_exchange.specs.Ready.{ready_of, Tables}
use Rattle.coap_pending.specs.Table.{first_that}
use Rattle.coap_pending.specs.Waiters.{waits_for}
use Rattle.coap_exchange.proofs.under_way.UnderWay.taint.Goals as goal

pub invariant_of-self : goal.invariant_of-self
invariant_of-self c =
    let old : Tables = record { exchanges = c.self.inside.exchanges; waiters = c.self.inside.waiters } in
    let new : Tables = record { exchanges = c.taint.new.self; waiters = c.self.inside.waiters } in
    ready-same old new c.self.inside.ready (λ e. ap (λ (at : Option ℕ). ready_of at (first_that (waits_for e) c.self.inside.waiters.items)) (rw c.taint.ensures.tainted (got-all e (tainted_by c.args.target.now) c.self.inside.exchanges.items (got-tainted c.args.target.now)))) refl c.self.invariant
