use Rattle.coap_pending.specs.Exchanges.{fired_exchange}
use Rattle.endpoint_counts.proofs.Indexing.{changed-others}
use Rattle.coap_exchange.proofs.Readying.{got-changed, got-fired, ready-same}
use Rattle.std.proofs.Common.{ℕ, refl, ap, Option}
use Rattle.coap_exchange.specs.Ready.{ready_of, Tables}
use Rattle.coap_pending.specs.Table.{first_that}
use Rattle.coap_pending.specs.Waiters.{waits_for}
use Rattle.coap_exchange.proofs.under_way.UnderWay.fire.Goals as goal

pub invariant_of-self : goal.invariant_of-self
invariant_of-self c =
    let old : Tables = record { exchanges = c.self.inside.exchanges; waiters = c.self.inside.waiters } in
    let new : Tables = record { exchanges = c.fire.new.self; waiters = c.self.inside.waiters } in
    ready-same old new c.self.inside.ready (λ e. ap (λ (at : Option ℕ). ready_of at (first_that (waits_for e) c.self.inside.waiters.items)) (rw c.fire.ensures.fired (got-changed c.args.number e (fired_exchange c.args.now) c.self.inside.exchanges.items _ refl (λ q h. changed-others c.args.number q (fired_exchange c.args.now) c.self.inside.exchanges.items h) (got-fired c.args.number c.args.now c.self.inside.exchanges.items)))) refl c.self.invariant
