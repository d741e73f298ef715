use Rattle.coap_pending.specs.Exchanges.{acked}
use Rattle.endpoint_counts.proofs.Indexing.{changed-others}
use Rattle.coap_exchange.proofs.Readying.{got-changed, got-acked, ready-same}
use Rattle.std.proofs.Common.{ℕ, refl, ap, Option}
use Rattle.coap_exchange.specs.Ready.{ready_of, Tables}
use Rattle.coap_pending.specs.Table.{first_that}
use Rattle.coap_pending.specs.Waiters.{waits_for}
use Rattle.coap_exchange.proofs.under_way.UnderWay.acked.Goals as goal

pub invariant_of-self : goal.invariant_of-self
invariant_of-self c =
    let old : Tables = record { exchanges = c.self.inside.exchanges; waiters = c.self.inside.waiters } in
    let new : Tables = record { exchanges = c.acked.new.self; waiters = c.self.inside.waiters } in
    ready-same old new c.self.inside.ready (λ e. ap (λ (at : Option ℕ). ready_of at (first_that (waits_for e) c.self.inside.waiters.items)) (rw c.acked.ensures.acked (got-changed c.args.number e (acked) c.self.inside.exchanges.items _ refl (λ q h. changed-others c.args.number q (acked) c.self.inside.exchanges.items h) (got-acked c.args.number c.self.inside.exchanges.items (rw (← c.seek_exchange.ensures, ← c.self.view_is) at c.requires.sent))))) refl c.self.invariant
