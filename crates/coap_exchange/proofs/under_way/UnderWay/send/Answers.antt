use Rattle.coap_pending.specs.Exchanges.{sent}
use Rattle.endpoint_counts.proofs.Indexing.{changed-others}
use Rattle.coap_exchange.proofs.Readying.{got-changed, got-sent, ready-same}
use Rattle.std.proofs.Common.{ℕ, refl, ap, Option}
use Rattle.coap_exchange.specs.Ready.{ready_of, Tables}
use Rattle.coap_pending.specs.Table.{first_that}
use Rattle.coap_pending.specs.Waiters.{waits_for}
use Rattle.coap_exchange.proofs.under_way.UnderWay.send.Goals as goal

pub invariant_of-self : goal.invariant_of-self
invariant_of-self c =
    let old : Tables = record { exchanges = c.self.inside.exchanges; waiters = c.self.inside.waiters } in
    let new : Tables = record { exchanges = c.send.new.self; waiters = c.self.inside.waiters } in
    ready-same old new c.self.inside.ready (λ e. ap (λ (at : Option ℕ). ready_of at (first_that (waits_for e) c.self.inside.waiters.items)) (rw c.send.ensures.sent (got-changed c.args.number e (sent c.args.sending) c.self.inside.exchanges.items _ refl (λ q h. changed-others c.args.number q (sent c.args.sending) c.self.inside.exchanges.items h) (got-sent c.args.number c.args.sending c.self.inside.exchanges.items (rw (← c.seek_exchange.ensures, ← c.self.view_is) at c.requires.queued))))) refl c.self.invariant
