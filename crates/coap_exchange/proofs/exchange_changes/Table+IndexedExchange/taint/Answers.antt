use Rattle.std.proofs.Common.{refl}
use Rattle.coap_pending.specs.Exchanges.{tainted_by}
use Rattle.coap_pending.specs.Table.{by_number}
use Rattle.coap_pending.proofs.Changes.{changed_at-is, written-is}
use Rattle.coap_exchange.proofs.exchange_changes.Table+IndexedExchange.taint.Goals as goal

pub invariant_of-self : goal.invariant_of-self
invariant_of-self c = (
  rw (written-is c.args.number (tainted_by c.args.target.now) 0 c.self.inside.items.entries c.taint_under.new.exchanges.entries c.self.invariant.0.rising c.taint_under.ensures.found c.taint_under.ensures.missing)
      (changed_at-is c.args.number (tainted_by c.args.target.now) (record { items = by_number c.self.inside.items.entries; limit = c.self.inside.limit; per_client = c.self.inside.per_client; admitted = c.self.inside.admitted; seed = c.self.inside.seed }) c.self.invariant.0),
  rw c.taint_under.ensures.hasher c.self.invariant.1,
)

pub returns : goal.returns
returns c =
    rw (← c.self.view_is, written-is c.args.number (tainted_by c.args.target.now) 0 c.self.inside.items.entries c.taint_under.new.exchanges.entries c.self.invariant.0.rising c.taint_under.ensures.found c.taint_under.ensures.missing) refl
