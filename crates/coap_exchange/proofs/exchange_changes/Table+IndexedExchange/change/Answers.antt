use Rattle.std.proofs.Common.{refl, sym, subst}
use Rattle.std.specs.Prelude.{IfSome, Option}
use Rattle.coap_pending.specs.declared.exchange.Exchange.{Exchange}
use Rattle.coap_pending.specs.Exchanges.{after_transition, CanChange}
use Rattle.coap_pending.specs.Table.{Table, by_number, item_at}
use Rattle.coap_pending.proofs.Changes.{changed_at-is, written-is}
use Rattle.coap_pending.proofs.ByNumber.{item_at-by_number}
use Rattle.coap_exchange.proofs.exchange_changes.Table+IndexedExchange.change.Goals as goal

pub change_under-requires : goal.change_under-requires
change_under-requires c =
    let there : IfSome (item_at c.args.number (by_number c.self.inside.items.entries)) (CanChange c.args.change) = subst (λ (t : Table Exchange). IfSome (item_at c.args.number t.items) (CanChange c.args.change)) (sym c.self.view_is) c.requires in
    subst (λ (o : Option Exchange). IfSome o (CanChange c.args.change)) (item_at-by_number c.args.number c.self.inside.items.entries) there

pub invariant_of-self : goal.invariant_of-self
invariant_of-self c = (
  rw (written-is c.args.number (after_transition c.args.change) 0 c.self.inside.items.entries c.change_under.new.exchanges.entries c.self.invariant.0.rising c.change_under.ensures.found c.change_under.ensures.missing)
      (changed_at-is c.args.number (after_transition c.args.change) (record { items = by_number c.self.inside.items.entries; limit = c.self.inside.limit; per_client = c.self.inside.per_client; admitted = c.self.inside.admitted; seed = c.self.inside.seed }) c.self.invariant.0),
  rw c.change_under.ensures.hasher c.self.invariant.1,
)

pub returns-clause-changed : goal.returns-clause-changed
returns-clause-changed c =
    rw (← c.self.view_is, written-is c.args.number (after_transition c.args.change) 0 c.self.inside.items.entries c.change_under.new.exchanges.entries c.self.invariant.0.rising c.change_under.ensures.found c.change_under.ensures.missing) refl

pub returns-clause-keys : goal.returns-clause-keys
returns-clause-keys c =
    rw (← c.self.view_is, item_at-by_number c.args.number c.self.inside.items.entries) c.change_under.ensures.keys
