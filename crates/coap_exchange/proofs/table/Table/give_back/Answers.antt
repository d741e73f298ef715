use Rattle.std.proofs.Common.{◌≡◌, None, subst, sym}
use Rattle.coap_pending.specs.Table.{Table, by_number, item_at}
use Rattle.coap_pending.proofs.Tables.{given-back-is}
use Rattle.coap_exchange.proofs.table.Table.give_back.Goals as goal

pub invariant_of-self : goal.invariant_of-self
invariant_of-self g c =
    let before : Table g.row.T.Denot = record { items = by_number c.self.inside.items.entries; limit = c.self.inside.limit; per_client = c.self.inside.per_client; admitted = c.self.inside.admitted; seed = c.self.inside.seed } in
    let gone : item_at before.admitted before.items ≡ None = subst (λ (t : Table g.row.T.Denot). item_at t.admitted t.items ≡ None) (sym c.self.view_is) c.requires in
    (rw c.saturating_sub-self-inside.ensures (given-back-is before c.self.invariant.0 gone), c.self.invariant.1)
