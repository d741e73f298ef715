use Rattle.std.proofs.Common.{◌∙◌, sym}
use Rattle.coap_pending.proofs.ByNumber.{item_at-by_number}
use Rattle.coap_exchange.proofs.table.Table.get.Goals as goal

pub returns-clause-exact : goal.returns-clause-exact
returns-clause-exact g c = rw (← c.self.view_is) (c.item_in.ensures ∙ sym (item_at-by_number c.args.number c.self.inside.items.entries))
