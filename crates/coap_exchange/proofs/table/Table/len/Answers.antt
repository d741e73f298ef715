use Rattle.std.proofs.Common.{arith, sym, ◌∙◌}
use Rattle.coap_pending.proofs.ByNumber.{length-by_number}
use Rattle.coap_exchange.proofs.table.Table.len.Goals as goal

pub returns : goal.returns
returns g c = record {
  exact = rw (← c.self.view_is) (c.len.ensures.len ∙ sym (length-by_number c.self.inside.items.entries));
  small = rw (← c.self.view_is) (omega (arith, length-by_number c.self.inside.items.entries, c.len.ensures.len, c.len.ensures.small));
}
