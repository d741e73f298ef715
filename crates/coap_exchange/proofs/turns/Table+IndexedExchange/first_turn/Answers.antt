use Rattle.coap_exchange.specs.Index.{turn_among}
use Rattle.coap_pending.specs.Table.{by_number}
use Rattle.coap_pending.proofs.ByNumber.{first_due-by_number}
use Rattle.coap_exchange.proofs.turns.Table+IndexedExchange.first_turn.Goals as goal

pub loop-number-init : goal.loop-number-init
loop-number-init c = rw (← c.self.view_is, c.into_iter-number-iterator.ensures.into_iter_gives, c.iter-number-items.ensures.rest) (first_due-by_number (turn_among c.args.nstart (by_number c.self.inside.items.entries)) c.self.inside.items.entries)
