use Rattle.std.proofs.Common.{◌≡◌}
use Rattle.coap_pending.specs.Due.{sooner, first_due}
use Rattle.coap_exchange.specs.Index.{turn_among}
use Rattle.coap_exchange.proofs.turns.Table+IndexedExchange.first_turn.Given as goal

abbrev pub invariant-loop-number : goal.invariant-loop-number
invariant-loop-number l = first_due (turn_among l.nstart l.self.items) l.self.items ≡ sooner l.first (first_due (turn_among l.nstart l.self.items) l.number-iterator)
