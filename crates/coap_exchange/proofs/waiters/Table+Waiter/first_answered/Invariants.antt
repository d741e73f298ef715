use Rattle.std.proofs.Common.{◌≡◌}
use Rattle.coap_pending.specs.Due.{sooner, first_due}
use Rattle.coap_exchange.specs.WaiterIndex.{answered_of}
use Rattle.coap_exchange.proofs.waiters.Table+Waiter.first_answered.Given as goal

abbrev pub invariant-loop-number : goal.invariant-loop-number
invariant-loop-number l = first_due (answered_of l.exchanges.items) l.self.items ≡ sooner l.first (first_due (answered_of l.exchanges.items) l.number-iterator)
