use Rattle.coap_exchange.proofs.Readying.{first-waiting}
use Rattle.coap_exchange.proofs.waiters.Waiters.first_waiting.Goals as goal

pub returns : goal.returns
returns c = record { exact = rw (← c.self.view_is) (first-waiting c.args.exchange c.self.inside.table c.self.inside.index.awaited c.self.invariant.2 c.self.invariant.1.awaited c.next_of.result c.next_of.ensures.exact) }
