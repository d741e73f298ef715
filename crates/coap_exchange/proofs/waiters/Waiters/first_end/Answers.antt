use Rattle.coap_exchange.specs.WaiterIndex.{end_of}
use Rattle.coap_exchange.proofs.Dues.{index-first}
use Rattle.coap_exchange.proofs.waiters.Waiters.first_end.Goals as goal

pub returns-clause-exact : goal.returns-clause-exact
returns-clause-exact c = rw (← c.self.view_is) (index-first end_of c.self.inside.table c.self.inside.index.ends c.self.invariant.2 c.self.invariant.1.ends c.first.result c.first.ensures.exact)
