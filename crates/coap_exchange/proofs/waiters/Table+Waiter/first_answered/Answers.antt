use Rattle.coap_exchange.specs.WaiterIndex.{answered_of}
use Rattle.coap_pending.proofs.ByNumber.{first_due-by_number}
use Rattle.coap_exchange.proofs.waiters.Table+Waiter.first_answered.Goals as goal

pub loop-number-init : goal.loop-number-init
loop-number-init c = rw (← c.self.view_is, c.into_iter-number-iterator.ensures.into_iter_gives, c.iter-number-items.ensures.rest) (first_due-by_number (answered_of c.args.exchanges.now.items) c.self.inside.items.entries)
