use Rattle.std.proofs.Common.{◌∙◌, sym}
use Rattle.coap_exchange.specs.WaiterIndex.{answered_of, end_of}
use Rattle.coap_pending.specs.Waiters.{due_after}
use Rattle.coap_exchange.proofs.Dues.{first_due-split}
use Rattle.coap_exchange.proofs.WaiterIndexing.{due-parts}
use Rattle.coap_exchange.proofs.Readying.{ready-first}
use Rattle.coap_exchange.proofs.under_way.UnderWay.waiter_due.Goals as goal

pub returns : goal.returns
returns c =
    let xs = c.self.inside.exchanges.items in
    let split = first_due-split (due_after xs) end_of (answered_of xs) (due-parts xs) c.self.inside.waiters.items in
    let first = ready-first (record { exchanges = c.self.inside.exchanges; waiters = c.self.inside.waiters }) c.first_end.ensures.sound c.self.inside.ready c.self.invariant c.first.result c.first.ensures.exact in
    record { exact = rw (← c.self.view_is) (c.sooner.ensures.exact ∙ rw (c.first_end.ensures.exact, first) (sym split)) }
