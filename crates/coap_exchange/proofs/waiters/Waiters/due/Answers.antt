use Rattle.std.proofs.Common.{◌∙◌, sym}
use Rattle.coap_exchange.specs.WaiterIndex.{answered_of, end_of}
use Rattle.coap_pending.specs.Waiters.{due_after}
use Rattle.coap_exchange.proofs.Dues.{first_due-split}
use Rattle.coap_exchange.proofs.WaiterIndexing.{due-parts}
use Rattle.coap_exchange.proofs.waiters.Waiters.due.Goals as goal

pub returns : goal.returns
returns c =
    let split = first_due-split (due_after c.args.exchanges.now.items) end_of (answered_of c.args.exchanges.now.items) (due-parts c.args.exchanges.now.items) c.args.self.now.items in
    record { exact = c.sooner.ensures.exact ∙ rw (c.first_end.ensures.exact, c.first_answered.ensures.exact, c.self.view_is) (sym split) }
