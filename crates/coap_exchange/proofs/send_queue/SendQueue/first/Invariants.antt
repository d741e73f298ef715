use Rattle.coap_exchange.proofs.Lowest.{owners_left, AreSeen}
use Rattle.coap_exchange.proofs.send_queue.SendQueue.first.Given as goal

abbrev pub invariant-loop-next : goal.invariant-loop-next
invariant-loop-next l = AreSeen l.nstart l.self.heads.pairs l.first l.next

abbrev pub decreases-loop-next : goal.decreases-loop-next
decreases-loop-next l = owners_left l.next
