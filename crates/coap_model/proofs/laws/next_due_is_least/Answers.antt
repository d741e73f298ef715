use Rattle.coap_model.proofs.DueByHistory.{next-is, no-next, one-next}
use Rattle.coap_model.proofs.laws.next_due_is_least.Goals as goal

pub returns : goal.returns
returns c = record { next = λ w history k. next-is w k.actions k.bears; none = λ w history k. no-next w k.actions k.bears; one = one-next }
