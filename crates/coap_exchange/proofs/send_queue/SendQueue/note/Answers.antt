use Rattle.std.proofs.Common.{rules}
use Rattle.coap_exchange.proofs.send_queue.SendQueue.note.Goals as goal

pub returns : goal.returns
returns c = search rules
