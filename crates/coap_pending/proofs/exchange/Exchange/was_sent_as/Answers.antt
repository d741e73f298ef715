use Rattle.std.proofs.Common.{rules}
use Rattle.coap_pending.proofs.exchange.Exchange.was_sent_as.Goals as goal

pub returns-then-eq : goal.returns-then-eq
returns-then-eq c = search rules
