use Rattle.std.proofs.Common.{rules}
use Rattle.coap_pending.proofs.exchange.Exchange.is_joinable.Goals as goal

pub returns-then-is_none : goal.returns-then-is_none
returns-then-is_none c = search rules
