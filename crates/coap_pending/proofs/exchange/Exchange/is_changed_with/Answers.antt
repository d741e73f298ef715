use Rattle.std.proofs.Common.{rules}
use Rattle.coap_pending.proofs.exchange.Exchange.is_changed_with.Goals as goal

pub returns-then-is_acked : goal.returns-then-is_acked
returns-then-is_acked c = search rules
