use Rattle.std.proofs.Common.{rules}
use Rattle.coap_pending.proofs.exchange.Sending.is_meant_by.Goals as goal

pub returns-then-self-id : goal.returns-then-self-id
returns-then-self-id c = search rules
