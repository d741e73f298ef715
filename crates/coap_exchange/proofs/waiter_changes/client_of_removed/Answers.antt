use Rattle.std.proofs.Common.{rules}
use Rattle.coap_exchange.proofs.waiter_changes.client_of_removed.Goals as goal

pub returns-in-Some-None : goal.returns-in-Some-None
returns-in-Some-None c = search rules
