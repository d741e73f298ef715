use Rattle.std.proofs.Common.{rules}
use Rattle.coap_exchange.proofs.indexed_exchange.client_of.Goals as goal

pub returns-in-Some : goal.returns-in-Some
returns-in-Some c = search rules
