use Rattle.std.proofs.Common.{rules}
use Rattle.coap_exchange.proofs.waiter_index.waiter_keys_of.Goals as goal

pub returns-in-Waiting : goal.returns-in-Waiting
returns-in-Waiting c = search rules
