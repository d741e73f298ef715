use Rattle.std.proofs.Common.{rules}
use Rattle.coap_exchange.proofs.exchange_changes.Table+IndexedExchange.update.Goals as goal

pub returns-in-None-clause-keys : goal.returns-in-None-clause-keys
returns-in-None-clause-keys c = search rules
