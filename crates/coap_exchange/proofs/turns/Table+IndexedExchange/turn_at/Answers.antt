use Rattle.std.proofs.Common.{rules}
use Rattle.coap_exchange.proofs.turns.Table+IndexedExchange.turn_at.Goals as goal

pub returns-then-counts_of-nstart : goal.returns-then-counts_of-nstart
returns-then-counts_of-nstart c = search rules
