use Rattle.std.proofs.Common.{rules}
use Rattle.coap_store_lru.proofs.lru_store.is_over.Goals as goal

pub returns-then-total-room : goal.returns-then-total-room
returns-then-total-room c = search rules

pub returns-else-total-room : goal.returns-else-total-room
returns-else-total-room c = search rules
