use Rattle.std.proofs.Common.{rules}
use Rattle.coap_store.proofs.store.Store.hit.Goals as goal

pub returns-then-usable-clause-moved : goal.returns-then-usable-clause-moved
returns-then-usable-clause-moved g c = search rules
