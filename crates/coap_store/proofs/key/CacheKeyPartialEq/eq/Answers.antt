use Rattle.std.proofs.Common.{rules}
use Rattle.coap_store.proofs.key.CacheKeyPartialEq.eq.Goals as goal

pub returns-then-eq : goal.returns-then-eq
returns-then-eq c = search rules
