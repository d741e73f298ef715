use Rattle.std.proofs.Common.{rules}
use Rattle.coap_store.proofs.show.is_cacheable.Goals as goal

pub returns-then-class-eq4 : goal.returns-then-class-eq4
returns-then-class-eq4 c = search rules
