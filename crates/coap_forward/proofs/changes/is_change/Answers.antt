use Rattle.std.proofs.Common.{rules}
use Rattle.coap_forward.proofs.changes.is_change.Goals as goal

pub returns-else-eq-2 : goal.returns-else-eq-2
returns-else-eq-2 c = search rules
