use Rattle.std.proofs.Common.{rules}
use Rattle.coap_core.proofs.responses.awaits.Goals as goal

pub returns-then-has_id : goal.returns-then-has_id
returns-then-has_id c = search rules
