use Rattle.std.proofs.Common.{rules}
use Rattle.coap_forward.proofs.changes.created_by.Goals as goal

pub returns-then-is_empty-2-clause-ok : goal.returns-then-is_empty-2-clause-ok
returns-then-is_empty-2-clause-ok c = search rules
