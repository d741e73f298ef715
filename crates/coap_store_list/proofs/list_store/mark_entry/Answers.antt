use Rattle.std.proofs.Common.{rules}
use Rattle.coap_store_list.proofs.list_store.mark_entry.Goals as goal

pub returns-then-is_for-clause-answer : goal.returns-then-is_for-clause-answer
returns-then-is_for-clause-answer c = search rules

pub returns-then-is_for-clause-marked : goal.returns-then-is_for-clause-marked
returns-then-is_for-clause-marked c = search rules
