use Rattle.std.proofs.Common.{rules}
use Rattle.coap_store.proofs.tag.held_tag.Goals as goal

pub returns-else-is_among-clause-value : goal.returns-else-is_among-clause-value
returns-else-is_among-clause-value c = search rules
