use Rattle.std.proofs.Common.{rules}
use Rattle.coap_store.proofs.stored.left_at.Goals as goal

pub returns : goal.returns
returns c = search rules
