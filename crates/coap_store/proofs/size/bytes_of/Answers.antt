use Rattle.std.proofs.Common.{rules}
use Rattle.coap_store.proofs.size.bytes_of.Goals as goal

pub returns : goal.returns
returns c = search rules
