use Rattle.std.proofs.Common.{rules}
use Rattle.coap_store.proofs.envelope.Envelope.head.Goals as goal

pub returns : goal.returns
returns c = search rules
