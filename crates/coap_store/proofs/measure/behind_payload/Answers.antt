use Rattle.std.proofs.Common.{rules}
use Rattle.coap_store.proofs.measure.behind_payload.Goals as goal

pub returns : goal.returns
returns c = search rules
