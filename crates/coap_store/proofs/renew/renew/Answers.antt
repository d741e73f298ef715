use Rattle.std.proofs.Common.{rules}
use Rattle.coap_store.proofs.renew.renew.Goals as goal

pub returns : goal.returns
returns c = search rules
