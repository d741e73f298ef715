use Rattle.std.proofs.Common.{rules}
use Rattle.coap_proxyd.proofs.words.local.Goals as goal

pub returns : goal.returns
returns c = search rules
