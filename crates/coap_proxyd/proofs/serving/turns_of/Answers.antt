use Rattle.std.proofs.Common.{rules}
use Rattle.coap_proxyd.proofs.serving.turns_of.Goals as goal

pub returns : goal.returns
returns c = search rules
