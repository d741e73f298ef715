use Rattle.std.proofs.Common.{rules}
use Rattle.coap_proxyd.proofs.serving.Server.core.Goals as goal

pub returns : goal.returns
returns g c = search rules
