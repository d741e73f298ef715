use Rattle.std.proofs.Common.{rules}
use Rattle.coap_endpoint.proofs.target.Target.overwrite.Goals as goal

pub returns : goal.returns
returns c = search rules
