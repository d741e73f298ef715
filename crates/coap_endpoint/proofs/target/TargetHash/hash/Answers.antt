use Rattle.std.proofs.Common.{rules}
use Rattle.coap_endpoint.proofs.target.TargetHash.hash.Goals as goal

pub returns : goal.returns
returns g c = search rules
