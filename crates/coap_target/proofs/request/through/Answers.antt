use Rattle.std.proofs.Common.{rules}
use Rattle.coap_target.proofs.request.through.Goals as goal

pub returns : goal.returns
returns c = search rules
