use Rattle.std.proofs.Common.{rules}
use Rattle.coap_target.proofs.mapped.MappedTarget.overwrite.Goals as goal

pub returns : goal.returns
returns c = search rules
