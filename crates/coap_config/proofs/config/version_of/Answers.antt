use Rattle.std.proofs.Common.{rules}
use Rattle.coap_config.proofs.config.version_of.Goals as goal

pub returns-in_default : goal.returns-in_default
returns-in_default c = search rules
