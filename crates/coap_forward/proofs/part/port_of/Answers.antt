use Rattle.std.proofs.Common.{rules}
use Rattle.coap_forward.proofs.part.port_of.Goals as goal

pub returns-in-Some : goal.returns-in-Some
returns-in-Some c = search rules
