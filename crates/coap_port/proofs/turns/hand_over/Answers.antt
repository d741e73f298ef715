use Rattle.std.proofs.Common.{rules}
use Rattle.coap_port.proofs.turns.hand_over.Goals as goal

pub returns-in-Some-clause-takes : goal.returns-in-Some-clause-takes
returns-in-Some-clause-takes g c = search rules
