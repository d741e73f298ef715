use Rattle.std.proofs.Common.{rules}
use Rattle.coap_port.proofs.turns.wait_for.Goals as goal

pub returns-else-came : goal.returns-else-came
returns-else-came c = search rules

pub returns-in-None : goal.returns-in-None
returns-in-None c = search rules
