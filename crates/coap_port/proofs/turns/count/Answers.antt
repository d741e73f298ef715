use Rattle.std.proofs.Common.{rules}
use Rattle.coap_port.proofs.turns.count.Goals as goal

pub returns-then-lost-clause-exact : goal.returns-then-lost-clause-exact
returns-then-lost-clause-exact c = search rules

pub returns-else-lost-clause-exact : goal.returns-else-lost-clause-exact
returns-else-lost-clause-exact c = search rules
