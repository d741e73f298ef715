use Rattle.std.proofs.Common.{rules}
use Rattle.coap_exchange.proofs.waiters.Waiters.count_of.Goals as goal

pub returns-clause-exact : goal.returns-clause-exact
returns-clause-exact c = search rules
