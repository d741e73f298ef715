use Rattle.std.proofs.Common.{rules}
use Rattle.coap_stats.proofs.clock.period_of.Goals as goal

pub returns-clause-exact : goal.returns-clause-exact
returns-clause-exact c = search rules
