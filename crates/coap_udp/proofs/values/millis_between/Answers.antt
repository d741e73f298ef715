use Rattle.std.proofs.Common.{rules}
use Rattle.coap_udp.proofs.values.millis_between.Goals as goal

pub returns-clause-exact : goal.returns-clause-exact
returns-clause-exact c = search rules
