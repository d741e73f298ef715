use Rattle.std.proofs.Common.{rules}
use Rattle.coap_udp.proofs.values.moment_after.Goals as goal

pub returns-in-Some-clause-exact : goal.returns-in-Some-clause-exact
returns-in-Some-clause-exact c = search rules

pub returns-in-Some-clause-onward : goal.returns-in-Some-clause-onward
returns-in-Some-clause-onward c = search rules
