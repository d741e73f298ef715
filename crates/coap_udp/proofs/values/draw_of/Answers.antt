use Rattle.std.proofs.Common.{rules}
use Rattle.coap_udp.proofs.values.draw_of.Goals as goal

pub returns-clause-exact : goal.returns-clause-exact
returns-clause-exact c = search rules

pub returns-clause-draw : goal.returns-clause-draw
returns-clause-draw c = search rules
