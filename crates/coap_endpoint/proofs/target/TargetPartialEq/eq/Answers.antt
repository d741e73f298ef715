use Rattle.std.proofs.Common.{rules}
use Rattle.coap_endpoint.proofs.target.TargetPartialEq.eq.Goals as goal

pub returns-then-eq-4 : goal.returns-then-eq-4
returns-then-eq-4 c = search rules

pub returns-else-eq-4 : goal.returns-else-eq-4
returns-else-eq-4 c = search rules
