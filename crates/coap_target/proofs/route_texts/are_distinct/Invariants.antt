use Rattle.std.proofs.Common.{◌≡◌, length}
use Rattle.coap_target.specs.RouteTexts.{are_distinct}
use Rattle.coap_target.proofs.route_texts.are_distinct.Given as goal

abbrev pub invariant-loop-rest : goal.invariant-loop-rest
invariant-loop-rest l = are_distinct l.hosts ≡ are_distinct l.rest

abbrev pub decreases-loop-rest : goal.decreases-loop-rest
decreases-loop-rest l = length l.rest
