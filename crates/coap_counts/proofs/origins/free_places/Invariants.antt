use Rattle.std.proofs.Common.{◌≡◌}
use Rattle.coap_counts.specs.Origins.{free_places}
use Rattle.coap_counts.proofs.origins.free_places.Given as goal

-- so many were added
abbrev pub invariant-loop-index : goal.invariant-loop-index
invariant-loop-index l = l.places ≡ free_places l.index
