use Rattle.test_promises.proofs.Differing.{late_enough, too_soon}
use Rattle.test_promises.proofs.schedules.ids_in_a_history_have_the_same_edge.Goals as goal

pub returns : goal.returns
returns c = record { apart = late_enough; too_soon = too_soon }
