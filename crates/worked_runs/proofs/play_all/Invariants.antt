-- No more runs agree than were played.
use Rattle.std.proofs.Common.{◌≤◌}
use Rattle.worked_runs.proofs.play_all.Given as goal

abbrev pub invariant-loop-name : goal.invariant-loop-name
invariant-loop-name l = l.agreeing ≤ l.name-index
