use Rattle.std.proofs.Common.{length}
use Rattle.coap_message.proofs.Runs.{IsRun}
use Rattle.coap_message.proofs.options.split_run.Given as goal

abbrev pub invariant-run : goal.invariant-run
invariant-run l = IsRun l.bytes l.rest

abbrev pub decreases-run : goal.decreases-run
decreases-run l = length l.rest
