use Rattle.coap_message.proofs.Runs.{IsRun-none, IsRun-step}
use Rattle.coap_message.proofs.options.split_run.Goals as goal

pub run-init : goal.run-init
run-init c = IsRun-none c.args.bytes.now

pub run-preserved : goal.run-preserved
run-preserved c = IsRun-step c.args.bytes.now c.run.rest.now c.in-Some.behind.now c.in-Some.ensures c.run.invariant
