use Rattle.coap_model.proofs.Runs.{runs_keep_setting, runs_promise}
use Rattle.coap_model.proofs.laws.runs_are_promised.Goals as goal

pub returns : goal.returns
returns c = record { kept = runs_keep_setting; promised = runs_promise }
