use Rattle.test_promises.proofs.Promising.{no_other_acknowledgement}
use Rattle.test_promises.proofs.promises.another_acknowledgement_is_refused.Goals as goal

pub returns : goal.returns
returns c = no_other_acknowledgement
