use Rattle.test_promises.proofs.Promising.{no_hit}
use Rattle.test_promises.proofs.promises.a_hit_before_any_response_is_refused.Goals as goal

pub returns : goal.returns
returns c = no_hit
