use Rattle.coap_dedup.proofs.Passing.{living-kept}
use Rattle.coap_dedup.proofs.laws.nothing_that_lives_is_given_up.Goals as goal

pub returns : goal.returns
returns c = living-kept
