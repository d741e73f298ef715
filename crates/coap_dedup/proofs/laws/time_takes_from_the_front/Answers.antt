use Rattle.coap_dedup.proofs.Passing.{living-again, living-later}
use Rattle.coap_dedup.proofs.laws.time_takes_from_the_front.Goals as goal

pub returns-clause-front : goal.returns-clause-front
returns-clause-front c = living-later

pub returns-clause-again : goal.returns-clause-again
returns-clause-again c = living-again
