use Rattle.coap_model.proofs.DeedOutcomes.{deed-outcome}
use Rattle.coap_model.proofs.laws.deeds_are_outcomes.Goals as goal

pub returns : goal.returns
returns c = record { said = deed-outcome }
