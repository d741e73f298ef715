use Rattle.coap_model.proofs.DueBound.{next-bounded}
use Rattle.coap_model.proofs.laws.dues_are_bounded.Goals as goal

pub returns : goal.returns
returns c = record { bounded = next-bounded }
