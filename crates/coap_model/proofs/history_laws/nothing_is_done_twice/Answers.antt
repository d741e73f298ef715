use Rattle.coap_model.proofs.Once.{sent-once, ended-once, served-once}
use Rattle.coap_model.proofs.FinishedWaiters.{gone-for-good}
use Rattle.coap_model.proofs.history_laws.nothing_is_done_twice.Goals as goal

pub returns : goal.returns
returns c = record { sent = sent-once; ended = ended-once; served = served-once; gone = gone-for-good }
