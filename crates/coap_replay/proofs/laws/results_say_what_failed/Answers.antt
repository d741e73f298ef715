use Rattle.std.proofs.Common.{refl}
use Rattle.coap_replay.proofs.Causes.{reader-failed, writer-failed}
use Rattle.coap_replay.proofs.laws.results_say_what_failed.Goals as goal

pub returns : goal.returns
returns c = record { done = λ count read written reader writer. (reader refl, writer refl); reader = reader-failed; writer = writer-failed }
