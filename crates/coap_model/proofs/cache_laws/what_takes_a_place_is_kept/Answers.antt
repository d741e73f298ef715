use Rattle.coap_model.proofs.ObtainedResponses.{kept-there}
use Rattle.coap_model.proofs.cache_laws.what_takes_a_place_is_kept.Goals as goal

pub returns : goal.returns
returns c = λ setting past d cached entry h j took. kept-there d.observation.report.outcome setting past d cached entry h j took
