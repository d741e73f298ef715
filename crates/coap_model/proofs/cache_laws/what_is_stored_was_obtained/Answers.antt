use Rattle.coap_model.proofs.ObtainedResponses.{obtained-here, obtained-fetched, obtained-lasting}
use Rattle.coap_model.proofs.cache_laws.what_is_stored_was_obtained.Goals as goal

pub returns : goal.returns
returns c = record { obtained = obtained-here; fetched = λ setting key response asking getting. obtained-fetched; lasting = λ setting key response asking getting. obtained-lasting }
