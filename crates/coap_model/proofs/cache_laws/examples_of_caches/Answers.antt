use Rattle.coap_model.proofs.CacheExamples.{cache_not_stored, cache_kept, cache_hit, cache_asked_again, cache_in_place, cache_too_large}
use Rattle.coap_model.proofs.ForgedDeliveries.{not_got_yet, not_its_answer}
use Rattle.coap_model.proofs.cache_laws.examples_of_caches.Goals as goal

pub returns : goal.returns
returns c = record { not_stored = cache_not_stored; kept = cache_kept; hit = cache_hit; asked = cache_asked_again; in_place = cache_in_place; too_large = cache_too_large; not_got_yet = not_got_yet; not_its_answer = not_its_answer }
