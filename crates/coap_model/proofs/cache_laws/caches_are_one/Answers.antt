use Rattle.coap_model.proofs.Cached.{cache-unique}
use Rattle.coap_model.proofs.ObtainedResponses.{cache-obtained}
use Rattle.coap_model.proofs.Stores.{cache-within}
use Rattle.coap_model.proofs.cache_laws.caches_are_one.Goals as goal

pub returns : goal.returns
returns c = record { one = cache-unique; obtained = cache-obtained; within = cache-within }
