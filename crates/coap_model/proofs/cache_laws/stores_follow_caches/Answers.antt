use Rattle.coap_model.proofs.Stores.{store-empty, store-kept, store-too_large, store-marked, store-hit, store-otherwise}
use Rattle.coap_model.proofs.cache_laws.stores_follow_caches.Goals as goal

pub returns : goal.returns
returns c =
    record {
      new = store-empty;
      kept = λ setting past d exchange gets. store-kept setting past d gets;
      too_large = λ setting past d exchange gets. store-too_large setting past d gets;
      marked = λ setting past d exchange gets. store-marked setting past d gets;
      hit = store-hit;
      otherwise = store-otherwise;
    }
