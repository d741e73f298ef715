use Rattle.coap_model.proofs.BySize.{kept-first, stored-first}
use Rattle.coap_model.proofs.cache_laws.what_is_kept_stands_first.Goals as goal

pub returns : goal.returns
returns c = record { in_the_cache = kept-first; in_the_store = stored-first }
