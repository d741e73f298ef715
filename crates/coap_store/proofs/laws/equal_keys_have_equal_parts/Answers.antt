use Rattle.coap_store.specs.Keys.{same_key}
use Rattle.coap_endpoint.proofs.Equality.{Tells-both}
use Rattle.coap_store.proofs.Keys.{parts-same_key, same_key-parts, Tells-key}
use Rattle.coap_store.proofs.laws.equal_keys_have_equal_parts.Goals as goal

pub returns : goal.returns
returns c = record { parts = λ a b. (same_key-parts a b, parts-same_key a b); whole = Tells-both same_key Tells-key }
