use Rattle.coap_model.proofs.ForwardedRequests.{key-kept}
use Rattle.coap_model.proofs.laws.requests_keep_their_key.Goals as goal

pub returns : goal.returns
returns c = key-kept
