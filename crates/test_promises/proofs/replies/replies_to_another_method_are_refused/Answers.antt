use Rattle.coap_model.proofs.ForgedHits.{from_cache}
use Rattle.test_promises.proofs.CachedReplies.{not_to_put, put_shown}
use Rattle.test_promises.proofs.replies.replies_to_another_method_are_refused.Goals as goal

pub returns : goal.returns
returns c = record { to_a_get = from_cache; to_a_put = not_to_put; but_for_its_method = put_shown }
