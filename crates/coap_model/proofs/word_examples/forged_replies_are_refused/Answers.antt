use Rattle.coap_model.proofs.ForgedWords.{not_as_received, not_stale, not_to_another, not_with_a_token, stale_if_fresh}
use Rattle.coap_model.proofs.word_examples.forged_replies_are_refused.Goals as goal

pub returns : goal.returns
returns c = record { stale = not_stale; but_for_its_age = stale_if_fresh; as_received = not_as_received; with_a_token = not_with_a_token; to_another = not_to_another }
