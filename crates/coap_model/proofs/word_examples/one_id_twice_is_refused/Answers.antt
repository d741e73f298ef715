use Rattle.coap_model.proofs.ForgedWords.{one_id}
use Rattle.coap_model.proofs.word_examples.one_id_twice_is_refused.Goals as goal

pub returns : goal.returns
returns c = one_id
