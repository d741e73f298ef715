use Rattle.coap_message.proofs.Spellings.{spelling-length}
use Rattle.coap_message.proofs.laws.spelling_has_length.Goals as goal

pub returns : goal.returns
returns c = spelling-length
