use Rattle.coap_message.specs.Spelling.{spelling}
use Rattle.coap_message.proofs.Spellings.{spelled}
use Rattle.coap_message.proofs.WholeMessages.{read_again}
use Rattle.coap_message.proofs.laws.spelling_is_read.Goals as goal

pub returns : goal.returns
returns c = λ m is. read_again (spelling m) m (spelled m is)
