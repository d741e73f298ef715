use Rattle.coap_message.proofs.WholeMessages as whole
use Rattle.coap_message.proofs.laws.one_message.Goals as goal

pub returns : goal.returns
returns c = whole.one_message
