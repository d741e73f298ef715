use Rattle.std.proofs.Common.{rules}
use Rattle.coap_message.proofs.reading.read_copy.Goals as goal

pub returns-in_err-message : goal.returns-in_err-message
returns-in_err-message c = search rules
