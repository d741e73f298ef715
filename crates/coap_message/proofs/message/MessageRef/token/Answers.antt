use Rattle.std.proofs.Common.{rules}
use Rattle.coap_message.proofs.message.MessageRef.token.Goals as goal

pub returns-clause-bytes : goal.returns-clause-bytes
returns-clause-bytes c = search rules
