use Rattle.std.proofs.Common.{rules}
use Rattle.coap_message.proofs.reading.read_content.Goals as goal

pub returns-clause-exact : goal.returns-clause-exact
returns-clause-exact c = search rules

pub returns-clause-within : goal.returns-clause-within
returns-clause-within c = search rules
