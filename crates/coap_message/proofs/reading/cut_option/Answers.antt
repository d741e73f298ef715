use Rattle.std.proofs.Common.{rules}
use Rattle.coap_message.proofs.reading.cut_option.Goals as goal

pub returns-clause-exact : goal.returns-clause-exact
returns-clause-exact c = search rules
