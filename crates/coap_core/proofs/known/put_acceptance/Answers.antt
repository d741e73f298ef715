use Rattle.std.proofs.Common.{rules}
use Rattle.coap_core.proofs.known.put_acceptance.Goals as goal

pub returns-in-Con-clause-send : goal.returns-in-Con-clause-send
returns-in-Con-clause-send c = search rules
