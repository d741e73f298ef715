use Rattle.std.proofs.Common.{rules}
use Rattle.coap_port.proofs.turns.Drive.new.Goals as goal

pub returns-clause-input : goal.returns-clause-input
returns-clause-input c = search rules
