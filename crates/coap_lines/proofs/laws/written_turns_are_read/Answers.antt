use Rattle.coap_lines.proofs.WrittenTurns.{read-again}
use Rattle.coap_lines.proofs.laws.written_turns_are_read.Goals as goal

pub returns : goal.returns
returns c = read-again
