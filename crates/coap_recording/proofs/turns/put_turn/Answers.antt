use Rattle.std.proofs.Common.{rules}
use Rattle.coap_recording.proofs.turns.put_turn.Goals as goal

pub returns-in-Some-clause-line : goal.returns-in-Some-clause-line
returns-in-Some-clause-line c = search rules

pub returns-in-None-clause-line : goal.returns-in-None-clause-line
returns-in-None-clause-line c = search rules
