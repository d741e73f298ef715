use Rattle.std.proofs.Common.{rules}
use Rattle.coap_lines.proofs.reading.input.Input.next_line.Goals as goal

pub returns-clause-failed : goal.returns-clause-failed
returns-clause-failed g c = search rules

pub returns-clause-read : goal.returns-clause-read
returns-clause-read g c = search rules
