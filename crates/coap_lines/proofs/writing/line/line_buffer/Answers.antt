use Rattle.std.proofs.Common.{rules}
use Rattle.coap_lines.proofs.writing.line.line_buffer.Goals as goal

pub returns-clause-empty : goal.returns-clause-empty
returns-clause-empty c = search rules
