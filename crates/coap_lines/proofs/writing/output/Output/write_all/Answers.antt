use Rattle.std.proofs.Common.{rules}
use Rattle.coap_lines.proofs.writing.output.Output.write_all.Goals as goal

pub returns-clause-all : goal.returns-clause-all
returns-clause-all g c = search rules

pub returns-clause-failed : goal.returns-clause-failed
returns-clause-failed g c = search rules
