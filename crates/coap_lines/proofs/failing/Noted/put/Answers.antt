use Rattle.std.proofs.Common.{rules}
use Rattle.coap_lines.proofs.failing.Noted.put.Goals as goal

pub returns-clause-failed : goal.returns-clause-failed
returns-clause-failed g c = search rules

pub returns-clause-interrupted : goal.returns-clause-interrupted
returns-clause-interrupted g c = search rules
