use Rattle.std.proofs.Common.{rules}
use Rattle.coap_udp.proofs.waiting.read.Goals as goal

pub returns-then-not-branch-clause-reads : goal.returns-then-not-branch-clause-reads
returns-then-not-branch-clause-reads g c = search rules

pub returns-in_err-await_arrival-clause-reads : goal.returns-in_err-await_arrival-clause-reads
returns-in_err-await_arrival-clause-reads g c = search rules

pub returns-clause-reads : goal.returns-clause-reads
returns-clause-reads g c = search rules
