use Rattle.std.proofs.Common.{rules}
use Rattle.coap_dedup.proofs.sources.Sources.add.Goals as goal

pub returns-clause-nexts : goal.returns-clause-nexts
returns-clause-nexts c = search rules

pub grow-requires : goal.grow-requires
grow-requires c = search rules

pub returns-clause-shares : goal.returns-clause-shares
returns-clause-shares c = search rules
