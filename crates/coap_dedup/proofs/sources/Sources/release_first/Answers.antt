use Rattle.std.proofs.Common.{rules}
use Rattle.coap_dedup.proofs.sources.Sources.release_first.Goals as goal

pub returns-then-shrink-clause-shares : goal.returns-then-shrink-clause-shares
returns-then-shrink-clause-shares c = search rules

pub returns-else-shrink-clause-shares : goal.returns-else-shrink-clause-shares
returns-else-shrink-clause-shares c = search rules
