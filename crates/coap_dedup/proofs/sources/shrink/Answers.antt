use Rattle.std.proofs.Common.{rules}
use Rattle.coap_dedup.proofs.sources.shrink.Goals as goal

pub returns-else-share-le1-clause-left : goal.returns-else-share-le1-clause-left
returns-else-share-le1-clause-left c = search rules
