use Rattle.std.proofs.Common.{rules}
use Rattle.coap_store_lru.proofs.target_index.TargetIndex.group_of.Goals as goal

pub returns : goal.returns
returns g c = search rules
