use Rattle.std.proofs.Common.{false, ◌∙◌}
use Rattle.std.specs.HashSet.{contains}
use Rattle.coap_store.specs.Digested.{same_digested}
use Rattle.coap_store_lru.proofs.Alike.{held-alike}
use Rattle.coap_store_lru.proofs.Groups.{taken_out}
use Rattle.coap_store_lru.proofs.group.delete.Goals as goal

pub returns-clause-left : goal.returns-clause-left
returns-clause-left g c =
    λ k. held-alike c.args.keys.now c.remove.new.self c.args.key.now false c.remove.ensures.updates.0 k
    ∙ taken_out (same_digested c.args.key.now k) (contains same_digested c.args.keys.now k)

pub returns-clause-empty : goal.returns-clause-empty
returns-clause-empty g c = c.is_empty.ensures
