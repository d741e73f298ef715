use Rattle.std.proofs.Common.{true, ◌∙◌}
use Rattle.std.specs.HashSet.{contains}
use Rattle.coap_store.specs.Digested.{same_digested}
use Rattle.coap_store_lru.proofs.Alike.{held-alike}
use Rattle.coap_store_lru.proofs.Groups.{put_in}
use Rattle.coap_store_lru.proofs.group.add.Goals as goal

pub returns : goal.returns
returns g c =
    λ k. held-alike c.args.keys.now c.insert.new.self c.args.key true c.in_ok-insert.ensures.updates.0 k
    ∙ put_in (same_digested c.args.key k) (contains same_digested c.args.keys.now k)
