use Rattle.std.proofs.Common.{◌≡◌, ◌&&◌, ◌||◌, is_ok, ap, ◌∙◌}
use Rattle.coap_store.specs.Digested.{Digested, same_digested}
use Rattle.coap_store.specs.Digests.{digests_of}
use Rattle.coap_store_lru.specs.Indexing.{in_group}
use Rattle.coap_store_lru.proofs.Groups.{is_indexed-changed, none_added}
use Rattle.coap_store_lru.proofs.target_index.TargetIndex.insert.Goals as goal

pub returns-clause-more : goal.returns-clause-more
returns-clause-more g c =
    let self = c.args.self.now in
    let key = c.args.key.now in
    let at = c.digests-at.result.target in
    let new = c.enter.new.groups in
    let added = is_ok c.enter.result in
    let changed : (k : Digested) → in_group new at k ≡ ((added && same_digested key k) || in_group self.groups at k) =
    λ k. c.enter.ensures.more k ∙ ap (λ (j : Digested). (added && same_digested j k) || in_group self.groups at k) c.in_ok-copy.ensures in
    is_indexed-changed self.groups new at c.enter.ensures.others self.secret key (λ p b. (added && p) || b) c.requires.own
    (ap (λ d. d.target) c.digests-at.ensures ∙ ap (λ t. (digests_of t key.key).target) c.requires.own) (none_added added) changed
