use Rattle.std.proofs.Common.{◌≡◌, ◌||◌, false, rules, sym, ap, ◌∙◌}
use Rattle.std.specs.HashSet.{HashSet, contains}
use Rattle.coap_store.specs.Digested.{Digested, same_digested}
use Rattle.coap_store_lru.specs.declared.group.Group.{Group}
use Rattle.coap_store_lru.specs.Indexing.{has}
use Rattle.coap_store_lru.proofs.Groups.{same_digested-flips}
use Rattle.coap_store_lru.proofs.group.Group.add.Goals as goal

pub returns : goal.returns
returns g c =
    let key = c.args.key in
    let first = c.in-One.first in
    let copy : c.in_ok-first-in-One.first ≡ first = search rules in
    λ k. ap (λ (s : HashSet Digested _). contains same_digested s k) c.in_ok-new.ensures.ok
    ∙ c.in_ok-both.ensures k
    ∙ ap (λ (j : Digested). same_digested key k || (same_digested j k || false)) copy
    ∙ ap (λ b. same_digested key k || (b || false)) (same_digested-flips first k)
    ∙ ap (λ (held : Group _ _). same_digested key k || has held k) (sym c.in-One.is)
