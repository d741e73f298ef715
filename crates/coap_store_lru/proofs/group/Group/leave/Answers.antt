use Rattle.std.proofs.Common.{◌≡◌, ◌&&◌, ◌||◌, false, not, rules, sym, ap, ◌∙◌}
use Rattle.coap_store.specs.Digested.{same_digested}
use Rattle.coap_store_lru.specs.declared.group.Group.{Group}
use Rattle.coap_store_lru.specs.Indexing.{has}
use Rattle.coap_store_lru.proofs.Groups.{only-left}
use Rattle.coap_store_lru.proofs.group.Group.leave.Goals as goal

pub returns-in-One-clause-left : goal.returns-in-One-clause-left
returns-in-One-clause-left g c =
    let key = c.args.key.now in
    let only = c.in-One.only in
    let is : c.eq.result ≡ same_digested only key = search rules in
    λ k. ap (λ b. not b && (same_digested k only || false)) is
    ∙ only-left only key k
    ∙ ap (λ (held : Group _ _). not (same_digested key k) && has held k) (sym c.in-One.is)
