use Rattle.std.proofs.Common.{◌≡◌, ◌&&◌, ◌||◌, Bool, true, false, refl, sym, ap, subst, ◌∙◌}
use Rattle.std.specs.List.{IsDistinct}
use Rattle.coap_store.specs.Digested.{digested, same_digested}
use Rattle.coap_store_lru.specs.declared.group.Group.{Group}
use Rattle.coap_store_lru.specs.Indexing.{has, is_of, keys_in}
use Rattle.coap_store_lru.specs.Recent.{recent_of}
use Rattle.coap_store_lru.proofs.Groups.{distinct-one}
use Rattle.coap_store_lru.proofs.Marks.{map-same_marks}
use Rattle.coap_store_lru.proofs.lru_store.mark_group.Goals as goal

-- the key of a group with one key is that key
alone : (b : Bool) → b ≡ (b || false)
alone true = refl
alone false = refl

pub returns-in-One-clause-marked : goal.returns-in-One-clause-marked
returns-in-One-clause-marked g c =
    let secret = c.args.recent.now.secret in
    let of = is_of c.args.target.now in
    let only = c.in-One.key in
    let held : (k : _) → same_digested (digested secret k) only ≡ has c.args.group.now (digested secret k) = λ k. subst (λ (group : Group _ _). same_digested (digested secret k) only ≡ has group (digested secret k)) (sym c.in-One.is) (alone (same_digested (digested secret k) only)) in
    c.mark_of.ensures.marked
    ∙ ap (λ es. recent_of es secret) (map-same_marks (λ k. of k && same_digested (digested secret k) only) (λ k. of k && has c.args.group.now (digested secret k)) c.args.recent.now.entries (λ k. ap (λ (b : Bool). of k && b) (held k)))

pub returns-in-One-clause-distinct : goal.returns-in-One-clause-distinct
returns-in-One-clause-distinct g c = subst (λ (group : Group _ _). IsDistinct same_digested (keys_in group)) (sym c.in-One.is) (distinct-one c.in-One.key)
