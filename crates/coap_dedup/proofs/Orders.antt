-- The order of keys and that of endpoints: in them only equal values compare as equal.
use Rattle.std.proofs.Common.{◌≡◌, ◌==◌, Bool, true, false, refl, sym, subst, ◌∙◌, eq-eqb}
use Rattle.std.specs.Ordering.{is_eq}
use Rattle.std.proofs.lemmas.Bool.{and_parts, and_from, eqb-true}
use Rattle.coap_endpoint.specs.declared.endpoint.Endpoint.{Endpoint}
use Rattle.coap_endpoint.specs.Endpoint.{same_endpoint}
use Rattle.coap_endpoint.specs.contracts.endpoint.EndpointOrd.TheImpl.Laws as endpoint_order
use Rattle.coap_endpoint.proofs.Equality.{Tells-endpoint}
use Rattle.coap_dedup.specs.contracts.key.KeyOrd.TheImpl.Laws as key_order
use Rattle.coap_dedup.specs.declared.key.Key.{Key}
use Rattle.coap_dedup.specs.Indexing.{key_cmp}
use Rattle.coap_dedup.specs.Keys.{same_key}
use Rattle.coap_dedup.specs.Sources.{is_same}

-- keys that the test finds the same are equal
pub same_key-only : (a b : Key) → same_key a b ≡ true → a ≡ b
same_key-only a b e =
    let parts = and_parts (same_endpoint a.from b.from) (a.id == b.id) e in
    let from : a.from ≡ b.from = Tells-endpoint.only a.from b.from parts.0 in
    let id : a.id ≡ b.id = eqb-true a.id b.id parts.1 in
    λ i. record { from = from i; id = id i }

-- and each is the same as itself
pub same_key-itself : (a : Key) → same_key a a ≡ true
same_key-itself a = and_from (same_endpoint a.from a.from) (a.id == a.id) (Tells-endpoint.itself a.from) (eq-eqb a.id a.id refl)

-- so the order and the test agree
pub is_eq-key_cmp : (a b : Key) → is_eq (key_cmp a b) ≡ same_key a b
is_eq-key_cmp a b = sym (key_order.matches_eq-law a b)

-- and so do those of endpoints
pub is_same-same_endpoint : (a b : Endpoint) → is_same a b ≡ same_endpoint a b
is_same-same_endpoint a b = sym (endpoint_order.matches_eq-law a b)

-- and the test is symmetric
pub same_key-flips : (a b : Key) → same_key a b ≡ same_key b a
same_key-flips a b = go (same_key a b) refl (same_key b a) refl
  where
    go : (s : Bool) → same_key a b ≡ s → (t : Bool) → same_key b a ≡ t → s ≡ t
    go true e true f = refl
    go false e false f = refl
    go true e false f = sym (subst (λ k. same_key k a ≡ true) (same_key-only a b e) (same_key-itself a)) ∙ f
    go false e true f = sym e ∙ subst (λ k. same_key k b ≡ true) (same_key-only b a f) (same_key-itself b)
