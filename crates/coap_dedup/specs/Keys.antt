-- What identifies a message.
use Rattle.std.specs.Prelude.{◌≡◌, Bool, true, false, ◌==◌, ◌&&◌}
use Rattle.std.specs.declared.cmp.Ordering.{Ordering}
use Rattle.std.specs.Ordering.{flip_args, is_eq, nat_cmp, on, then_cmp}
use Rattle.std.specs.Cmp.{nat_eq_equiv, tied_then, unsigned_ties}
use Rattle.std.proofs.Common.{refl, ◌∙◌}
use Rattle.coap_endpoint.specs.contracts.endpoint.EndpointOrd.TheImpl as order
use Rattle.coap_endpoint.specs.contracts.endpoint.EndpointOrd.TheImpl.Laws as laws
use Rattle.coap_endpoint.specs.Endpoint.{same_endpoint}
use Rattle.coap_dedup.specs.declared.key.Key.{Key}
use Rattle.coap_dedup.specs.declared.record.Record.{Record}

-- the same endpoint and the same Message ID
abbrev pub same_key : Key → Key → Bool
same_key a b = same_endpoint a.from b.from && (a.id == b.id)

abbrev pub key_of : Record → Key
key_of r = record { from = r.from; id = r.id }

-- keys in the order of their Message IDs, the greatest first, and then of their endpoints
abbrev pub id_then_source : Key → Key → Ordering
id_then_source = then_cmp (on (λ k. k.id) (flip_args nat_cmp)) (on (λ k. k.from) (order.ghosts).cmp)

-- either of two facts may come first
swapped : (a b : Bool) → (a && b) ≡ (b && a)
swapped true true = refl
swapped true false = refl
swapped false true = refl
swapped false false = refl

-- keys are the same where neither is lower
pub keys_tied : (a b : Key) → same_key a b ≡ is_eq (id_then_source a b)
keys_tied a b =
    swapped (same_endpoint a.from b.from) (a.id == b.id)
    ∙ (λ i. nat_eq_equiv.symm a.id b.id i && same_endpoint a.from b.from)
    ∙ (λ i. unsigned_ties b.id a.id i && laws.matches_eq-law a.from b.from i)
    ∙ tied_then (nat_cmp b.id a.id) ((order.ghosts).cmp a.from b.from)
