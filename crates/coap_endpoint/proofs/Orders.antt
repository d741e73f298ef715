-- The orders of addresses and endpoints: in them only equal values compare as equal.
use Rattle.std.proofs.Common.{◌≡◌, ℕ, List, [], ◌∷◌, refl, sym}
use Rattle.std.specs.declared.cmp.Ordering.{Ordering}
use Rattle.std.specs.declared.cmp.Ordering.TheVariants.{Less, Equal, Greater}
use Rattle.std.specs.Ordering.{nat_cmp, ordering_then}
use Rattle.std.specs.Cmp.Lexicographic.{slice_cmp}
use Rattle.std.proofs.lemmas.Cmp.{ranked, tied_itself, nat_cmp_total}
use Rattle.coap_endpoint.specs.declared.endpoint.Endpoint.{Endpoint}
use Rattle.coap_endpoint.specs.declared.endpoint.Ip.{Ip}
use Rattle.coap_endpoint.specs.contracts.endpoint.IpOrd.TheImpl as ips
use Rattle.coap_endpoint.specs.contracts.endpoint.EndpointOrd.TheImpl as endpoints

-- the order of addresses
abbrev ip_cmp : Ip → Ip → Ordering
ip_cmp = (ips.ghosts).cmp

-- the order of endpoints
abbrev pub endpoint_cmp : Endpoint → Endpoint → Ordering
endpoint_cmp = (endpoints.ghosts).cmp

-- an order in which equal values, and no others, compare as equal
pub record Ranks {A : Type 0} (cmp : A → A → Ordering) : Type 0 where
  pub only : (a b : A) → cmp a b ≡ Equal → a ≡ b
  pub itself : (a : A) → cmp a a ≡ Equal

-- two comparisons in turn give `Equal` only if both do
then-parts : (x y : Ordering) → ordering_then x y ≡ Equal → (x ≡ Equal) × (y ≡ Equal)
then-parts Less y e = absurd cc
then-parts Equal y e = (refl, e)
then-parts Greater y e = absurd cc

-- and they do if both do
then-both : (x y : Ordering) → x ≡ Equal → y ≡ Equal → ordering_then x y ≡ Equal
then-both x y e f = rw (e, f) refl

-- values that are compared part by part, one part after the other
module _ {A B C : Type 0} (f : A → B) (g : A → C) (P : B → B → Ordering) (Q : C → C → Ordering) where
  -- the comparison of both parts
  abbrev pub in_turn : A → A → Ordering
  in_turn a b = ordering_then (P (f a) (f b)) (Q (g a) (g b))

  -- it is such an order if those of the parts are, and if equal parts make equal values
  pub Ranks-in_turn : Ranks P → Ranks Q → ((a b : A) → f a ≡ f b → g a ≡ g b → a ≡ b) → Ranks in_turn
  Ranks-in_turn p q whole = record {
    only = λ a b e. let parts = then-parts (P (f a) (f b)) (Q (g a) (g b)) e in whole a b (p.only (f a) (f b) parts.0) (q.only (g a) (g b) parts.1);
    itself = λ a. then-both (P (f a) (f a)) (Q (g a) (g a)) (p.itself (f a)) (q.itself (g a));
  }

-- for numbers
pub Ranks-nat : Ranks nat_cmp
Ranks-nat = record { only = λ a b e. ranked a b Equal (sym e); itself = λ a. tied_itself nat_cmp_total a }

-- lists of numbers that compare as equal are equal
list-only : (a b : List ℕ) → slice_cmp nat_cmp a b ≡ Equal → a ≡ b
list-only [] [] e = refl
list-only [] (y ∷ b) e = absurd cc
list-only (x ∷ a) [] e = absurd cc
list-only (x ∷ a) (y ∷ b) e =
    let parts = then-parts (nat_cmp x y) (slice_cmp nat_cmp a b) e in
    let head : x ≡ y = Ranks-nat.only x y parts.0 in
    let tail : a ≡ b = list-only a b parts.1 in
    cc

-- and each compares as equal to itself
list-itself : (a : List ℕ) → slice_cmp nat_cmp a a ≡ Equal
list-itself [] = refl
list-itself (x ∷ a) = then-both (nat_cmp x x) (slice_cmp nat_cmp a a) (Ranks-nat.itself x) (list-itself a)
