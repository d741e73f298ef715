-- Values that compare as equal, part by part, are equal.
use Rattle.std.proofs.Common.{◌≡◌, ◌&&◌, Bool, true, nat_eq, List, [], ◌∷◌, refl, subst, ◌↔◌, eq-eqb}
use Rattle.std.specs.Cmp.Lexicographic.{pointwise}
use Rattle.std.proofs.lemmas.Bool.{and_parts, and_from, eqb-true}
use Rattle.coap_endpoint.specs.Alike.{endpoint_itself, endpoint_same, ip_itself, ip_same, target_itself, target_same}
use Rattle.coap_endpoint.specs.Endpoint.{same_ip, same_endpoint}
use Rattle.coap_endpoint.specs.Equality.{same_bytes, same_parts, same_target}

-- a test that is true of equal values, and of nothing else
pub record Tells {A : Type 0} (same : A → A → Bool) : Type 0 where
  pub only : (a b : A) → same a b ≡ true → a ≡ b
  pub itself : (a : A) → same a a ≡ true

-- so it decides equality
pub Tells-both : {A : Type 0} (same : A → A → Bool) → Tells same → (a b : A) → (same a b ≡ true) ↔ (a ≡ b)
Tells-both same tells a b = (tells.only a b, λ e. subst (λ x. same a x ≡ true) e (tells.itself a))

-- for numbers
Tells-nat : Tells nat_eq
Tells-nat = record { only = λ a b e. eqb-true a b e; itself = λ a. eq-eqb a a refl }

-- for lists, item by item
pointwise-only : {A : Type 0} (same : A → A → Bool) → Tells same → (a b : List A) → pointwise same a b ≡ true → a ≡ b
pointwise-only same tells [] [] e = refl
pointwise-only same tells [] (y ∷ b) e = absurd cc
pointwise-only same tells (x ∷ a) [] e = absurd cc
pointwise-only same tells (x ∷ a) (y ∷ b) e =
    let parts = and_parts (same x y) (pointwise same a b) e in
    let head : x ≡ y = tells.only x y parts.0 in
    let tail : a ≡ b = pointwise-only same tells a b parts.1 in
    cc

-- a list compares as equal to itself
pointwise-itself : {A : Type 0} (same : A → A → Bool) → Tells same → (a : List A) → pointwise same a a ≡ true
pointwise-itself same tells [] = refl
pointwise-itself same tells (x ∷ a) = and_from (same x x) (pointwise same a a) (tells.itself x) (pointwise-itself same tells a)

-- so a test of items gives a test of lists
Tells-pointwise : {A : Type 0} (same : A → A → Bool) → Tells same → Tells (pointwise same)
Tells-pointwise same tells = record { only = pointwise-only same tells; itself = pointwise-itself same tells }

-- for bytes
pub Tells-bytes : Tells same_bytes
Tells-bytes = Tells-pointwise nat_eq Tells-nat

-- for lists of bytes
pub Tells-parts : Tells same_parts
Tells-parts = Tells-pointwise same_bytes Tells-bytes

-- for addresses
pub Tells-ip : Tells same_ip
Tells-ip = record { only = ip_same; itself = ip_itself }

-- for endpoints
pub Tells-endpoint : Tells same_endpoint
Tells-endpoint = record { only = endpoint_same; itself = endpoint_itself }

-- a conjunction of four tests gives each of them
pub four : (p q r s : Bool) → (p && (q && (r && s))) ≡ true → (p ≡ true) × (q ≡ true) × (r ≡ true) × (s ≡ true)
four p q r s e =
    let first = and_parts p (q && (r && s)) e in
    let second = and_parts q (r && s) first.1 in
    let third = and_parts r s second.1 in
    (first.0, second.0, third.0, third.1)

-- and four tests give their conjunction
pub of_four : (p q r s : Bool) → p ≡ true → q ≡ true → r ≡ true → s ≡ true → (p && (q && (r && s))) ≡ true
of_four p q r s a b c d = and_from p (q && (r && s)) a (and_from q (r && s) b (and_from r s c d))

-- for targets
pub Tells-target : Tells same_target
Tells-target = record { only = target_same; itself = target_itself }
