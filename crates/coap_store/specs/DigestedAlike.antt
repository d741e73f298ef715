-- Cache keys with secrets that compare equal are equal, and have equal hashes.
use Rattle.std.specs.Prelude.{◌≡◌, ◌==◌, true, refl}
use Rattle.std.proofs.Common.{ap, subst}
use Rattle.std.proofs.lemmas.Bool.{and_from, eq-eqb, eqb-true}
use Rattle.std.specs.Cmp.{IsEquivalence, decided, first_so, second_so}
use Rattle.coap_store.specs.Alike.{same_key-itself, same_key-only}
use Rattle.coap_store.specs.Digested.{Digested, fed_digested, same_digested}
use Rattle.coap_store.specs.Keys.{same_key}

-- keys with secrets that compare equal are equal
pub same_digested-only : (a b : Digested) → same_digested a b ≡ true → a ≡ b
same_digested-only a b e =
    let secret = eqb-true a.secret b.secret (first_so _ _ e) in
    let key = same_key-only a.key b.key (second_so _ _ e) in
    λ i. record { key = key i; secret = secret i }

-- and one compares equal to itself
pub same_digested-itself : (a : Digested) → same_digested a a ≡ true
same_digested-itself a =
    and_from (a.secret == a.secret) (same_key a.key a.key) (eq-eqb a.secret a.secret refl)
    (same_key-itself a.key)

-- so the test is an equivalence
pub digested_equiv : IsEquivalence same_digested
digested_equiv = decided same_digested
    (λ a b. (
      same_digested-only a b,
      λ e. subst (λ x. same_digested a x ≡ true) e (same_digested-itself a),
    ))

-- equal ones feed a hasher the same
pub digested_fed : (a b : Digested) → same_digested a b ≡ true → fed_digested a ≡ fed_digested b
digested_fed a b e = ap fed_digested (same_digested-only a b e)
