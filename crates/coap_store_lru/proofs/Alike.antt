-- The derived comparison of keys with secrets compares them part by part.
use Rattle.std.proofs.Common.{◌≡◌, Bool, cond, rules, subst}
use Rattle.std.specs.HashSet.{HashSet, contains}
use Rattle.coap_store.specs.contracts.digested_key.DigestedKeyPartialEq.TheImpl as keys
use Rattle.coap_store.specs.Digested.{Digested, same_digested}

-- for two keys
keys-alike : (a b : Digested) → keys.ghosts.eq a b ≡ same_digested a b
keys-alike a b = search rules

-- so it is the comparison that a map of keys uses
pub key_eq : keys.ghosts.eq ≡ same_digested
key_eq = λ i a b. keys-alike a b i

-- what a set of keys contains after a change for one key
pub held-alike : {H : Type 0} (set new : HashSet Digested H) (key : Digested) (held : Bool)
    → ((k : Digested) → contains keys.ghosts.eq new k ≡ cond (keys.ghosts.eq key k) held (contains keys.ghosts.eq set k))
    → (k : Digested) → contains same_digested new k ≡ cond (same_digested key k) held (contains same_digested set k)
held-alike set new key held put = subst (λ (eq : Digested → Digested → Bool). (k : Digested) → contains eq new k ≡ cond (eq key k) held (contains eq set k)) key_eq put
