-- Keys that compare equal are equal, and have equal hashes.
use Rattle.std.specs.Prelude.{◌≡◌, ◌++◌, true, refl}
use Rattle.std.proofs.Common.{ap, subst}
use Rattle.std.proofs.lemmas.Bool.{and_from}
use Rattle.std.specs.Cmp.{IsEquivalence, decided, first_so, second_so}
use Rattle.std.specs.Hash.{HashWrites}
use Rattle.coap_message.specs.SameOptions.{fed_options, same_options, same_options-Decides}
use Rattle.coap_endpoint.specs.Alike.{target_itself, target_same}
use Rattle.coap_endpoint.specs.Equality.{same_target}
use Rattle.coap_endpoint.specs.Hashing.{fed_target}
use Rattle.coap_store.specs.declared.key.CacheKey.{CacheKey}
use Rattle.coap_store.specs.Keys.{same_key}

-- keys that compare equal are equal
pub same_key-only : (a b : CacheKey) → same_key a b ≡ true → a ≡ b
same_key-only a b e =
    let target = target_same a.target b.target (first_so _ _ e) in
    let options = (same_options-Decides a.options b.options).0 (second_so _ _ e) in
    λ i. record { target = target i; options = options i }

-- and a key compares equal to itself
pub same_key-itself : (a : CacheKey) → same_key a a ≡ true
same_key-itself a =
    and_from (same_target a.target a.target) (same_options a.options a.options)
    (target_itself a.target) ((same_options-Decides a.options a.options).1 refl)

-- so the test is an equivalence
pub keys_equiv : IsEquivalence same_key
keys_equiv = decided same_key
    (λ a b. (same_key-only a b, λ e. subst (λ x. same_key a x ≡ true) e (same_key-itself a)))

-- what a key feeds to a hasher: its target, and then its options
abbrev pub fed_key : CacheKey → HashWrites
fed_key k = fed_target k.target ++ fed_options k.options

-- equal keys feed a hasher the same
pub keys_fed : (a b : CacheKey) → same_key a b ≡ true → fed_key a ≡ fed_key b
keys_fed a b e = ap fed_key (same_key-only a b e)
