-- What compares as equal, part by part, is equal.
use Rattle.std.proofs.Common.{◌≡◌, true}
use Rattle.std.proofs.lemmas.Bool.{and_parts, and_from}
use Rattle.coap_message.specs.SameOptions.{same_options, same_options-Decides}
use Rattle.coap_endpoint.specs.Equality.{same_target}
use Rattle.coap_endpoint.proofs.Equality.{Tells, Tells-target, Tells-both}
use Rattle.coap_store.specs.declared.key.CacheKey.{CacheKey}
use Rattle.coap_store.specs.Alike.{same_key-itself, same_key-only}
use Rattle.coap_store.specs.Keys.{same_key}

-- two keys that compare as equal have equal parts
pub same_key-parts : (a b : CacheKey) → same_key a b ≡ true → (a.target ≡ b.target) × (a.options ≡ b.options)
same_key-parts a b e =
    let parts = and_parts (same_target a.target b.target) (same_options a.options b.options) e in
    (Tells-target.only a.target b.target parts.0, (same_options-Decides a.options b.options).0 parts.1)

-- and keys with equal parts compare as equal
pub parts-same_key : (a b : CacheKey) → (a.target ≡ b.target) × (a.options ≡ b.options) → same_key a b ≡ true
parts-same_key a b e =
    and_from (same_target a.target b.target) (same_options a.options b.options) ((Tells-both same_target Tells-target a.target b.target).1 e.0)
    ((same_options-Decides a.options b.options).1 e.1)

-- so comparing keys tells whether they are equal
pub Tells-key : Tells same_key
Tells-key = record { only = same_key-only; itself = same_key-itself }
