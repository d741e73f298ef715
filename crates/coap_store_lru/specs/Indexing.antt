-- The keys of a store's entries, in groups by the digests of their targets.
use Rattle.std.specs.Prelude.{◌≡◌, ◌≢◌, ◌==◌, ◌&&◌, ℕ, Bool, true, false, if◌then◌else◌, nat_eq, List, [], ◌∷◌, length, map}
use Rattle.std.specs.List.{list_any}
use Rattle.std.specs.Option.{ForSome, option_map_or}
use Rattle.std.specs.HashMap.{HashMap, get}
use Rattle.coap_endpoint.specs.declared.target.Target.{Target}
use Rattle.coap_endpoint.specs.Equality.{same_target}
use Rattle.coap_store.specs.declared.key.CacheKey.{CacheKey}
use Rattle.coap_store.specs.Digested.{Digested, digested, same_digested}
use Rattle.coap_store.specs.Digests.{digest_of_target}
use Rattle.coap_store.specs.Entries.{Entry, entry_key, entry_size}
use Rattle.coap_store.specs.Keys.{same_key}
use Rattle.coap_store.specs.Lists.{are_distinct, total}
use Rattle.coap_store_lru.specs.declared.group.Group.{Group}
use Rattle.coap_store_lru.specs.declared.group.Group.TheVariants.{One, Several}

-- the keys in a group, for a hasher H that makes a J for each key
abbrev pub keys_in : {H J : Type 0} → Group H J → List Digested
keys_in (One key) = key ∷ []
keys_in (Several keys) = keys.value.keys

-- the group contains this key
abbrev pub has : {H J : Type 0} → Group H J → Digested → Bool
has group key = list_any (same_digested key) (keys_in group)

-- groups of keys, by digest
abbrev pub Groups : Type 0 → Type 0 → Type 0 → Type 0
Groups H J S = HashMap ℕ (Group H J) S

-- the group of a digest contains this key
abbrev pub in_group : {H J S : Type 0} → Groups H J S → ℕ → Digested → Bool
in_group groups at key = option_map_or (λ group. has group key) (get nat_eq groups at) false

-- the group of the digest of its own target contains the key, with this secret
abbrev pub is_indexed : {H J S : Type 0} → ℕ → Groups H J S → CacheKey → Bool
is_indexed secret groups key =
    in_group groups (digest_of_target secret key.target) (digested secret key)

-- the group of a digest, if there is one, contains a key
abbrev pub IsFilled : {H J S : Type 0} → Groups H J S → ℕ → Type 0
IsFilled groups at = ForSome (get nat_eq groups at) (λ group. length (keys_in group) ≢ 0)

-- every group contains a key: a group is removed with its last key
abbrev pub AreFilled : {H J S : Type 0} → Groups H J S → Type 0
AreFilled groups = (at : ℕ) → IsFilled groups at

-- the key has this target
abbrev pub is_of : Target → CacheKey → Bool
is_of target key = same_target key.target target

-- the key has this target, and its digests are of this secret
abbrev pub is_own : ℕ → Target → Digested → Bool
is_own secret target key = (key.secret == secret) && is_of target key.key

-- there is an entry with the key
abbrev pub is_held : List Entry → CacheKey → Bool
is_held entries key = list_any (same_key key) (map entry_key entries)

-- an entry, marked if its key passes a test
abbrev pub marked_by : (CacheKey → Bool) → Entry → Entry
marked_by test entry = if test entry.0 then (entry.0, record entry.1 { marked = true }) else entry

-- The total and the indexed keys are those of the entries: each key that has an entry is indexed,
-- and no other key is.
pub record AreThoseOf (entries : List Entry) (bytes : ℕ) (indexed : CacheKey → Bool)
    : Type 0 where
  pub distinct : are_distinct entry_key entries ≡ true
  pub counted : bytes ≡ total entry_size entries
  pub indexed_are : (key : CacheKey) → indexed key ≡ is_held entries key
