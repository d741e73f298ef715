-- The entries of a store: keys with stored responses.
use Rattle.std.specs.Prelude.{◌≡◌, ℕ, ◌≤◌, Bool, true, false, if◌then◌else◌, List, Option, length}
use Rattle.std.specs.Option.{option_map, option_map_or}
use Rattle.coap_endpoint.specs.declared.target.Target.{Target}
use Rattle.coap_endpoint.specs.Equality.{same_target}
use Rattle.coap_store.specs.declared.key.CacheKey.{CacheKey}
use Rattle.coap_store.specs.declared.stored.Stored.{Stored}
use Rattle.coap_store.specs.Freshness.{is_usable}
use Rattle.coap_store.specs.Lists.{are_distinct, of_key, total}
use Rattle.coap_store.specs.Sizes.{size_of}

abbrev pub Entry : Type 0
Entry = CacheKey × Stored

abbrev pub entry_key : Entry → CacheKey
entry_key entry = entry.0

abbrev pub entry_size : Entry → ℕ
entry_size entry = size_of entry.0 entry.1

-- what is stored for a key
abbrev pub stored_for : CacheKey → List Entry → Option Stored
stored_for key entries = option_map (λ entry. entry.1) (of_key entry_key key entries)

-- the entry of a key may answer a request at this moment
abbrev pub has_usable : CacheKey → ℕ → List Entry → Bool
has_usable key now entries =
    option_map_or (λ entry. is_usable now entry.1) (of_key entry_key key entries) false

-- the entry is for this target
abbrev pub is_for : Target → Entry → Bool
is_for target entry = same_target entry.0.target target

-- a change of the target marks its entries, which then no longer answer requests (RFC 7252, 5.9.1)
abbrev pub marked : Target → Entry → Entry
marked target entry =
    if is_for target entry then (entry.0, record entry.1 { marked = true }) else entry

-- the most that a store keeps: bytes, as they are counted, and entries
pub record Limits : Type 0 where
  pub bytes : ℕ
  pub entries : ℕ

-- a store stays within its limits, and keeps at most one response for a key
pub record IsStore (limits : Limits) (entries : List Entry) : Type 0 where
  pub distinct : are_distinct entry_key entries ≡ true
  pub within_bytes : total entry_size entries ≤ limits.bytes
  pub within_entries : length entries ≤ limits.entries
