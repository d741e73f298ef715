-- What a store evicts to make room for a new entry.
use Rattle.std.specs.Prelude.{ℕ, ◌+◌, ◌-◌, ◌&&◌, nat_le, min, if◌then◌else◌, List, [], ◌∷◌, length, count_by}
use Rattle.coap_store.specs.declared.evictions.Evictions.{Evictions}
use Rattle.coap_store.specs.Entries.{Entry, Limits, entry_key, entry_size}
use Rattle.coap_store.specs.Freshness.{is_fresh}
use Rattle.coap_store.specs.Lists.{others}

-- the elements behind those that fit within the limits, in order: what `cut` drops
abbrev pub beyond : {X : Type 0} → (X → ℕ) → ℕ → ℕ → List X → List X
beyond size bytes count [] = []
beyond size bytes count (x ∷ xs) =
    if nat_le (size x) bytes && nat_le 1 count
    then beyond size (bytes - size x) (count - 1) xs
    else x ∷ xs

-- the entries that a new one evicts: those for which there is no room behind it. In a store with
-- room for no entries, that is the new one itself.
abbrev pub evicted_for : Limits → Entry → List Entry → List Entry
evicted_for limits entry entries =
    beyond entry_size limits.bytes limits.entries (entry ∷ others entry_key entry.0 entries)

-- how many they are, and how many of them are fresh at this moment
abbrev pub evictions_of : ℕ → List Entry → Evictions
evictions_of now entries =
    record { entries = length entries; fresh = count_by (λ entry. is_fresh now entry.1) entries }

abbrev pub no_evictions : Evictions
no_evictions = record { entries = 0; fresh = 0 }

-- further ones are added, up to 2^64 - 1
abbrev pub with_evictions : Evictions → Evictions → Evictions
with_evictions more n = record {
  entries = min (n.entries + more.entries) 18446744073709551615;
  fresh = min (n.fresh + more.fresh) 18446744073709551615;
}

-- a new entry came, which evicts these
abbrev pub after_put : Limits → Entry → List Entry → Evictions → Evictions
after_put limits entry entries n =
    with_evictions (evictions_of entry.1.got (evicted_for limits entry entries)) n
