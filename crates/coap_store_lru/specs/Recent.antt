-- What an LRU map of keys with digests holds.
use Rattle.std.specs.Prelude.{◌≡◌, ℕ, List}
use Rattle.std.specs.List.{AllByRecursion}
use Rattle.coap_store.specs.declared.stored.Stored.{Stored}
use Rattle.coap_store.specs.Digested.{Digested}
use Rattle.coap_store.specs.Entries.{Entry}

-- the entries, the most recently used first, and the secret of their digests
pub record Recent : Type 0 where
  pub entries : List Entry
  pub secret : ℕ

abbrev pub recent_of : List Entry → ℕ → Recent
recent_of entries secret = record { entries = entries; secret = secret }

-- a key with a secret, and what is stored for it
abbrev pub DigestedEntry : Type 0
DigestedEntry = Digested × Stored

-- the entry without the secret
abbrev pub shown : DigestedEntry → Entry
shown entry = (entry.0.key, entry.1)

-- the digests of all keys were made with this secret
abbrev pub AreOf : ℕ → List DigestedEntry → Type 0
AreOf secret entries = AllByRecursion (λ entry. entry.0.secret ≡ secret) entries
