-- Entries in numbered places: what is counted for an endpoint, and where an endpoint's entry is.
use Rattle.std.specs.Prelude.{◌≡◌, ℕ, suc, ◌<◌, Bool, true, if◌then◌else◌, List, [], ◌∷◌, length, map, Option, Some, None}
use Rattle.coap_endpoint.specs.declared.endpoint.Endpoint.{Endpoint}
use Rattle.coap_endpoint.specs.Endpoint.{same_endpoint}
use Rattle.endpoint_counts.specs.declared.endpoints.EndpointCounts.{EndpointCounts}
use Rattle.endpoint_counts.specs.declared.slots.Entry.{Entry}
use Rattle.endpoint_counts.specs.Digests.{digest_of_endpoint}
use Rattle.coap_pending.specs.Table.{Numbered, Table, item_at}

-- the items numbered one by one, from the number after this one on
abbrev pub numbered : {A : Type 0} → ℕ → List A → List (Numbered A)
numbered before [] = []
numbered before (x ∷ xs) = (suc before, x) ∷ numbered (suc before) xs

abbrev pub slots_of : List Entry → ℕ → Table Entry
slots_of entries limit =
    record {
      items = numbered 0 entries;
      limit = limit;
      per_client = 0;
      admitted = length entries;
      seed = 0;
    }

-- the places are numbered from 1 on, without a gap
abbrev pub AreGapless : {A : Type 0} → List (Numbered A) → Type 0
AreGapless items = items ≡ numbered 0 (map (λ x. x.1) items)

-- the entry is of this endpoint
abbrev pub is_entry_of : Endpoint → Entry → Bool
is_entry_of at entry = same_endpoint entry.peer at

-- what is counted for an endpoint, if it has an entry
abbrev pub found : Endpoint → List (Numbered Entry) → Option EndpointCounts
found at [] = None
found at (x ∷ xs) = if is_entry_of at x.1 then Some x.1.counts else found at xs

-- no endpoint has two entries
abbrev pub AreDistinct : List (Numbered Entry) → Type 0
AreDistinct entries =
    (n m : ℕ) (x y : Entry)
    → item_at n entries ≡ Some x
    → item_at m entries ≡ Some y
    → same_endpoint x.peer y.peer ≡ true
    → n ≡ m

-- an entry is looked up by the digest of its endpoint
abbrev pub entry_key : Entry → Option ℕ
entry_key entry = Some (digest_of_endpoint entry.peer)

-- something is counted in each entry
abbrev pub AreSome : List (Numbered Entry) → Type 0
AreSome entries = (n : ℕ) (x : Entry) → item_at n entries ≡ Some x → 0 < x.counts.all
