-- How many items of a table each client has: exchanges that it opened, or requests that wait.
use Rattle.std.specs.Prelude.{◌≡◌, ℕ, ◌≤◌, Bool, true, List, Option, Some, None}
use Rattle.coap_endpoint.specs.declared.endpoint.Endpoint.{Endpoint}
use Rattle.endpoint_counts.specs.Endpoints.{one_if_at, open_of}
use Rattle.endpoint_counts.specs.declared.slots.Entry.{Entry}
use Rattle.endpoint_counts.specs.Slots.{found}
use Rattle.coap_pending.specs.Table.{Numbered, Table, count}

-- no client has more items of a table than one client may have, given a function for whether an
-- item is a client's
abbrev pub AreWithin : {A : Type 0} → (Endpoint → A → Bool) → Table A → Type 0
AreWithin is_whose t = (client : Endpoint) → count (is_whose client) t.items ≤ t.per_client

-- ---- counts by client

-- items by client
abbrev pub Clients : Type 0
Clients = Table Entry

-- the count of a client: zero if it has no entry
abbrev pub count_of : Clients → Endpoint → ℕ
count_of counts client = open_of (found client counts.items)

-- the count of each client is the number of its items
abbrev pub AreOfClients :
    {A : Type 0} → (Endpoint → A → Bool) → List (Numbered A) → Clients → Type 0
AreOfClients is_whose items counts =
    (client : Endpoint) → count_of counts client ≡ count (is_whose client) items

-- one for the client, if there is one, else zero
abbrev pub one_of : Option Endpoint → Endpoint → ℕ
one_of None e = 0
one_of (Some client) e = one_if_at true client e
