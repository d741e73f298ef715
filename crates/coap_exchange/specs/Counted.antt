-- The number of exchanges with each endpoint.
use Rattle.std.specs.Prelude.{◌≡◌, ℕ, ◌+◌, Bool, if◌then◌else◌, List, Option}
use Rattle.coap_endpoint.specs.declared.endpoint.Endpoint.{Endpoint}
use Rattle.coap_pending.specs.declared.exchange.Exchange.{Exchange}
use Rattle.coap_pending.specs.Exchanges.{is_sent_to, is_queued_to, is_with}
use Rattle.endpoint_counts.specs.Endpoints.{Endpoints, open_in, queued_in, sent_in}
use Rattle.endpoint_counts.specs.declared.slots.Entry.{Entry}
use Rattle.ordered_index.specs.Ordered.{OrderedIndex}
use Rattle.coap_pending.specs.Table.{Numbered, Table, count, passes}
use Rattle.coap_exchange.specs.declared.index.Index.{Index}
use Rattle.coap_exchange.specs.Index.{IsSpread}

-- the counts for each endpoint are the true numbers of exchanges with it
pub record AreCounted (exchanges : List (Numbered Exchange)) (endpoints : Endpoints) : Type 0 where
  pub all : (e : Endpoint) → open_in endpoints e ≡ count (is_with e) exchanges
  pub sent : (e : Endpoint) → sent_in endpoints e ≡ count (is_sent_to e) exchanges
  pub queued : (e : Endpoint) → queued_in endpoints e ≡ count (is_queued_to e) exchanges

-- what is counted by endpoint follows, where an exchange was one thing, and is another or is gone
abbrev pub IsRecounted :
    (Endpoint → Exchange → Bool)
    → (Endpoint → ℕ)
    → (Endpoint → ℕ)
    → Option Exchange
    → Option Exchange
    → Type 0
IsRecounted counts old new was is =
    (e : Endpoint)
    → new e + (if passes (counts e) was then 1 else 0)
    ≡ old e + (if passes (counts e) is then 1 else 0)

-- heads, counts by endpoint and counts by client have room for as many as there may be exchanges
pub record HaveRoom (limit : ℕ) (heads : OrderedIndex) (endpoints clients : Table Entry)
    : Type 0 where
  pub for_heads : heads.limit ≡ limit
  pub for_endpoints : endpoints.limit ≡ limit
  pub for_clients : clients.limit ≡ limit

-- counts by endpoint and by client are spread by this seed, and so is what exchanges are looked up by
pub record AreSpread (seed : ℕ) (index : Index) (endpoints clients : Table Entry) : Type 0 where
  pub for_index : IsSpread seed index
  pub for_endpoints : endpoints.seed ≡ seed
  pub for_clients : clients.seed ≡ seed
