-- What is counted for each endpoint.
use Rattle.std.specs.Prelude.{ℕ, ◌&&◌, Bool, if◌then◌else◌, Option, Some, None}
use Rattle.coap_endpoint.specs.declared.endpoint.Endpoint.{Endpoint}
use Rattle.coap_endpoint.specs.Endpoint.{same_endpoint}
use Rattle.endpoint_counts.specs.declared.endpoints.EndpointCounts.{EndpointCounts}
use Rattle.endpoint_counts.specs.declared.slots.Entry.{Entry}
use Rattle.endpoint_counts.specs.Slots.{found}
use Rattle.coap_pending.specs.Table.{Table}

-- endpoints are equal
abbrev pub is_one : Endpoint → Endpoint → Bool
is_one a b = same_endpoint a b

-- what is counted, by endpoint
abbrev pub Endpoints : Type 0
Endpoints = Table Entry

abbrev pub open_of : Option EndpointCounts → ℕ
open_of None = 0
open_of (Some counts) = counts.all

abbrev pub sent_of : Option EndpointCounts → ℕ
sent_of None = 0
sent_of (Some counts) = counts.sent

abbrev pub queued_of : Option EndpointCounts → ℕ
queued_of None = 0
queued_of (Some counts) = counts.queued

-- the exchanges with an endpoint, how many of them are sent, and how many are queued: all zero if
-- the endpoint has no entry
abbrev pub open_in : Endpoints → Endpoint → ℕ
open_in endpoints at = open_of (found at endpoints.items)

abbrev pub sent_in : Endpoints → Endpoint → ℕ
sent_in endpoints at = sent_of (found at endpoints.items)

abbrev pub queued_in : Endpoints → Endpoint → ℕ
queued_in endpoints at = queued_of (found at endpoints.items)

-- one if it counts and the endpoint is this one, else zero
abbrev pub one_if_at : Bool → Endpoint → Endpoint → ℕ
one_if_at counts at e = if counts && is_one at e then 1 else 0
