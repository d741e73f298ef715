-- Tables and moments of the examples.
use Rattle.std.specs.Prelude.{ℕ, List, [], ◌∷◌, None}
use Rattle.coap_endpoint.specs.declared.endpoint.Endpoint.{Endpoint}
use Rattle.coap_endpoint.specs.declared.endpoint.Ip.{Ip}
use Rattle.coap_endpoint.specs.declared.endpoint.Ip.TheVariants.{V4}
use Rattle.coap_core.specs.Holders.{Holders}

-- 192.0.2.N
abbrev pub address : ℕ → Ip
address n = V4 (192 ∷ 0 ∷ 2 ∷ n ∷ [])

abbrev pub client : ℕ → ℕ → Endpoint
client n port = record { ip = address n; port = port }

-- whose the eleven items of a table are: of three addresses
abbrev pub eleven_items : List Endpoint
eleven_items =
    client 1 5683 ∷ client 2 61 ∷ client 3 7 ∷ client 2 61 ∷ client 1 5684
    ∷ client 2 61 ∷ client 3 8 ∷ client 1 5683 ∷ client 2 61 ∷ client 1 9
    ∷ client 2 61 ∷ []

-- nobody was found yet, nobody is looked for before this moment, and so many items can be counted
abbrev pub before : ℕ → ℕ → Holders
before next room = record {
  room = room;
  next = next;
  con_records = None;
  non_records = None;
  exchanges = None;
  waiters = None;
}
