-- Timers, ids and exchanges used in the examples.
use Rattle.std.specs.Prelude.{ℕ, false, true, List, [], ◌∷◌, Option, Some, None}
use Rattle.coap_endpoint.specs.declared.endpoint.Endpoint.{Endpoint}
use Rattle.coap_endpoint.specs.declared.endpoint.Ip.TheVariants.{V4}
use Rattle.coap_store.specs.declared.key.CacheKey.{CacheKey}
use Rattle.coap_pending.specs.declared.exchange.Exchange.{Exchange}
use Rattle.coap_pending.specs.declared.exchange.ExchangeState.{ExchangeState}
use Rattle.coap_pending.specs.declared.exchange.ExchangeState.TheVariants.{Queued, Sent}
use Rattle.coap_pending.specs.declared.exchange.Sending.{Sending}
use Rattle.coap_pending.specs.declared.timer.Timer.{Timer}
use Rattle.coap_pending.specs.Timers.{started, fired}

-- the timer of a message first sent at 0 with this draw, and sent again at these moments
abbrev pub timer_after : ℕ → List ℕ → Timer
timer_after draw [] = started 0 draw
timer_after draw (now ∷ before) = fired now (timer_after draw before)

-- a client with this port
abbrev pub client : ℕ → Endpoint
client port = record { ip = V4 (127 ∷ 0 ∷ 0 ∷ 1 ∷ []); port = port }

-- an exchange that client 40001 opened at this moment
abbrev pub opened : CacheKey → ℕ → ExchangeState → Option Sending → Exchange
opened key now state sending =
    record {
      client = client 40001;
      key = key;
      is_get = true;
      form = [];
      copy = None;
      admitted = now;
      sending = sending;
      tainted = false;
      state = state;
    }

-- one whose request was sent at this moment, with the id 9
abbrev pub sent_at : CacheKey → ℕ → ℕ → Exchange
sent_at key admitted now =
    opened key admitted Sent (Some (record { asked = 1; id = 9; timer = started now 0 }))

abbrev pub queued : CacheKey → ℕ → Exchange
queued key now = opened key now Queued None

-- a queued exchange of another client
abbrev pub queued_for : Endpoint → CacheKey → ℕ → Exchange
queued_for at key now = record (queued key now) { client = at }

abbrev pub due : ℕ → ℕ → Option (ℕ × ℕ)
due at number = Some (at, number)
