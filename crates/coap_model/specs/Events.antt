-- The input events of a proxy.
use Rattle.std.specs.Prelude.{ℕ, List, Option, Some, None}
use Rattle.coap_message.specs.Uint.{IsBytes}
use Rattle.coap_endpoint.specs.declared.endpoint.Endpoint.{Endpoint}

-- a datagram with its source, or a tick
pub data Event : Type 0 where
  arrival : Endpoint → List ℕ → Event
  tick : Event

-- the content of a datagram consists of bytes
abbrev pub IsEvent : Event → Type 0
IsEvent (arrival source bytes) = IsBytes bytes
IsEvent tick = Unit {0}

-- what is given to the proxy: bytes from their source, or a tick if there is none
abbrev pub event_given : Option Endpoint → List ℕ → Event
event_given None bytes = tick
event_given (Some source) bytes = arrival source bytes
