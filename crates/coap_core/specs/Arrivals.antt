-- Incoming messages, as the definitions of the model take them.
use Rattle.std.specs.Prelude.{ℕ, Bool}
use Rattle.coap_message.specs.Message.{Message}
use Rattle.coap_endpoint.specs.declared.endpoint.Endpoint.{Endpoint}
use Rattle.coap_core.specs.declared.arrival.Arrival.{Arrival}

-- a function of a moment, an endpoint and a message, applied to an arrival
abbrev pub of_arrival : {A : Type 0} → (ℕ → Endpoint → Message → A) → Arrival → A
of_arrival word a = word a.now a.from a.message.now

-- the same for a function that also takes whether memory sufficed
abbrev pub of_grown : {A : Type 0} → (ℕ → Bool → Endpoint → Message → A) → Arrival → Bool → A
of_grown word a grown = word a.now grown a.from a.message.now
