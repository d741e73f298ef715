-- A port in memory.
use Rattle.std.specs.Prelude.{◌≡◌, ◌≢◌, ◌⊎◌, ◌==◌, ◌^◌, ℕ, min, max, take, length, Bool, true, false, List, [], ◌∷◌, ◌++◌, Option, Some, None}
use Rattle.coap_model.specs.Events.{Event, arrival, tick}
use Rattle.coap_model.specs.Runs.{Turn}
use Rattle.coap_endpoint.specs.declared.endpoint.Endpoint.{Endpoint}
use Rattle.coap_port.specs.declared.memory.Handed.{Handed}
use Rattle.coap_port.specs.declared.memory.Scripted.{Scripted}

-- what is left of its script, what it was handed, how many datagrams come before the one that it
-- refuses, its last moment, and how often it failed
pub record Memory : Type 0 where
  pub script : List Scripted
  pub handed : List Handed
  pub refused : Option ℕ
  pub last : ℕ
  pub failures : ℕ

abbrev pub new_port : Option ℕ → Memory
new_port refused =
    record { script = []; handed = []; refused = refused; last = 0; failures = 0 }

-- a datagram is cut to the room of the buffer
abbrev pub event_of : ℕ → Option (Endpoint × List ℕ) → Event
event_of room None = tick
event_of room (Some d) = arrival d.0 (take room d.1)

-- a moment never goes back, and is at most 2^62; a draw is at most 1,000
abbrev pub turn_of : ℕ → ℕ → Scripted → Turn
turn_of room last s = record {
  now = max (min s.now (2 ^ 62)) last;
  draw = min s.draw 1000;
  event = event_of room s.datagram;
}

-- the next turn of the script, for a buffer with this room
pub record GivesNext (room : ℕ) (p : Memory) (t : Turn) (q : Memory) : Type 0 where
  pub scripted : Scripted
  pub rest : List Scripted
  pub split : p.script ≡ scripted ∷ rest
  pub turn : t ≡ turn_of room p.last scripted
  pub left : q ≡ record p { script = rest; last = t.now }

-- without a wait there is a tick, and nothing is read
abbrev pub GivesAfter : Bool → ℕ → Memory → Turn → Memory → Type 0
GivesAfter true room p t q = (t ≡ record { now = p.last; draw = 0; event = tick }) × (q ≡ p)
GivesAfter false room p t q = GivesNext room p t q

abbrev pub Gives : ℕ → Memory → ℕ → Turn → Memory → Type 0
Gives room p wait = GivesAfter (wait == 0) room p

-- A datagram that is taken is kept, and isn't the one that the port refuses. One that isn't taken
-- leaves what was kept unchanged: it is the one that the port refuses, which it does once, or the
-- port ran out of memory.
abbrev pub Takes : Memory → Endpoint → List ℕ → Bool → Memory → Type 0
Takes p to bytes true q = (p.refused ≢ Some (length p.handed))
    × (q ≡ record p { handed = p.handed ++ (record { to = to; bytes = bytes }) ∷ [] })
Takes p to bytes false q =
    ((p.refused ≡ Some (length p.handed)) × (q ≡ record p { refused = None }))
    ⊎ ((p.refused ≢ Some (length p.handed)) × (q ≡ p))
