-- What a port gives.
use Rattle.std.specs.Prelude.{◌≡◌, ◌≤◌, ◌^◌, ℕ, List}
use Rattle.coap_model.specs.Runs as model
use Rattle.coap_model.specs.Events.{event_given}
use Rattle.coap_port.specs.declared.port.Turn.{Turn}

-- the turn, with the bytes that were put into the buffer
abbrev pub given_by : Turn → List ℕ → model.Turn
given_by t bytes = record { now = t.now; draw = t.draw; event = event_given t.from bytes }

-- moments never go back and are at most 2^62, and the port holds the last one; draws are at most
-- 1,000
pub record IsOnward (before after : ℕ) (t : Turn) : Type 0 where
  pub onward : before ≤ t.now
  pub moment : t.now ≤ 2 ^ 62
  pub held : after ≡ t.now
  pub draw : t.draw ≤ 1000
