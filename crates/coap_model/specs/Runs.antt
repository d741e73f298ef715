-- Runs: the steps of a list of turns, one after the other, and the history that they produce.
use Rattle.std.specs.Prelude.{ℕ, ◌≤◌, Bool, List, [], ◌∷◌, map}
use Rattle.coap_model.specs.Setting.{Setting}
use Rattle.coap_model.specs.Events.{Event, IsEvent}
use Rattle.coap_model.specs.State.{State, Step, new_state}
use Rattle.coap_model.specs.Step.{step_of}
use Rattle.coap_model.specs.History.{Observation}

-- an event with its moment and its draw
pub record Turn : Type 0 where
  pub now : ℕ
  pub draw : ℕ
  pub event : Event

-- a turn that was taken, and whether there was memory for one more entry of the store
pub record Taken : Type 0 where
  pub turn : Turn
  pub grown : Bool

-- the turns alone, without the memory that they found
abbrev pub turns_of : List Taken → List Turn
turns_of taken = map (λ t. t.turn) taken

-- moments never decrease, and datagrams consist of bytes
abbrev pub AreTurns : ℕ → List Turn → Type 0
AreTurns last [] = Unit {0}
AreTurns last (t ∷ turns) = (last ≤ t.now) × IsEvent t.event × AreTurns t.now turns

-- the observation of a step
abbrev pub observation_of : ℕ → ℕ → Event → Step → Observation
observation_of now draw event s =
    record { now = now; draw = draw; event = event; report = s.report; bytes = s.bytes }

-- the observation of the step that an event makes at a moment
abbrev pub answer_at : State → ℕ → ℕ → Bool → Event → Observation
answer_at w now draw grown event = observation_of now draw event (step_of w now draw grown event)

-- a proxy and its history
pub record Run : Type 0 where
  pub state : State
  pub history : List Observation

abbrev pub new_run : Setting → Run
new_run setting = record { state = new_state setting; history = [] }

abbrev pub step_taken : State → Taken → Step
step_taken w t = step_of w t.turn.now t.turn.draw t.grown t.turn.event

abbrev pub one_turn : Run → Taken → Run
one_turn r t = record {
  state = (step_taken r.state t).state;
  history = observation_of t.turn.now t.turn.draw t.turn.event (step_taken r.state t) ∷ r.history;
}

abbrev pub run_of : Run → List Taken → Run
run_of r [] = r
run_of r (t ∷ turns) = run_of (one_turn r t) turns
