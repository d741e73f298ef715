-- A port whose turns are recorded.
use Rattle.std.specs.Prelude.{◌≡◌, ◌≢◌, ◌⊎◌, ◌≤◌, ◌+◌, ◌&&◌, nat_lt, not, ℕ, length, Bool, true, false, List, [], ◌++◌, Option}
use Rattle.std.specs.Io.KnownBytes.{Appends, append_known}
use Rattle.coap_endpoint.specs.declared.endpoint.Endpoint.{Endpoint}
use Rattle.coap_model.specs.Events.{Event, arrival, tick}
use Rattle.coap_model.specs.Runs.{Turn}
use Rattle.coap_lines.specs.Room.{longest_turn}
use Rattle.coap_lines.specs.Turns.{IsReadAs, IsSourced, turn_line, turn_text}
use Rattle.coap_port.specs.Driven.{is_arrival}

-- Its port; what the lines are written to, and whether that failed when it was last asked; the
-- lines that are kept and not yet written; whether the recording has ended, so that nothing more is
-- recorded; whether nothing came in the last wait.
pub record Recorder (P W : Type 0) : Type 0 where
  pub port : P
  pub writer : W
  pub failed : Bool
  pub pending : List ℕ
  pub ended : Bool
  pub idle : Bool

abbrev pub new_recorder : {P W : Type 0} → P → W → Recorder P W
new_recorder port writer =
    record {
      port = port;
      writer = writer;
      failed = false;
      pending = [];
      ended = false;
      idle = false;
    }

-- how many bytes the datagram of an event has
abbrev pub size_of : Event → ℕ
size_of (arrival from bytes) = length bytes
size_of tick = 0

-- a turn whose line, with its line feed, a replay can read
pub record IsShort (turn : Turn) : Type 0 where
  pub sourced : IsSourced turn.event
  pub short : length (turn_line turn) ≤ 16385

-- one more line is kept, unless the recording has ended
abbrev pub with_line : {P W : Type 0} → Recorder P W → Bool → List ℕ → Recorder P W
with_line r true line = r
with_line r false line = record r { pending = r.pending ++ line }

module _ {P W : Type 0} (contents : W → Option (List ℕ)) where
  -- all that was recorded: what the writer holds, where that is known, and the lines that are kept
  abbrev pub recorded : Recorder P W → Option (List ℕ)
  recorded r = append_known (contents r.writer) r.pending

  -- The lines that are kept are written, and a writer that hadn't failed before still hasn't; or it
  -- fails before it took all of them, and the recording ends.
  abbrev pub Writes : Recorder P W → Recorder P W → Type 0
  Writes r s =
      (Appends (contents r.writer) (contents s.writer) r.pending
      × (r.failed ≡ false → s.failed ≡ false)
      × (s ≡ record r { writer = s.writer; failed = s.failed; pending = [] }))
      ⊎ ((done rest : List ℕ) × (r.pending ≡ done ++ rest) × (rest ≢ [])
      × Appends (contents r.writer) (contents s.writer) done × (s.failed ≡ true)
      × (s ≡ record r { writer = s.writer; failed = true; pending = []; ended = true }))

  abbrev pub WritesIf : Bool → Recorder P W → Recorder P W → Type 0
  WritesIf true r s = Writes r s
  WritesIf false r s = s ≡ r

  -- A line that may have this many bytes is added. If the lines that are kept might have more than
  -- 65,536 bytes with it, they are written first.
  abbrev pub AddsLine : Recorder P W → ℕ → List ℕ → Recorder P W → Type 0
  AddsLine r most line s = (m : Recorder P W)
      × WritesIf (nat_lt 65536 (length r.pending + most)) r m × (s ≡ with_line m m.ended line)

  -- nothing more is recorded once the recording has ended, and it ends at a datagram that is too
  -- long for a line
  abbrev pub AddsUnless : Bool → Bool → Recorder P W → Turn → Recorder P W → Type 0
  AddsUnless true long r turn s = s ≡ r
  AddsUnless false true r turn s = s ≡ record r { ended = true }
  AddsUnless false false r turn s =
      AddsLine r (longest_turn (size_of turn.event)) (turn_line turn) s

  -- the line of a turn is added
  abbrev pub AddsTurn : Recorder P W → Turn → Recorder P W → Type 0
  AddsTurn r turn s = AddsUnless r.ended (nat_lt 8154 (size_of turn.event)) r turn s

module _ {P W : Type 0} (gives : ℕ → P → ℕ → Turn → P → Type 0) (clock : P → ℕ)
    (contents : W → Option (List ℕ)) where
  -- The port gave a turn, and its line was added. The lines that were kept were written before it
  -- if it waited, and nothing had come in the last wait. What was recorded is read again as this
  -- turn.
  pub record Gives (room : ℕ) (r : Recorder P W) (wait : ℕ) (turn : Turn) (s : Recorder P W)
      : Type 0 where
    pub held : Recorder P W
    pub writes : WritesIf contents (r.idle && nat_lt 0 wait) r held
    pub port : P
    pub gave : gives room r.port wait turn port
    pub added : AddsTurn contents
        (record held { port = port; idle = nat_lt 0 wait && not (is_arrival turn.event) }) turn s
    pub onward : clock r.port ≤ turn.now
    pub moment : clock s.port ≡ turn.now
    pub read : s.ended ≡ false → IsReadAs (clock r.port) (turn_text turn) turn

module _ {P W : Type 0} (takes : P → Endpoint → List ℕ → Bool → P → Type 0) (clock : P → ℕ) where
  -- the port was handed a datagram, and nothing is recorded of it
  pub record Takes (r : Recorder P W) (to : Endpoint) (bytes : List ℕ) (went : Bool)
      (s : Recorder P W) : Type 0 where
    pub took : takes r.port to bytes went s.port
    pub rest : s ≡ record r { port = s.port }
    pub moment : clock s.port ≡ clock r.port
