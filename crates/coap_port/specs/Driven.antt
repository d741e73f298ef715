-- A proxy that is driven over a port: the turns that the port gave, what each did, and what was
-- handed over.
use Rattle.std.specs.Prelude.{◌≡◌, ◌≤◌, ◌-◌, ◌&&◌, ℕ, min, max, nat_le, Bool, true, false, List, [], ◌∷◌, ◌+◌, Option, Some, None, Result, Ok, Err, option_map, is_some, if◌then◌else◌}
use Rattle.coap_endpoint.specs.declared.endpoint.Endpoint.{Endpoint}
use Rattle.coap_model.specs.Carries.{Carries}
use Rattle.coap_model.specs.Events.{Event, arrival, tick}
use Rattle.coap_model.specs.History.{Observation}
use Rattle.coap_model.specs.Runs.{Turn, Taken, Run, one_turn, step_taken}
use Rattle.coap_model.specs.Step.{step_of}
use Rattle.coap_model.specs.Ticks.{next_due}
use Rattle.coap_model.specs.Word.{KeepsItsWord}
use Rattle.coap_model.specs.State.{Step, State}
use Rattle.coap_core.specs.Done.{did_of, wants_memory}
use Rattle.coap_core.specs.Told.{Told}
use Rattle.coap_core.specs.Watched.{WasTold}
use Rattle.coap_port.specs.Stats.{no_stats, with_turn}
use Rattle.coap_port.specs.declared.error.DriveError.{DriveError}
use Rattle.coap_port.specs.declared.error.DriveError.TheVariants.{Port, OutOfMemory}
use Rattle.coap_port.specs.declared.stats.Stats.{Stats}

-- A turn that a port gave: the wait that it was requested with; whether its step ran out of memory,
-- so that nothing was done, or else whether there was memory for one more entry of the store; and
-- whether the port took what was sent, if anything was sent.
pub record Given : Type 0 where
  pub wait : ℕ
  pub turn : Turn
  pub lost : Bool
  pub grown : Bool
  pub went : Bool

-- ---- what a turn does

abbrev pub taken_of : Given → Taken
taken_of g = record { turn = g.turn; grown = g.grown }

abbrev pub run_given : Run → Given → Run
run_given r g = if g.lost then r else one_turn r (taken_of g)

-- the datagram that is sent, and its destination
abbrev pub datagram_of : Step → Option (Endpoint × List ℕ)
datagram_of s = option_map (λ to. (to, s.bytes)) s.report.send

abbrev pub sent_at : State → Given → Option (Endpoint × List ℕ)
sent_at w g = if g.lost then None else datagram_of (step_taken w (taken_of g))

-- ---- how long a port is asked to wait

abbrev pub is_arrival : Event → Bool
is_arrival (arrival source bytes) = true
is_arrival tick = false

-- Until the next item is due: at least a millisecond and at most a second, and a second if nothing
-- is due. Not at all if a datagram came before and something is already due, so that what is due
-- gets its turn.
abbrev pub wait_for : Bool → ℕ → Option ℕ → ℕ
wait_for came clock None = 1000
wait_for came clock (Some due) =
    if came && nat_le due clock then 0 else max (min (due - clock) 1000) 1

-- ---- turns, the newest first

abbrev pub run_by : Run → List Given → Run
run_by r [] = r
run_by r (g ∷ before) = run_given (run_by r before) g

abbrev pub run_at : State → List Observation → Run
run_at w history = record { state = w; history = history }

abbrev pub state_by : State → List Given → State
state_by w givens = (run_by (run_at w []) givens).state

-- whether the last was a datagram, and its moment
abbrev pub came_last : List Given → Bool
came_last [] = false
came_last (g ∷ before) = is_arrival g.turn.event

abbrev pub last_moment : ℕ → List Given → ℕ
last_moment first [] = first
last_moment first (g ∷ before) = g.turn.now

-- each was requested with the wait that `wait_for` gives
abbrev pub AreAsked : State → ℕ → List Given → Type 0
AreAsked w first [] = Unit {0}
AreAsked w first (g ∷ before) =
    (g.wait ≡ wait_for (came_last before) (last_moment first before) (next_due (state_by w before)))
    × AreAsked w first before

-- whether the step of a turn may allocate
abbrev pub takes_some : State → Turn → Bool
takes_some w t = wants_memory (step_of w t.now t.draw true t.event)

-- only a turn whose step may allocate is lost
abbrev pub AreLostForMemory : State → List Given → Type 0
AreLostForMemory w [] = Unit {0}
AreLostForMemory w (g ∷ before) =
    (g.lost ≡ true → takes_some (state_by w before) g.turn ≡ true)
    × AreLostForMemory w before

-- the counts of these turns
abbrev pub stats_of : State → List Given → Stats
stats_of w [] = no_stats
stats_of w (g ∷ before) =
    with_turn g.lost (is_some (sent_at (state_by w before) g)) g.went (stats_of w before)

-- ---- what a watcher is told

abbrev pub told_by : State → Given → Told
told_by w g = record {
  turn = g.turn;
  did = if g.lost then None else Some (did_of (step_taken w (taken_of g)));
  bytes = if g.lost then [] else (step_taken w (taken_of g)).bytes;
  went = g.went;
  state = (run_given (run_at w []) g).state;
}

abbrev pub tolds_of : State → List Given → List Told
tolds_of w [] = []
tolds_of w (g ∷ before) = told_by (state_by w before) g ∷ tolds_of w before

-- ---- what a port gave and took

-- a datagram is handed over once, if there is one
abbrev pub HandsOver : {P : Type 0} → (P → Endpoint → List ℕ → Bool → P → Type 0) → P
    → Option (Endpoint × List ℕ) → Bool → P → Type 0
HandsOver takes p None went q = q ≡ p
HandsOver takes p (Some d) went q = takes p d.0 d.1 went q

module _ {P : Type 0} (gives : P → ℕ → Turn → P → Type 0)
    (takes : P → Endpoint → List ℕ → Bool → P → Type 0) where
  -- a port gave a turn, and was handed what its step sent
  abbrev pub DoesTurn : State → P → Given → P → Type 0
  DoesTurn w p g q = (m : P) × gives p g.wait g.turn m × HandsOver takes m (sent_at w g) g.went q

  -- it gave these turns, one after the other, and was handed what they sent, and nothing else
  abbrev pub LeadsTo : State → P → List Given → P → Type 0
  LeadsTo w p [] q = q ≡ p
  LeadsTo w p (g ∷ before) q = (m : P) × LeadsTo w p before m × DoesTurn (state_by w before) m g q

  -- A proxy was driven over a port, starting at the moment `first`, and the port gave turns, here
  -- the newest first. The proxy did these turns and nothing else, so that it carries their history
  -- in front of any that it carried before, and keeps its word about that.
  pub record IsDriven (first : ℕ) (w : State) (p : P) (v : State) (q : P) (s : Stats) : Type 0 where
    pub givens : List Given
    pub leads : LeadsTo w p givens q
    pub asked : AreAsked w first givens
    pub lost : AreLostForMemory w givens
    pub state : v ≡ state_by w givens
    pub carries : (history : List Observation) → Carries history w
        → Carries (run_by (run_at w history) givens).history v
    pub word : (history : List Observation) → Carries history w
        → KeepsItsWord (run_by (run_at w history) givens).history v
    pub counted : s ≡ stats_of w givens

  -- How it ends.
  --   Ok: after this many turns.
  --   The port failed: at the turn after those that are counted.
  --   Out of memory: before the first turn.
  abbrev pub Ends : (P → ℕ) → (P → ℕ) → ℕ → State → P → State → P → Result Stats DriveError
      → Type 0
  Ends clock failures turns w p v q (Ok s) =
      IsDriven (clock p) w p v q s × (s.turns ≡ turns) × (failures q ≡ failures p)
  Ends clock failures turns w p v q (Err (Port s)) =
      ((m : P) × IsDriven (clock p) w p v m s) × (failures q ≡ failures p + 1)
  Ends clock failures turns w p v q (Err OutOfMemory) = (v ≡ w) × (q ≡ p)

  -- The same, with a watcher that was told each of these turns, in order, and nothing else.
  module _ {W : Type 0} (sees : W → Told → W → Type 0) where
    pub record IsWatched (first : ℕ) (w : State) (p : P) (a : W) (v : State) (q : P) (b : W)
        (s : Stats) : Type 0 where
      pub driven : IsDriven first w p v q s
      pub told : WasTold sees a (tolds_of w driven.givens) b

    abbrev pub EndsWatched : (P → ℕ) → (P → ℕ) → ℕ → State → P → W → State → P → W
        → Result Stats DriveError → Type 0
    EndsWatched clock failures turns w p a v q b (Ok s) =
        IsWatched (clock p) w p a v q b s × (s.turns ≡ turns) × (failures q ≡ failures p)
    EndsWatched clock failures turns w p a v q b (Err (Port s)) =
        ((m : P) × IsWatched (clock p) w p a v m b s) × (failures q ≡ failures p + 1)
    EndsWatched clock failures turns w p a v q b (Err OutOfMemory) =
        (v ≡ w) × (q ≡ p) × (b ≡ a)

  -- One turn; `came` says whether the turn before was a datagram.
  pub record DidTurn (clock failures : P → ℕ) (came : Bool) (v : State) (p : P) (s : Stats)
      (v' : State) (q : P) (s' : Stats) (arrived : Bool) : Type 0 where
    pub given : Given
    pub does : DoesTurn v p given q
    pub asked : given.wait ≡ wait_for came (clock p) (next_due v)
    pub lost : given.lost ≡ true → takes_some v given.turn ≡ true
    pub state : v' ≡ (run_given (run_at v []) given).state
    pub carries : (history : List Observation) → Carries history v
        → Carries (run_given (run_at v history) given).history v'
    pub counted : s' ≡ with_turn given.lost (is_some (sent_at v given)) given.went s
    pub told : arrived ≡ is_arrival given.turn.event
    pub moment : clock q ≡ given.turn.now
    pub onward : v'.last ≤ clock q
    pub events : v'.events ≤ v.events + 1
    pub still : failures q ≡ failures p

  -- One turn, of which a watcher was told.
  pub record DidWatched {W : Type 0} (sees : W → Told → W → Type 0) (clock failures : P → ℕ)
      (came : Bool) (v : State) (p : P) (a : W) (s : Stats) (v' : State) (q : P) (b : W)
      (s' : Stats) (arrived : Bool) : Type 0 where
    pub did : DidTurn clock failures came v p s v' q s' arrived
    pub told : sees a (told_by v did.given) b
