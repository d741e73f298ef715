-- What a step did: its report, its datagram, and the tables that it left.
use Rattle.std.specs.Prelude.{◌≡◌, ℕ, Bool, true, List, ◌∷◌, Option, IfOk, OnErr, Result, Ok, Err, option_map}
use Rattle.coap_message.specs.Datagram.{Datagram, holding}
use Rattle.coap_message.specs.Message.{Message}
use Rattle.coap_message.specs.declared.error.OutOfMemory.{OutOfMemory}
use Rattle.coap_pending.specs.Exchanges.{answered}
use Rattle.coap_pending.specs.Table.{changed_at}
use Rattle.coap_forward.specs.Answers.{own_answer, bad_gateway}
use Rattle.coap_model.specs.Deeds.{outcome_of, report_of}
use Rattle.coap_model.specs.declared.deed.Did.{Did}
use Rattle.coap_model.specs.declared.deed.Deed.TheVariants as deeds
use Rattle.coap_model.specs.declared.report.Outcome.TheVariants.{Delivered}
use Rattle.coap_model.specs.declared.report.Report.{Report}
use Rattle.coap_model.specs.declared.report.Storing.TheVariants.{NotStored}
use Rattle.coap_core.specs.Arrivals.{of_arrival}
use Rattle.coap_core.specs.declared.arrival.Arrival.{Arrival}
use Rattle.coap_model.specs.Events.{Event}
use Rattle.coap_model.specs.History.{Observation, grown_of, is_con_datagram}
use Rattle.coap_model.specs.Memory.{takes_memory}
use Rattle.coap_model.specs.Carries.{Carries}
use Rattle.coap_model.specs.Promised.{Promised}
use Rattle.coap_model.specs.Shares.{LeavesRoom}
use Rattle.coap_model.specs.Word.{KeepsItsWord}
use Rattle.coap_endpoint.specs.declared.endpoint.Endpoint.{Endpoint}
use Rattle.coap_model.specs.State.{State, Step, later, silent, known_of, remembers, repeats}

-- what a step did, with the destination of its datagram
abbrev pub did_of : Step → Did
did_of s = record { send = s.report.send; deed = s.deed }

-- what was done, the datagram and the tables after it are those of the step
abbrev pub DoesSo : Step → Did → Datagram → Datagram → State → Type 0
DoesSo s did old new state = (did ≡ did_of s) × (new ≡ holding old s.bytes) × (state ≡ s.state)

-- the same in short: the report is the step's
abbrev pub Does : Step → Report → Datagram → Datagram → State → Type 0
Does s report old new state = (report ≡ s.report) × (new ≡ holding old s.bytes) × (state ≡ s.state)

-- what came of a step, in short
abbrev pub in_short : Result Did OutOfMemory → Result Report OutOfMemory
in_short (Ok did) = Ok (report_of did)
in_short (Err error) = Err error

-- The step is done, or it ran out of memory and nothing happened. The datagram keeps its capacity.
pub record IsDone (s : Step) (result : Result Did OutOfMemory)
    (out_old out_new : Datagram) (before after : State)
    : Type 0 where
  pub exact : IfOk result (λ did. DoesSo s did out_old out_new after)
  pub err : OnErr result (after ≡ before)
  pub kept : out_new.room ≡ out_old.room

-- the same for a step that a new message leads to, which is then remembered
abbrev pub IsDoneFor :
    Arrival
    → Step
    → Result Did OutOfMemory
    → Datagram
    → Datagram
    → State
    → State
    → Type 0
IsDoneFor arrival s = IsDone (of_arrival remembers arrival s)

-- the same for a step that depends on whether memory sufficed, which the report says
pub record IsDoneBy (s : Bool → Step) (result : Result Did OutOfMemory)
    (out_old out_new : Datagram) (before after : State)
    : Type 0 where
  pub exact :
      IfOk result (λ did.
      DoesSo (s (grown_of (outcome_of did.deed))) did out_old out_new after)
  pub err : OnErr result (after ≡ before)
  pub kept : out_new.room ≡ out_old.room

-- whether a step may allocate
abbrev pub wants_memory : Step → Bool
wants_memory s = takes_memory s.report.outcome s.bytes

-- a client is sent its answer in a Confirmable message, which is kept until it is acknowledged
abbrev pub GivesConfirmable : Step → Type 0
GivesConfirmable s = (s.report.outcome ≡ Delivered) × (is_con_datagram s.bytes ≡ true)

-- what is visible of a step from outside
abbrev pub observation_told : ℕ → ℕ → Event → Report → List ℕ → Observation
observation_told now draw event report bytes =
    record { now = now; draw = draw; event = event; report = report; bytes = bytes }

-- A history carried before an observation is carried after it with the observation in front, and
-- what is then carried is promised.
abbrev pub CarriesOn : State → Observation → State → Type 0
CarriesOn before e after =
    (history : List Observation) → Carries history before → Carries (e ∷ history) after

abbrev pub PromisesOn : State → Observation → State → Type 0
PromisesOn before e after =
    (history : List Observation) → Carries history before → Promised (e ∷ history) after

-- and it keeps its word about that
abbrev pub KeepsWordOn : State → Observation → State → Type 0
KeepsWordOn before e after =
    (history : List Observation) → Carries history before → KeepsItsWord (e ∷ history) after

-- and one client leaves room for the others in it
abbrev pub LeavesRoomOn : State → Observation → State → Type 0
LeavesRoomOn before e after =
    (history : List Observation) → Carries history before → LeavesRoom (e ∷ history) after

-- what a duplicate gets, if the message is one
abbrev pub repetition_of : State → ℕ → Endpoint → Message → Option Step
repetition_of w now source m =
    option_map (λ known. repeats w now source known.reply) (known_of w now source m)

-- the report and the datagram are those of the step
abbrev pub IsSaid : Step → Did → Datagram → Datagram → Type 0
IsSaid s did old new = (did ≡ did_of s) × (new ≡ holding old s.bytes)

-- the request of the exchange with this number was rejected: the proxy generates its answer
abbrev pub resets : State → ℕ → ℕ → Step
resets w now number =
    silent (deeds.Answered number NotStored) (record (later w now) {
      exchanges = changed_at number (answered (own_answer now bad_gateway)) w.exchanges;
    })
