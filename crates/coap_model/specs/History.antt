-- What the traffic alone shows: which observation of a history opened an exchange, sent its
-- request, got its answer, or admitted a waiter. This file names no table. A history has its newest
-- observation first.
use Rattle.std.specs.Prelude.{◌≡◌, ◌⊎◌, ℕ, ◌+◌, ◌%◌, ◌≤◌, List, [], ◌∷◌, length, map, Bool, true, false, not, if◌then◌else◌, Some}
use Rattle.coap_message.specs.declared.kind.Kind.TheVariants.{Ack, Rst}
use Rattle.coap_message.specs.declared.code.TheConstants.Code.{EMPTY}
use Rattle.std.specs.Option.{option_map_or}
use Rattle.coap_message.specs.Reading.{head_at}
use Rattle.coap_message.specs.Uint.{IsBytes}
use Rattle.coap_message.specs.Message.{Message}
use Rattle.coap_message.specs.Spelling.{Spells}
use Rattle.coap_endpoint.specs.declared.endpoint.Endpoint.{Endpoint}
use Rattle.coap_model.specs.declared.report.Outcome.{Outcome}
use Rattle.coap_model.specs.declared.report.Outcome.TheVariants.{Ignored, Rejected, Again, NoRecordRoom, Refused, Hit, Joined, Opened, Overloaded, NoId, Answered, Acked, SentRequest, Resent, GaveUp, Delivered, Idle}
use Rattle.coap_model.specs.declared.report.Storing.{Storing}
use Rattle.coap_model.specs.declared.report.Storing.TheVariants.{Kept, TooLarge, NoMemory, NotStored}
use Rattle.coap_model.specs.declared.report.Report.{Report}
use Rattle.coap_model.specs.Setting.{Setting}
use Rattle.coap_model.specs.Events.{Event, arrival, tick}
use Rattle.coap_message.specs.Codes.{is_request, is_response}
use Rattle.coap_forward.specs.Messages.{is_con, brings_requests, token_of}

-- one step as seen from outside, with all the input that it read
pub record Observation : Type 0 where
  pub now : ℕ
  pub draw : ℕ
  pub event : Event
  pub report : Report
  pub bytes : List ℕ

-- what an observation acted on: no item of the tables, or an exchange or a waiter, by its number
pub data Act : Type 0 where
  no_item : Act
  -- a waiter was admitted to an exchange
  admits : ℕ → ℕ → Act
  -- an exchange changed its state, or its request was retransmitted
  moves : ℕ → Act
  -- a waiter was served, or its answer was retransmitted, or acknowledged, or given up
  serves : ℕ → Act

-- an observation, and what it acted on
pub record Action : Type 0 where
  pub observation : Observation
  pub act : Act

-- the observations of actions
abbrev pub told_by : List Action → List Observation
told_by actions = map (λ d. d.observation) actions

-- an action, and all that came before it
pub record Position : Type 0 where
  pub before : List Action
  pub action : Action

-- how many observations came before this one
abbrev pub index : Position → ℕ
index p = length p.before

-- the position is in the history
abbrev pub IsPositionOf : List Action → Position → Type 0
IsPositionOf [] p = ⊥
IsPositionOf (d ∷ past) p = (record { before = past; action = d } ≡ p) ⊎ IsPositionOf past p

-- it holds at no position of the history
abbrev pub Never : (Position → Type 0) → List Action → Type 0
Never P [] = Unit {0}
Never P (d ∷ past) = ¬ P (record { before = past; action = d }) × Never P past

-- it holds at some position of the history
pub record Somewhere (P : Position → Type 0) (history : List Action) : Type 0 where
  pub position : Position
  pub is_there : IsPositionOf history position
  pub holds : P position

-- ---- counting

abbrev pub count_in : (Outcome → ℕ) → List Action → ℕ
count_in counts [] = 0
count_in counts (d ∷ past) = count_in counts past + counts d.observation.report.outcome

abbrev pub opens_one : Outcome → ℕ
opens_one Ignored = 0
opens_one Rejected = 0
opens_one Again = 0
opens_one NoRecordRoom = 0
opens_one (Refused code) = 0
opens_one Hit = 0
opens_one Joined = 0
opens_one Opened = 1
opens_one Overloaded = 0
opens_one NoId = 0
opens_one (Answered storing) = 0
opens_one Acked = 0
opens_one SentRequest = 0
opens_one Resent = 0
opens_one GaveUp = 0
opens_one Delivered = 0
opens_one Idle = 0

abbrev pub admits_one : Outcome → ℕ
admits_one Ignored = 0
admits_one Rejected = 0
admits_one Again = 0
admits_one NoRecordRoom = 0
admits_one (Refused code) = 0
admits_one Hit = 0
admits_one Joined = 1
admits_one Opened = 1
admits_one Overloaded = 0
admits_one NoId = 0
admits_one (Answered storing) = 0
admits_one Acked = 0
admits_one SentRequest = 0
admits_one Resent = 0
admits_one GaveUp = 0
admits_one Delivered = 0
admits_one Idle = 0

-- the datagram is a Confirmable message
abbrev pub is_con_datagram : List ℕ → Bool
is_con_datagram bytes = option_map_or (λ h. is_con h.kind) (head_at bytes) false

-- an event brings a Confirmable message
abbrev pub comes_con : Event → Bool
comes_con (arrival source bytes) = is_con_datagram bytes
comes_con tick = false

-- How many new Message IDs an outcome takes: forwarded requests, deliveries and replies take one,
-- except for replies to Confirmable messages, which are piggybacked on the acknowledgement, with its
-- id (RFC 7252, 4.4 and 5.2.1).
abbrev pub ids_given : Bool → Outcome → ℕ
ids_given con Ignored = 0
ids_given con Rejected = 0
ids_given con Again = 0
ids_given con NoRecordRoom = 0
ids_given con (Refused code) = if con then 0 else 1
ids_given con Hit = if con then 0 else 1
ids_given con Joined = 0
ids_given con Opened = 0
ids_given con Overloaded = if con then 0 else 1
ids_given con NoId = 0
ids_given con (Answered storing) = 0
ids_given con Acked = 0
ids_given con SentRequest = 1
ids_given con Resent = 0
ids_given con GaveUp = 0
ids_given con Delivered = 1
ids_given con Idle = 0

abbrev pub gives_id : Observation → ℕ
gives_id e = ids_given (comes_con e.event) e.report.outcome

abbrev pub has_grown : Storing → Bool
has_grown Kept = true
has_grown TooLarge = true
has_grown NoMemory = false
has_grown NotStored = true

-- what an outcome says about the only choice that depends on memory: whether there was enough for
-- one more entry of the store
abbrev pub grown_of : Outcome → Bool
grown_of Ignored = true
grown_of Rejected = true
grown_of Again = true
grown_of NoRecordRoom = true
grown_of (Refused code) = true
grown_of Hit = true
grown_of Joined = true
grown_of Opened = true
grown_of Overloaded = true
grown_of NoId = true
grown_of (Answered storing) = has_grown storing
grown_of Acked = true
grown_of SentRequest = true
grown_of Resent = true
grown_of GaveUp = true
grown_of Delivered = true
grown_of Idle = true

-- the number of exchanges that were opened, of waiters that were admitted, and of ids that were
-- given out
abbrev pub opened_in : List Action → ℕ
opened_in history = count_in opens_one history

abbrev pub admitted_in : List Action → ℕ
admitted_in history = count_in admits_one history

abbrev pub ids_in : List Action → ℕ
ids_in [] = 0
ids_in (d ∷ past) = ids_in past + gives_id d.observation

-- ---- what an observation did

-- the observation opened the exchange with this number: it is the x-th observation that opened one
abbrev pub Opens : ℕ → Position → Type 0
Opens x p = (p.action.observation.report.outcome ≡ Opened) × (x ≡ opened_in p.before + 1)

-- the observation admitted the waiter with this number to an exchange: it is the v-th that admitted
-- one
pub record Admits (v x : ℕ) (p : Position) : Type 0 where
  pub act : p.action.act ≡ admits v x
  pub outcome : admits_one p.action.observation.report.outcome ≡ 1
  pub number : v ≡ admitted_in p.before + 1

-- an event brings a message from a source, in a datagram that isn't too long
pub record Brings (most : ℕ) (source : Endpoint) (m : Message) (event : Event) : Type 0 where
  pub bytes : List ℕ
  pub came : event ≡ arrival source bytes
  pub spells : Spells bytes m
  pub short : length bytes ≤ most

-- an event brings a request from a client, in a datagram that isn't too long
pub record IsRequestOf
    (setting : Setting) (client : Endpoint) (request : Message) (event : Event) : Type 0 where
  pub brings : Brings setting.limits.datagram client request event
  pub kind : brings_requests request.kind ≡ true
  pub method : is_request request.code ≡ true

-- the request that opened the exchange with this number
pub record WasOpened (setting : Setting) (past : List Action) (x : ℕ) : Type 0 where
  pub opening : Position
  pub client : Endpoint
  pub request : Message
  pub was_opened : IsPositionOf past opening
  pub opens : Opens x opening
  pub asked : IsRequestOf setting client request opening.action.observation.event

-- the request that admitted the waiter with this number to an exchange
pub record WasAdmitted (setting : Setting) (past : List Action) (v : ℕ) : Type 0 where
  pub exchange : ℕ
  pub admission : Position
  pub client : Endpoint
  pub request : Message
  pub was_admitted : IsPositionOf past admission
  pub admits : Admits v exchange admission
  pub asked : IsRequestOf setting client request admission.action.observation.event

-- the request of this exchange was sent there for the first time: its token is in the datagram
pub record Sends (salt x : ℕ) (p : Position) : Type 0 where
  pub act : p.action.act ≡ moves x
  pub outcome : p.action.observation.report.outcome ≡ SentRequest
  pub to : Endpoint
  pub sent : p.action.observation.report.send ≡ Some to
  pub message : Message
  pub spells : Spells p.action.observation.bytes message
  pub token : message.token ≡ token_of salt x

-- the request of the exchange was sent there, and never before
pub record Asks (salt x : ℕ) (p : Position) : Type 0 where
  pub sends : Sends salt x p
  pub first : Never (Sends salt x) p.before

-- A message answers a request with this token and id: a piggybacked or a separate response, or a
-- Reset of it (RFC 7252, 4.2, 5.2.1, 5.2.2 and 5.3.2).
pub data Matches (token : List ℕ) (id : ℕ) (m : Message) : Type 0 where
  in_acknowledgement :
      m.kind ≡ Ack
      → is_response m.code ≡ true
      → m.token ≡ token
      → m.id ≡ id
      → Matches token id m
  separate :
      brings_requests m.kind ≡ true
      → is_response m.code ≡ true
      → m.token ≡ token
      → Matches token id m
  by_reset : m.kind ≡ Rst → m.code ≡ EMPTY → m.id ≡ id → Matches token id m

-- an event brings an answer to the request of this exchange, from the endpoint that the request was
-- sent to
pub record Meets (setting : Setting) (x : ℕ) (past : List Action) (event : Event) : Type 0 where
  pub asking : Position
  pub was_asked : IsPositionOf past asking
  pub asks : Asks setting.salt x asking
  pub message : Message
  pub brings : Brings setting.limits.datagram asks.sends.to message event
  pub matches : Matches (token_of setting.salt x) asks.sends.message.id message

-- an answer is accepted, whether it is stored or not
abbrev pub accepts_answer : Outcome → Bool
accepts_answer Ignored = false
accepts_answer Rejected = false
accepts_answer Again = false
accepts_answer NoRecordRoom = false
accepts_answer (Refused code) = false
accepts_answer Hit = false
accepts_answer Joined = false
accepts_answer Opened = false
accepts_answer Overloaded = false
accepts_answer NoId = false
accepts_answer (Answered storing) = true
accepts_answer Acked = false
accepts_answer SentRequest = false
accepts_answer Resent = false
accepts_answer GaveUp = false
accepts_answer Delivered = false
accepts_answer Idle = false

-- the answer of this exchange arrived there
pub record Gets (setting : Setting) (x : ℕ) (p : Position) : Type 0 where
  pub act : p.action.act ≡ moves x
  pub outcome : accepts_answer p.action.observation.report.outcome ≡ true
  pub meets : Meets setting x p.before p.action.observation.event
  pub bytes : IsBytes meets.brings.bytes

-- the exchange was given up there
pub record GivesUp (x : ℕ) (p : Position) : Type 0 where
  pub act : p.action.act ≡ moves x
  pub outcome : p.action.observation.report.outcome ≡ GaveUp

-- the outcomes that end an exchange: it is answered or given up
abbrev pub ends : Outcome → Bool
ends Ignored = false
ends Rejected = false
ends Again = false
ends NoRecordRoom = false
ends (Refused code) = false
ends Hit = false
ends Joined = false
ends Opened = false
ends Overloaded = false
ends NoId = false
ends (Answered storing) = true
ends Acked = false
ends SentRequest = false
ends Resent = false
ends GaveUp = true
ends Delivered = false
ends Idle = false

-- the exchange was answered or given up there
pub record Ends (x : ℕ) (p : Position) : Type 0 where
  pub act : p.action.act ≡ moves x
  pub outcome : ends p.action.observation.report.outcome ≡ true

-- the waiter was served there
pub record Serves (v : ℕ) (p : Position) : Type 0 where
  pub act : p.action.act ≡ serves v
  pub outcome : p.action.observation.report.outcome ≡ Delivered

-- a waiter is finished: its answer was acknowledged, or isn't retransmitted any more, or was sent
-- in a message that isn't Confirmable
abbrev pub finishes : Outcome → List ℕ → Bool
finishes Ignored bytes = false
finishes Rejected bytes = false
finishes Again bytes = false
finishes NoRecordRoom bytes = false
finishes (Refused code) bytes = false
finishes Hit bytes = false
finishes Joined bytes = false
finishes Opened bytes = false
finishes Overloaded bytes = false
finishes NoId bytes = false
finishes (Answered storing) bytes = false
finishes Acked bytes = true
finishes SentRequest bytes = false
finishes Resent bytes = false
finishes GaveUp bytes = true
finishes Delivered bytes = not (is_con_datagram bytes)
finishes Idle bytes = false

-- the waiter was finished there
pub record Finishes (v : ℕ) (p : Position) : Type 0 where
  pub act : p.action.act ≡ serves v
  pub outcome : finishes p.action.observation.report.outcome p.action.observation.bytes ≡ true

-- ---- moments and ids

abbrev pub last_of : List Action → ℕ
last_of [] = 0
last_of (d ∷ past) = d.observation.now

-- moments never decrease
abbrev pub IsInOrder : List Action → Type 0
IsInOrder [] = Unit {0}
IsInOrder (d ∷ past) = (last_of past ≤ d.observation.now) × IsInOrder past

-- the observation gave out this id
pub record Gives (id : ℕ) (e : Observation) : Type 0 where
  pub gives : gives_id e ≡ 1
  pub message : Message
  pub spells : Spells e.bytes message
  pub id_is : message.id ≡ id

-- ids count up from the first, and wrap to 0 after 65,535 (RFC 7252, 4.4)
abbrev pub AreIds : ℕ → List Action → Type 0
AreIds first [] = Unit {0}
AreIds first (d ∷ past) =
    (gives_id d.observation ≡ 1 → Gives ((first + ids_in past) % 65536) d.observation)
    × AreIds first past
