-- A proxy carries a history: each part of its tables agrees with the history.
use Rattle.std.specs.Prelude.{◌≡◌, ◌⊎◌, ℕ, ◌+◌, ◌*◌, ◌^◌, ◌/◌, ◌%◌, ◌<◌, ◌≤◌, true, false, is_some, if◌then◌else◌, List, [], ◌∷◌, length, map, Option, Some, None, option_map}
use Rattle.std.specs.List.{AllByRecursion}
use Rattle.coap_message.specs.Message.{Message}
use Rattle.coap_message.specs.Spelling.{spelling, Spells}
use Rattle.coap_option.specs.Selection.{tags_of}
use Rattle.coap_endpoint.specs.declared.target.Target.{Target}
use Rattle.coap_target.specs.Routes.{AreRoutes}
use Rattle.coap_endpoint.specs.declared.endpoint.Endpoint.{Endpoint}
use Rattle.coap_store.specs.declared.key.CacheKey.{CacheKey}
use Rattle.coap_store.specs.declared.answer.Answer.{Answer}
use Rattle.coap_pending.specs.declared.exchange.ExchangeState.{ExchangeState}
use Rattle.coap_pending.specs.declared.exchange.ExchangeState.TheVariants.{Queued, Sent, Acked, Done}
use Rattle.coap_pending.specs.declared.exchange.Exchange.{Exchange}
use Rattle.coap_pending.specs.declared.exchange.Sending.{Sending}
use Rattle.coap_pending.specs.declared.timer.Timer.{Timer}
use Rattle.coap_pending.specs.declared.waiter.Waiter.{Waiter}
use Rattle.coap_pending.specs.declared.waiter.WaiterState.{WaiterState}
use Rattle.coap_pending.specs.declared.waiter.WaiterState.TheVariants.{Waiting, Delivering}
use Rattle.coap_pending.specs.Exchanges.{is_sent_to}
use Rattle.coap_pending.specs.Waiters.{waits_for}
use Rattle.coap_pending.specs.Ids.{given_in}
use Rattle.coap_pending.specs.Table.{Numbered, IsRising, count}
use Rattle.coap_message.specs.declared.kind.Kind.{Kind}
use Rattle.coap_message.specs.declared.kind.Kind.TheVariants.{Con, Non}
use Rattle.coap_dedup.specs.Lists.{AreUpTo, reply_bytes}
use Rattle.coap_dedup.specs.Records.{Records, AreRecords, living_at}
use Rattle.coap_model.specs.Setting.{Setting}
use Rattle.coap_forward.specs.Messages.{is_get, token_of}
use Rattle.coap_forward.specs.Forms.{forwarded, tag_for}
use Rattle.coap_model.specs.Keys.{key_sent}
use Rattle.coap_model.specs.Verdicts.{may_ask}
use Rattle.coap_model.specs.State.{State, reserved}
use Rattle.coap_model.specs.Standing.{Stage, Service, WaiterStanding, Open, queued, sent, acked, done, waits, delivering, open_in, standing_in, window_ids}
use Rattle.coap_model.specs.Schedules.{IsSchedule, oldest, sends_by}
use Rattle.coap_model.specs.History.{Observation, Act, moves, serves, Action, told_by, Position, index, IsPositionOf, Never, Somewhere, opened_in, admitted_in, ids_in, Opens, Admits, Sends, Serves, Asks, Ends, WasOpened, WasAdmitted, last_of, IsInOrder, AreIds}
use Rattle.coap_model.specs.Changed.{IsTold}
use Rattle.coap_model.specs.Cached.{Cached, kept_for, copied, IsCacheOf, WasCacheAt, IsStoreOf}
use Rattle.coap_model.specs.Remembered.{most_of_client, most_remembered, remembered_at, remembered_for}
use Rattle.coap_model.specs.Justified.{verdict_on, EndsWith, AllJustified}

-- ---- the clock, the numbers and the ids

pub record Clock (history : List Action) (w : State) : Type 0 where
  pub events : w.events ≡ length history
  pub last : w.last ≡ last_of history
  pub in_order : IsInOrder history

pub record Numbers (history : List Action) (w : State) : Type 0 where
  pub opened : w.opened ≡ opened_in history
  pub admitted : w.admitted ≡ admitted_in history

-- The table of Message IDs has the next one, and how many were given out in the window of a moment;
-- at most half of all ids are given out in one window.
pub record Ids (history : List Action) (w : State) : Type 0 where
  pub following : w.ids.following ≡ (w.setting.first_id + ids_in history) % 65536
  pub given :
      (now : ℕ)
      → last_of history ≤ now
      → given_in now w.ids ≡ window_ids (now / 247000) history
  pub windows : (v : ℕ) → window_ids v history ≤ 32768
  pub are_ids : AreIds w.setting.first_id history

-- ---- numbers and stages

abbrev pub stage_at : Endpoint → ExchangeState → Stage
stage_at at Queued = queued
stage_at at Sent = sent at
stage_at at Acked = acked
stage_at at (Done a) = done

abbrev pub stage_seen : Numbered Exchange → Open
stage_seen x =
    record {
      number = x.0;
      client = x.1.client;
      stage = stage_at x.1.key.target.at x.1.state;
    }

abbrev pub service_in : WaiterState → Service
service_in (Waiting exchange) = waits exchange
service_in (Delivering bytes id timer) = delivering

abbrev pub standing_seen : Numbered Waiter → WaiterStanding
standing_seen v =
    record { number = v.0; client = v.1.client; service = service_in v.1.state }

abbrev pub HasNumber : {A : Type 0} → ℕ → List (Numbered A) → Type 0
HasNumber n [] = ⊥
HasNumber n (x ∷ xs) = (n ≡ x.0) ⊎ HasNumber n xs

-- the exchange that a waiter waits for exists
abbrev pub HasExchange : WaiterState → List (Numbered Exchange) → Type 0
HasExchange (Waiting exchange) exchanges = HasNumber exchange exchanges
HasExchange (Delivering bytes id timer) exchanges = Unit {0}

-- Nothing is missing in the tables, and nothing is in them twice.
pub record AreWhole (history : List Action) (w : State) : Type 0 where
  pub exchanges : map stage_seen w.exchanges ≡ open_in history
  pub waiters : map standing_seen w.waiters ≡ standing_in history
  pub rising : IsRising 0 w.exchanges
  pub waiters_rise : IsRising 0 w.waiters
  -- the exchange that a waiter waits for exists, and each exchange has a waiter that waits for it
  pub awaited : AllByRecursion (λ v. HasExchange v.1.state w.exchanges) w.waiters
  pub waited : AllByRecursion (λ x. 0 < count (waits_for x.0) w.waiters) w.exchanges
  -- an exchange that was opened and never ended is there
  pub unended :
      (x : ℕ) → Somewhere (Opens x) history → Never (Ends x) history → HasNumber x w.exchanges
  -- a waiter that was admitted and never served is there
  pub unserved :
      (v x : ℕ) → Somewhere (Admits v x) history → Never (Serves v) history
      → HasNumber v w.waiters

-- ---- what is sent

-- the timer after these transmissions, listed with the last one first
abbrev pub IsTimer : Timer → List Observation → Type 0
IsTimer t [] = ⊥
IsTimer t (e ∷ es) =
    (t.transmissions ≡ length es + 1)
    × (t.started ≡ (oldest e es).now)
    × (t.timeout ≡ (2000 + (oldest e es).draw) * 2 ^ length es)
    × (t.due ≡ e.now + t.timeout)

-- each of them was this datagram, to this endpoint
abbrev pub AreOfBytes : Endpoint → List ℕ → List Observation → Type 0
AreOfBytes to bytes es =
    AllByRecursion (λ e. (e.report.send ≡ Some to) × (e.bytes ≡ bytes)) es

-- the request of the exchange was sent in the history, with this key, and is retransmitted by this
-- schedule
pub record WasAsked
    (setting : Setting) (history : List Action) (x : ℕ) (key : CacheKey) (form : List ℕ)
    (s : Sending)
    : Type 0 where
  pub asking : Position
  pub was_asked : IsPositionOf history asking
  pub asks : Asks setting.salt x asking
  pub asked_key : key_sent asks.sends.to asks.sends.message ≡ key
  pub to : asks.sends.to ≡ key.target.at
  pub id_is : s.id ≡ asks.sends.message.id
  pub number : s.asked ≡ index asking
  pub timer : IsTimer s.timer (sends_by (moves x) history)
  pub bytes : AreOfBytes key.target.at form (sends_by (moves x) history)

-- if there is a sending, the request of the exchange was sent in the history
abbrev pub WasSent :
    Setting → List Action → ℕ → CacheKey → List ℕ → Option Sending → Type 0
WasSent setting history x key form None = Unit {0}
WasSent setting history x key form (Some s) = WasAsked setting history x key form s

-- ---- exchanges

pub record IsQueued (setting : Setting) (history : List Action) (x : Numbered Exchange)
    : Type 0 where
  pub unsent : x.1.sending ≡ None
  pub untainted : x.1.tainted ≡ false
  pub never_sent : Never (Sends setting.salt x.0) history
  pub no_sends : sends_by (moves x.0) history ≡ []
  pub unended : Never (Ends x.0) history

-- An exchange whose request was sent and not answered yet. A GET with a tag may renew what was kept
-- for its key when the exchange was opened, and the taint says whether its target was changed since
-- it was sent.
pub record IsInFlight
    (setting : Setting) (history : List Action) (x : Numbered Exchange) : Type 0 where
  pub sending : Sending
  pub sending_is : x.1.sending ≡ Some sending
  pub asked : WasAsked setting history x.0 x.1.key x.1.form sending
  pub method : is_get asked.asks.sends.message.code ≡ x.1.is_get
  pub former : List Cached
  pub was_cache : WasCacheAt setting asked.asking.before x.0 former
  pub copy_is :
      x.1.is_get ≡ true
      → option_map (λ s. s.response) x.1.copy
      ≡ copied (tags_of asked.asks.sends.message) x.1.key former
  pub told : IsTold x.1.tainted setting x.1.key.target asked.asking history
  pub unended : Never (Ends x.0) history

-- the exchange ended in the history, with this answer
pub record IsDone
    (setting : Setting) (history : List Action) (x : Numbered Exchange) (answer : Answer)
    : Type 0 where
  pub ending : Position
  pub was_ended : IsPositionOf history ending
  pub ends : Ends x.0 ending
  pub with : EndsWith setting x.0 x.1.key ending answer
  pub got : answer.got ≡ ending.action.observation.now
  -- its request was sent in the history, unless it was never sent
  pub was_sent : WasSent setting history x.0 x.1.key x.1.form x.1.sending

-- the state of the exchange agrees with the history
abbrev pub IsState : Setting → List Action → Numbered Exchange → ExchangeState → Type 0
IsState setting history x Queued = IsQueued setting history x
IsState setting history x Sent = IsInFlight setting history x
IsState setting history x Acked = IsInFlight setting history x
IsState setting history x (Done a) = IsDone setting history x a

-- the response that a request may renew: the one that is kept, if the forwarded request has its tag
abbrev pub copy_for : ℕ → Target → Message → Option Message → Option Message
copy_for most t m kept = if is_some (tag_for most t m kept) then kept else None

-- the Message ID in the form: 0 until it is sent
abbrev pub form_id : Option Sending → ℕ
form_id None = 0
form_id (Some s) = s.id

-- the exchange is the one that the history opened under its number
pub record IsExchangeOf
    (setting : Setting) (history : List Action) (x : Numbered Exchange) : Type 0 where
  pub opened : WasOpened setting history x.0
  pub client_is : x.1.client ≡ opened.client
  pub admitted : x.1.admitted ≡ opened.opening.action.observation.now
  pub verdict : verdict_on setting opened.request ≡ may_ask x.1.key
  pub method : x.1.is_get ≡ is_get opened.request.code
  pub former : List Cached
  pub was_cache : IsCacheOf setting opened.opening.before former
  -- with what was kept for its key then: if the request carries its tag, the exchange has a copy of
  -- it, and otherwise none
  pub form_is :
      x.1.form
      ≡ spelling
      (forwarded (token_of setting.salt x.0) x.1.key.target
      (tag_for setting.limits.datagram x.1.key.target opened.request
      (kept_for x.1.key former)) opened.request (form_id x.1.sending))
  pub form_short : length x.1.form ≤ setting.limits.datagram
  pub copy_is :
      option_map (λ s. s.response) x.1.copy
      ≡ copy_for setting.limits.datagram x.1.key.target opened.request (kept_for x.1.key former)
  pub state : IsState setting history x x.1.state

-- ---- waiters

-- a waiter waits: it was admitted to this exchange, which hadn't ended then
pub record IsWaiting
    (setting : Setting) (history : List Action) (v : Numbered Waiter) (exchange : ℕ)
    : Type 0 where
  pub admitted : WasAdmitted setting history v.0
  pub exchange_is : admitted.exchange ≡ exchange
  pub client_is : v.1.client ≡ admitted.client
  pub kind_is : v.1.kind ≡ admitted.request.kind
  pub token_is : v.1.token ≡ admitted.request.token
  pub tags_are : v.1.tags ≡ tags_of admitted.request
  pub unended : Never (Ends exchange) admitted.admission.before
  pub unserved : Never (Serves v.0) history
  pub no_sends : sends_by (serves v.0) history ≡ []
  -- the exchange was opened for a request with the same verdict, and for a GET exactly if this is
  -- one
  pub opened : WasOpened setting history exchange
  pub method : is_get opened.request.code ≡ is_get admitted.request.code
  pub verdict : verdict_on setting opened.request ≡ verdict_on setting admitted.request

-- A waiter was served once, in a Confirmable message: in these bytes, with this id, by this
-- schedule. The token and the tags of its request are dropped.
pub record IsDelivering
    (setting : Setting) (history : List Action) (v : Numbered Waiter) (bytes : List ℕ) (id : ℕ)
    (timer : Timer)
    : Type 0 where
  pub admitted : WasAdmitted setting history v.0
  pub timer_is : IsTimer timer (sends_by (serves v.0) history)
  pub bytes_are : AreOfBytes v.1.client bytes (sends_by (serves v.0) history)
  pub serving : Position
  pub was_served : IsPositionOf history serving
  pub is_serving : Serves v.0 serving
  pub only : (p : Position) → IsPositionOf history p → Serves v.0 p → p ≡ serving
  pub sent : serving.action.observation.report.send ≡ Some v.1.client
  pub answer : Message
  pub spells : Spells serving.action.observation.bytes answer
  pub id_is : id ≡ answer.id
  pub started : timer.started ≡ serving.action.observation.now
  -- no longer than the limit of datagrams, or than 128 bytes, whichever is greater
  pub short : (most : ℕ) → 128 ≤ most → setting.limits.datagram ≤ most → length bytes ≤ most
  pub token_gone : v.1.token ≡ []
  pub tags_gone : v.1.tags ≡ []

abbrev pub IsWaiterIn : Setting → List Action → Numbered Waiter → WaiterState → Type 0
IsWaiterIn setting history v (Waiting exchange) = IsWaiting setting history v exchange
IsWaiterIn setting history v (Delivering bytes id timer) =
    IsDelivering setting history v bytes id timer

-- the waiter is the one that the history admitted under its number
abbrev pub IsWaiterOf : Setting → List Action → Numbered Waiter → Type 0
IsWaiterOf setting history v = IsWaiterIn setting history v v.1.state

-- ---- numbers that aren't used yet

-- no exchange that wasn't opened was sent or ended, and no waiter that wasn't admitted was served
pub record AreUnused (setting : Setting) (history : List Action) : Type 0 where
  pub exchanges :
      (x : ℕ)
      → opened_in history < x
      → Never (Sends setting.salt x) history × Never (Ends x) history
  pub sends : (x : ℕ) → opened_in history < x → sends_by (moves x) history ≡ []
  pub waiters : (v : ℕ) → admitted_in history < v → Never (Serves v) history
  pub deliveries : (v : ℕ) → admitted_in history < v → sends_by (serves v) history ≡ []

-- every message is retransmitted by its schedule
abbrev pub AreSchedules : List Action → Type 0
AreSchedules history = (act : Act) → IsSchedule (sends_by act history)

-- ---- the messages that are remembered

-- The living records are those that the history implies, and they are within their limits.
pub record AreRemembered
    (setting : Setting) (history : List Action) (kind : Kind) (records : Records)
    : Type 0 where
  pub same :
      (now : ℕ)
      → last_of history ≤ now
      → living_at now records ≡ remembered_at kind now history
  pub limit : records.limit ≡ most_remembered kind setting.limits
  pub per_client : records.per_client ≡ most_of_client kind setting.limits
  pub lifetime : records.lifetime ≡ remembered_for kind
  pub are : AreRecords records
  pub until : AreUpTo (last_of history) records.items
  -- a reply is no longer than the limit of datagrams, or than 128 bytes, whichever is greater
  pub short :
      (most : ℕ)
      → 128 ≤ most
      → setting.limits.datagram ≤ most
      → AllByRecursion (λ r. reply_bytes r ≤ most) records.items

-- ---- limits

pub record IsWithin (w : State) : Type 0 where
  pub exchanges : length w.exchanges ≤ w.setting.limits.exchanges
  pub waiters : length w.waiters ≤ w.setting.limits.waiters
  -- at most NSTART requests to one endpoint are in the state `Sent`
  pub pace : (to : Endpoint) → count (is_sent_to to) w.exchanges ≤ w.setting.limits.nstart
  -- each reserved id can be given out in the window of any later moment
  pub ids : (now : ℕ) → w.last ≤ now → given_in now w.ids + reserved w ≤ 32768

-- ---- all of it

-- the tables agree with these actions
pub record Bears (actions : List Action) (w : State) : Type 0 where
  pub routes : AreRoutes w.setting.routes
  pub clock : Clock actions w
  pub numbers : Numbers actions w
  pub ids : Ids actions w
  pub unused : AreUnused w.setting actions
  pub schedules : AreSchedules actions
  pub whole : AreWhole actions w
  pub exchanges : AllByRecursion (IsExchangeOf w.setting actions) w.exchanges
  pub waiters : AllByRecursion (IsWaiterOf w.setting actions) w.waiters
  pub store : IsStoreOf w.setting actions w.store
  pub con_records : AreRemembered w.setting actions Con w.con_records
  pub non_records : AreRemembered w.setting actions Non w.non_records
  pub within : IsWithin w
  pub past : AllJustified w.setting actions

-- the tables agree with some actions whose observations are this history
pub record Carries (history : List Observation) (w : State) : Type 0 where
  pub actions : List Action
  pub told : told_by actions ≡ history
  pub bears : Bears actions w
