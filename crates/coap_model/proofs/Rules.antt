-- The cases of a step, each with what is known in it.
use Rattle.std.proofs.Common.{◌≡◌, ℕ, Bool, true, false, cond, List, Option, Some, None, refl, sym, ap, ◌∙◌, subst, arith}
use Rattle.std.specs.Prelude.{◌&&◌, ◌||◌, ◌/◌, ◌==◌, ◌≤◌, ◌<◌, ◌+◌, [], ◌∷◌, ◌++◌, nat_le, not, option_map, if◌then◌else◌}
use Rattle.std.proofs.lemmas.Bool.{eqb-true, leb-true, leb-false, and_parts, and_from}
use Rattle.std.proofs.lemmas.Option.{same_Some}
use Rattle.coap_message.specs.declared.kind.Kind.{Kind}
use Rattle.coap_message.specs.declared.kind.Kind.TheVariants.{Con, Non, Ack, Rst}
use Rattle.coap_message.specs.declared.code.Code.{Code}
use Rattle.coap_model.specs.declared.deed.Deed.{Deed}
use Rattle.coap_model.specs.declared.deed.Deed.TheVariants.{Joined, Opened, Answered}
use Rattle.coap_model.specs.declared.deed.Lacks.{Lacks}
use Rattle.coap_model.specs.declared.deed.Refusal.{Refusal}
use Rattle.coap_model.specs.declared.deed.Refusal.TheVariants.{Length}
use Rattle.coap_model.specs.declared.deed.Silence.{Silence}
use Rattle.coap_model.specs.declared.deed.Unprocessed.{Unprocessed}
use Rattle.coap_model.specs.declared.deed.Unprocessed.TheVariants.{Nothing}
use Rattle.coap_model.specs.Deeds.{outcome_of, silence_of, held_of, unread, unprocessable}
use Rattle.coap_message.specs.declared.message.Head.{Head}
use Rattle.coap_message.specs.Uint.{IsBytes}
use Rattle.coap_message.specs.Message.{Message}
use Rattle.coap_message.specs.Spelling.{spelling}
use Rattle.coap_message.specs.Reading.{head_at}
use Rattle.coap_message.proofs.WholeMessages.{head_read}
use Rattle.coap_endpoint.specs.declared.endpoint.Endpoint.{Endpoint}
use Rattle.coap_store.specs.declared.key.CacheKey.{CacheKey}
use Rattle.coap_store.specs.Entries.{Entry, entry_key, entry_size}
use Rattle.coap_store.specs.Freshness.{is_usable}
use Rattle.coap_store.specs.Lists.{of_key, others, put}
use Rattle.coap_model.specs.declared.report.Storing.{Storing}
use Rattle.coap_model.specs.declared.report.Storing.TheVariants.{Kept, TooLarge, NoMemory, NotStored}
use Rattle.coap_forward.specs.Changes.{changed_by}
use Rattle.coap_forward.specs.Forms.{form_fits}
use Rattle.coap_store.specs.declared.stored.Stored.{Stored}
use Rattle.coap_store.specs.declared.answer.Answer.{Answer}
use Rattle.coap_pending.specs.declared.exchange.Exchange.{Exchange}
use Rattle.coap_pending.specs.declared.waiter.Waiter.{Waiter}
use Rattle.coap_pending.specs.Table.{Numbered, changed_at, first_that, item_at, without}
use Rattle.coap_pending.specs.Timers.{started, fire_of}
use Rattle.coap_pending.specs.Waiters as waiters
use Rattle.coap_model.specs.Events.{Event, arrival, tick, IsEvent}
use Rattle.coap_message.specs.Codes.{is_request, is_response}
use Rattle.coap_forward.specs.Messages.{is_con, is_get, brings_requests, brings_responses, is_ack, is_rst, is_bare, is_empty, is_recorded, acknowledgement}
use Rattle.coap_model.specs.Verdicts.{Verdict, refused_with, may_ask, verdict_of}
use Rattle.coap_dedup.specs.declared.record.Record.{Record}
use Rattle.coap_model.specs.State.{State, Step, has_record_room, has_room_to_join, has_room_to_open, lacks_to_join, lacks_to_open, can_reply, known_of, remembers, repeats, drops, ignores, rejects, unprocessed, silent, says, later}
use Rattle.coap_model.specs.Requests.{lacks_id, refuses, overloads, new_exchange, new_waiter, joins, opens, turns_down, turns_away, hits, on_exchange_needed, on_joinable, on_miss, on_entry, on_key, on_verdict, on_new, on_known, on_request}
use Rattle.coap_model.specs.Answers.{Arrived, with_changed, may_store, answer_for, entry_made, answers_so, keeps_if, stores, answers_with, answers}
use Rattle.coap_model.specs.Responses.{awaiting, on_not_confirmable, on_new_confirmable, on_unknown, on_response_in, on_response}
use Rattle.coap_model.specs.Empties.{acknowledges, closes, on_delivered, on_delivery, settles, on_found, on_empty}
use Rattle.coap_model.specs.Empties as empties
use Rattle.coap_pending.specs.declared.exchange.ExchangeState.{ExchangeState}
use Rattle.coap_pending.specs.declared.exchange.ExchangeState.TheVariants.{Queued, Sent, Acked, Done}
use Rattle.coap_pending.specs.declared.timer.Timer.{Timer}
use Rattle.coap_pending.specs.declared.timer.Fire.{Fire}
use Rattle.coap_pending.specs.declared.timer.Fire.TheVariants.{Again, GiveUp}
use Rattle.coap_pending.specs.declared.waiter.WaiterState.{WaiterState}
use Rattle.coap_pending.specs.declared.waiter.WaiterState.TheVariants.{Waiting, Delivering}
use Rattle.coap_pending.specs.Exchanges as exchanges
use Rattle.coap_pending.specs.Exchanges.{deadline, answer_at, answer_in, fire_of_sending, is_sent, is_joinable, was_sent_as}
use Rattle.coap_model.specs.declared.due.DueItem.{DueItem}
use Rattle.coap_model.specs.declared.due.DueItem.TheVariants.{OfExchange, OfWaiter}
use Rattle.coap_model.specs.Ticks.{item_due, if_due, sends, resends, gives_up, on_request_timeout, in_time, on_exchange, given_to, tells, redelivers, abandons, on_delivery_timeout, on_answer, on_awaited as on_exchange_of, on_waiting, on_waiter, idles, on_item}
use Rattle.coap_model.specs.Step.{on_no_response, on_no_request, on_message, message_in, on_read, step_of}
use Rattle.coap_model.proofs.Encodings.{message_in-is}

-- a request that is processed arrived in these bytes
pub record Asked (w : State) (bytes : List ℕ) (m : Message) : Type 0 where
  pub read : message_in w.setting.limits.datagram bytes ≡ Some m
  pub request : (brings_requests m.kind && is_request m.code) ≡ true

-- and it is new, with room to remember it
pub record IsFirst (w : State) (now : ℕ) (client : Endpoint) (bytes : List ℕ) (m : Message) : Type 0 where
  pub fits : IsBytes bytes
  pub asked : Asked w bytes m
  pub unknown : known_of w now client m ≡ None
  pub room : has_record_room w now client m.kind ≡ true

-- a message that is remembered arrived in these bytes
pub record Recorded (w : State) (bytes : List ℕ) (m : Message) : Type 0 where
  pub read : message_in w.setting.limits.datagram bytes ≡ Some m
  pub recorded : is_recorded m ≡ true

-- what an Empty message refers to: an exchange whose request was sent, and isn't answered
pub record IsAbout (w : State) (now : ℕ) (source : Endpoint) (m : Message) (x : Numbered Exchange) : Type 0 where
  pub bare : is_bare m ≡ true
  pub first : first_that (was_sent_as source m.id now) w.exchanges ≡ Some x.0
  pub found : item_at x.0 w.exchanges ≡ Some x.1
  pub sent : is_sent x.1 ≡ true

-- what an Empty message refers to otherwise: an answer that a waiter was sent
pub record IsOfAnswer (w : State) (now : ℕ) (source : Endpoint) (m : Message) (number : ℕ) : Type 0 where
  pub bare : is_bare m ≡ true
  pub first : first_that (waiters.was_sent_as source m.id now) w.waiters ≡ Some number

-- a message gives an exchange its answer: a response that it awaits, or a Reset
pub data IsAnswerFor (w : State) (now : ℕ) (source : Endpoint) (m : Message) (x : Numbered Exchange) : Type 0 where
  by_response : (brings_responses m.kind && is_response m.code) ≡ true → awaiting w source m ≡ Some x → IsAnswerFor w now source m x
  by_reset : IsAbout w now source m x → is_ack m.kind ≡ false → IsAnswerFor w now source m x

-- a datagram whose head isn't Confirmable
abbrev pub IsNotCon : List ℕ → Type 0
IsNotCon bytes = (head : Head) → head_at bytes ≡ Some head → is_con head.kind ≡ false

-- a message that is neither a request that is processed, nor a duplicate, nor awaited
pub record IsNoOnes (w : State) (now : ℕ) (source : Endpoint) (m : Message) : Type 0 where
  pub request : (brings_requests m.kind && is_request m.code) ≡ false
  pub unknown : is_recorded m ≡ true → known_of w now source m ≡ None
  pub response : (brings_responses m.kind && is_response m.code) ≡ true → awaiting w source m ≡ None
  pub about : (x : Numbered Exchange) → ¬ IsAbout w now source m x
  pub answer : (number : ℕ) → ¬ IsOfAnswer w now source m number

-- a datagram that holds no other message
abbrev pub IsNothing : State → ℕ → Endpoint → List ℕ → Type 0
IsNothing w now source bytes = (m : Message) → message_in w.setting.limits.datagram bytes ≡ Some m → IsNoOnes w now source m

-- the verdict on a request for this proxy
abbrev pub verdict_in : State → Message → Verdict
verdict_in w m = verdict_of w.setting.routes m

-- the request that would be forwarded for a key fits a datagram of this proxy
abbrev pub fits_in : State → CacheKey → Message → Bool
fits_in w key m = form_fits w.setting.limits.datagram key.target None m

-- the store has no entry with the key that is usable at this moment
abbrev pub IsMissed : State → ℕ → CacheKey → Type 0
IsMissed w now key = (entry : Entry) → of_key entry_key key w.store ≡ Some entry → is_usable now entry.1 ≡ false

-- the request has to be forwarded: it isn't a GET, or its key is missed and no exchange may be
-- joined
pub record IsUnanswered (w : State) (now : ℕ) (key : CacheKey) (m : Message) : Type 0 where
  pub missed : is_get m.code ≡ true → IsMissed w now key
  pub alone : is_get m.code ≡ true → first_that (is_joinable key) w.exchanges ≡ None

-- what is stored for the key of a request; nothing if it isn't a GET
abbrev pub held_for : State → CacheKey → Message → Option Stored
held_for w key m = if is_get m.code then option_map (λ (e : Entry). e.1) (of_key entry_key key w.store) else None

-- a request is to be refused by this proxy for this
pub data IsDenied (w : State) (now : ℕ) (m : Message) (why : Refusal) : Type 0 where
  by_verdict : verdict_in w m ≡ refused_with why → IsDenied w now m why
  by_length : (key : CacheKey) → verdict_in w m ≡ may_ask key → IsUnanswered w now key m → fits_in w key m ≡ false → why ≡ Length → IsDenied w now m why

-- there is no room for what the request needs: to join the exchange that is found, or to open one
pub data IsFull (w : State) (now : ℕ) (client : Endpoint) (key : CacheKey) (m : Message) : Type 0 where
  to_join : (exchange : ℕ) → is_get m.code ≡ true → IsMissed w now key → first_that (is_joinable key) w.exchanges ≡ Some exchange → has_room_to_join w now client ≡ false → IsFull w now client key m
  to_open : IsUnanswered w now key m → fits_in w key m ≡ true → has_room_to_open w now client ≡ false → IsFull w now client key m

-- what the store does with an answer, and the store after that
pub data IsStoring (w : State) (now : ℕ) (grown : Bool) (x : Numbered Exchange) (a : Answer) : Storing → List Entry → Type 0 where
  kept : may_store x.1 a ≡ true → entry_size (entry_made w now x.1 a) ≤ w.setting.limits.cache_bytes → IsStoring w now grown x a Kept (put entry_key entry_size w.setting.limits.cache_bytes w.setting.limits.cache_entries (entry_made w now x.1 a) w.store)
  too_large : may_store x.1 a ≡ true → w.setting.limits.cache_bytes < entry_size (entry_made w now x.1 a) → IsStoring w now grown x a TooLarge (others entry_key x.1.key w.store)
  no_memory : may_store x.1 a ≡ true → entry_size (entry_made w now x.1 a) ≤ w.setting.limits.cache_bytes → of_key entry_key x.1.key w.store ≡ None → grown ≡ false → IsStoring w now grown x a NoMemory w.store
  not_stored : may_store x.1 a ≡ false → IsStoring w now grown x a NotStored w.store

-- the tables after the changes of a message that answers an exchange
abbrev pub changed_state : State → Message → Numbered Exchange → State
changed_state w m x = with_changed (changed_by x.1.key.target m) w

-- an exchange is due first, and exists
pub record IsTurnOf (w : State) (now at number : ℕ) (x : Exchange) : Type 0 where
  pub due : if_due now (item_due w) ≡ Some (OfExchange at number)
  pub found : item_at number w.exchanges ≡ Some x

-- it reached its deadline, or its request was transmitted as often or for as long as allowed
pub data IsOver (w : State) (now : ℕ) (x : Exchange) : Type 0 where
  overdue : deadline w.setting.limits.exchange_ms x ≤ now → IsOver w now x
  unheard : x.state ≡ Sent → now < deadline w.setting.limits.exchange_ms x → fire_of_sending now x.sending ≡ GiveUp → IsOver w now x

-- something is due that doesn't exist, or isn't due
pub data IsStuck (w : State) (now : ℕ) : Type 0 where
  no_exchange : (at number : ℕ) → if_due now (item_due w) ≡ Some (OfExchange at number) → item_at number w.exchanges ≡ None → IsStuck w now
  acknowledged : (at number : ℕ) (x : Exchange) → IsTurnOf w now at number x → x.state ≡ Acked → now < deadline w.setting.limits.exchange_ms x → IsStuck w now
  answered : (at number : ℕ) (x : Exchange) (a : Answer) → IsTurnOf w now at number x → x.state ≡ Done a → IsStuck w now
  no_waiter : (at number : ℕ) → if_due now (item_due w) ≡ Some (OfWaiter at number) → item_at number w.waiters ≡ None → IsStuck w now
  unanswered : (at number exchange : ℕ) (v : Waiter) → if_due now (item_due w) ≡ Some (OfWaiter at number) → item_at number w.waiters ≡ Some v → v.state ≡ Waiting exchange → answer_in exchange w.exchanges ≡ None → IsStuck w now

-- what is sent if a message is accepted: nothing, or an acknowledgement if it is Confirmable
pub data IsTakenUp (source : Endpoint) (m : Message) : Option Endpoint → List ℕ → Type 0 where
  silently : is_con m.kind ≡ false → IsTakenUp source m None []
  with_acknowledgement : is_con m.kind ≡ true → IsTakenUp source m (Some source) (spelling (acknowledgement m.id))

-- a step with this deed, which sends this, and leaves these tables
abbrev pub sending : Deed → Option Endpoint → List ℕ → State → Step
sending deed send told w = record { deed = deed; report = record { send = send; outcome = outcome_of deed }; bytes = told; state = w }

-- a waiter waits for an exchange that existed
abbrev pub joined_state : State → ℕ → Endpoint → Message → ℕ → State
joined_state w now client m exchange =
    record (later w now) { waiters = w.waiters ++ new_waiter w client m exchange ∷ []; admitted = w.admitted + 1 }

-- and for one that is opened
abbrev pub opened_state : State → ℕ → Endpoint → Message → CacheKey → Option Stored → State
opened_state w now client m key stored =
    record (later w now) { exchanges = w.exchanges ++ new_exchange w now client m key stored ∷ []; waiters = w.waiters ++ new_waiter w client m (w.opened + 1) ∷ []; opened = w.opened + 1; admitted = w.admitted + 1 }

-- the waiters that are left after one was sent this message: without it, or with it, until it
-- acknowledges the message
pub data IsTold (w : State) (now draw number : ℕ) (m : Message) : List (Numbered Waiter) → Type 0 where
  done_with : is_con m.kind ≡ false → IsTold w now draw number m (without number w.waiters)
  to_acknowledge : is_con m.kind ≡ true → IsTold w now draw number m (changed_at number (waiters.delivered (spelling m) m.id (started now draw)) w.waiters)

-- the waiter that is due first was sent its answer, and exists
pub record IsTurnOfTold (w : State) (now at number : ℕ) (v : Waiter) (bytes : List ℕ) (id : ℕ) (timer : Timer) : Type 0 where
  pub due : if_due now (item_due w) ≡ Some (OfWaiter at number)
  pub found : item_at number w.waiters ≡ Some v
  pub state : v.state ≡ Delivering bytes id timer

-- the exchange with a number has this answer, and this is stored
abbrev pub answered_state : State → ℕ → ℕ → Answer → List Entry → State
answered_state w now n a store = record (later w now) { exchanges = changed_at n (exchanges.answered a) w.exchanges; store = store }

-- the cases of a step, each with what is known in it
pub data Rule (w : State) (now draw : ℕ) (grown : Bool) : Event → Step → Type 0 where
  refusing : (client : Endpoint) (bytes : List ℕ) (m : Message) (why : Refusal) → IsFirst w now client bytes m → IsDenied w now m why → can_reply w now m.kind ≡ true → Rule w now draw grown (arrival client bytes) (remembers now client m (refuses w now client m why))
  lacking : (client : Endpoint) (bytes : List ℕ) (m : Message) → IsFirst w now client bytes m → can_reply w now m.kind ≡ false → Rule w now draw grown (arrival client bytes) (remembers now client m (lacks_id w now))
  overloading : {lacks : Lacks} (client : Endpoint) (bytes : List ℕ) (m : Message) (key : CacheKey) → IsFirst w now client bytes m → verdict_in w m ≡ may_ask key → IsFull w now client key m → can_reply w now m.kind ≡ true → Rule w now draw grown (arrival client bytes) (remembers now client m (overloads w now client m lacks))
  joining : (client : Endpoint) (bytes : List ℕ) (m : Message) (key : CacheKey) (exchange : ℕ) (send : Option Endpoint) (told : List ℕ) → IsFirst w now client bytes m → is_get m.code ≡ true → verdict_in w m ≡ may_ask key → IsMissed w now key → first_that (is_joinable key) w.exchanges ≡ Some exchange → has_room_to_join w now client ≡ true → IsTakenUp client m send told → Rule w now draw grown (arrival client bytes) (remembers now client m (sending (Joined (w.admitted + 1) exchange) send told (joined_state w now client m exchange)))
  opening : (client : Endpoint) (bytes : List ℕ) (m : Message) (key : CacheKey) (send : Option Endpoint) (told : List ℕ) → IsFirst w now client bytes m → verdict_in w m ≡ may_ask key → IsUnanswered w now key m → fits_in w key m ≡ true → has_room_to_open w now client ≡ true → IsTakenUp client m send told → Rule w now draw grown (arrival client bytes) (remembers now client m (sending (Opened (w.admitted + 1) (w.opened + 1) (held_of m (held_for w key m))) send told (opened_state w now client m key (held_for w key m))))
  hitting : (client : Endpoint) (bytes : List ℕ) (m : Message) (key : CacheKey) (entry : Entry) → IsFirst w now client bytes m → is_get m.code ≡ true → verdict_in w m ≡ may_ask key → of_key entry_key key w.store ≡ Some entry → is_usable now entry.1 ≡ true → can_reply w now m.kind ≡ true → Rule w now draw grown (arrival client bytes) (remembers now client m (hits w now client m key entry.1))
  repeating : (source : Endpoint) (bytes : List ℕ) (m : Message) (known : Record) → IsBytes bytes → Recorded w bytes m → known_of w now source m ≡ Some known → Rule w now draw grown (arrival source bytes) (repeats w now source known.reply)
  dropping : (source : Endpoint) (bytes : List ℕ) (m : Message) → IsBytes bytes → Recorded w bytes m → (is_response m.code ≡ true → (x : Numbered Exchange) × (awaiting w source m ≡ Some x)) → known_of w now source m ≡ None → has_record_room w now source m.kind ≡ false → Rule w now draw grown (arrival source bytes) (drops w now m.kind)
  answering : (source : Endpoint) (bytes : List ℕ) (m : Message) (x : Numbered Exchange) (storing : Storing) (store : List Entry) → IsBytes bytes → message_in w.setting.limits.datagram bytes ≡ Some m → IsAnswerFor w now source m x → is_con m.kind ≡ false → IsStoring (changed_state w m x) now grown x (answer_for w now m x.1) storing store → Rule w now draw grown (arrival source bytes) (silent (Answered x.0 storing) (answered_state (changed_state w m x) now x.0 (answer_for w now m x.1) store))
  answering_con : (source : Endpoint) (bytes : List ℕ) (m : Message) (x : Numbered Exchange) (storing : Storing) (store : List Entry) → IsBytes bytes → Recorded w bytes m → IsAnswerFor w now source m x → is_con m.kind ≡ true → known_of w now source m ≡ None → has_record_room w now source m.kind ≡ true → IsStoring (changed_state w m x) now grown x (answer_for w now m x.1) storing store
      → Rule w now draw grown (arrival source bytes) (remembers now source m (says (Answered x.0 storing) source (acknowledgement m.id) (answered_state (changed_state w m x) now x.0 (answer_for w now m x.1) store)))
  acknowledging : (source : Endpoint) (bytes : List ℕ) (m : Message) (x : Numbered Exchange) → IsBytes bytes → message_in w.setting.limits.datagram bytes ≡ Some m → IsAbout w now source m x → is_ack m.kind ≡ true → Rule w now draw grown (arrival source bytes) (acknowledges w now x.0)
  closing : (source : Endpoint) (bytes : List ℕ) (m : Message) (number : ℕ) → IsBytes bytes → message_in w.setting.limits.datagram bytes ≡ Some m → IsOfAnswer w now source m number → Rule w now draw grown (arrival source bytes) (closes w now number)
  rejecting : {why : Unprocessed} (source : Endpoint) (bytes : List ℕ) (head : Head) → head_at bytes ≡ Some head → is_con head.kind ≡ true → IsNothing w now source bytes → Rule w now draw grown (arrival source bytes) (rejects w now source head.id why)
  ignoring : {why : Unprocessed} (source : Endpoint) (bytes : List ℕ) → IsNotCon bytes → IsNothing w now source bytes → Rule w now draw grown (arrival source bytes) (ignores w now why)
  forwarding : (at number : ℕ) (x : Exchange) → IsTurnOf w now at number x → x.state ≡ Queued → now < deadline w.setting.limits.exchange_ms x → Rule w now draw grown tick (sends w now draw number x)
  resending : (at number : ℕ) (x : Exchange) → IsTurnOf w now at number x → x.state ≡ Sent → now < deadline w.setting.limits.exchange_ms x → fire_of_sending now x.sending ≡ Again → Rule w now draw grown tick (resends w now number x)
  giving_up : {silence : Silence} (at number : ℕ) (x : Exchange) → IsTurnOf w now at number x → IsOver w now x → Rule w now draw grown tick (gives_up w now number silence)
  delivering : (at number exchange : ℕ) (v : Waiter) (x : Exchange) (a : Answer) (left : List (Numbered Waiter)) → if_due now (item_due w) ≡ Some (OfWaiter at number) → item_at number w.waiters ≡ Some v → v.state ≡ Waiting exchange → item_at exchange w.exchanges ≡ Some x → answer_at x ≡ Some a → IsTold w now draw number (given_to w now v x.is_get a) left → Rule w now draw grown tick (tells w now number v exchange (given_to w now v x.is_get a) left)
  redelivering : (at number : ℕ) (v : Waiter) (bytes : List ℕ) (id : ℕ) (timer : Timer) → IsTurnOfTold w now at number v bytes id timer → fire_of now timer ≡ Again → Rule w now draw grown tick (redelivers w now number v bytes)
  abandoning : (at number : ℕ) (v : Waiter) (bytes : List ℕ) (id : ℕ) (timer : Timer) → IsTurnOfTold w now at number v bytes id timer → fire_of now timer ≡ GiveUp → Rule w now draw grown tick (abandons w now number)
  idling : if_due now (item_due w) ≡ None → Rule w now draw grown tick (idles w now)
  -- what never occurs: something is due that doesn't exist, or isn't due
  stuck : IsStuck w now → Rule w now draw grown tick (idles w now)

-- ---- types and codes

-- one of two holds
or_first : (a b : Bool) → a ≡ true → (a || b) ≡ true
or_first true b e = refl
or_first false b e = absurd cc

-- or the other
or_second : (a b : Bool) → b ≡ true → (a || b) ≡ true
or_second true b e = refl
or_second false b e = e

-- a code is not both a method and a response
pub no_response : (code : Code) → is_request code ≡ true → is_response code ≡ true → ⊥
no_response code request response =
    let zero = eqb-true (code.0 / 32) 0 (and_parts (code.0 / 32 == 0) (not (code.0 == 0)) request).0 in
    let two = leb-true 2 (code.0 / 32) (and_parts (nat_le 2 (code.0 / 32)) (nat_le (code.0 / 32) 5) response).0 in
    omega (arith, zero, two)

-- an Empty message isn't a response
pub empty_no_response : (m : Message) → is_bare m ≡ true → is_response m.code ≡ true → ⊥
empty_no_response m bare response =
    let zero = eqb-true m.code.0 0 (and_parts (is_empty m.code) (is_ack m.kind || is_rst m.kind) bare).0 in
    let class : m.code.0 / 32 ≡ 0 = ap (λ (n : ℕ). n / 32) zero in
    let two = leb-true 2 (m.code.0 / 32) (and_parts (nat_le 2 (m.code.0 / 32)) (nat_le (m.code.0 / 32) 5) response).0 in
    omega (arith, class, two)

-- an acknowledgement or a Reset brings no request
bare_kind : (k : Kind) → (is_ack k || is_rst k) ≡ true → (brings_requests k ≡ false) × (is_con k ≡ false)
bare_kind Con e = absurd cc
bare_kind Non e = absurd cc
bare_kind Ack e = (refl, refl)
bare_kind Rst e = (refl, refl)

-- a bare message brings no request, and isn't Confirmable
pub bare_no_request : (m : Message) → is_bare m ≡ true → (brings_requests m.kind && is_request m.code) ≡ false
bare_no_request m bare = ap (λ (b : Bool). b && is_request m.code) (bare_kind m.kind (and_parts (is_empty m.code) (is_ack m.kind || is_rst m.kind) bare).1).0

-- so a bare message isn't Confirmable
pub bare_not_con : (m : Message) → is_bare m ≡ true → is_con m.kind ≡ false
bare_not_con m bare = (bare_kind m.kind (and_parts (is_empty m.code) (is_ack m.kind || is_rst m.kind) bare).1).1

-- what isn't a request and isn't Confirmable isn't remembered
pub unrecorded : (m : Message) → (brings_requests m.kind && is_request m.code) ≡ false → is_con m.kind ≡ false → is_recorded m ≡ true → ⊥
unrecorded m request con recorded =
    let none : is_recorded m ≡ false = ap (λ (b : Bool). b || (is_con m.kind && is_response m.code)) request ∙ ap (λ (b : Bool). b && is_response m.code) con in
    let both : false ≡ true = sym none ∙ recorded in
    absurd cc

-- a Confirmable message may bring a response
con_brings : (k : Kind) → is_con k ≡ true → brings_responses k ≡ true
con_brings Con e = refl
con_brings Non e = absurd cc
con_brings Ack e = absurd cc
con_brings Rst e = absurd cc

-- a message that is neither a request nor a response isn't remembered
pub neither : (m : Message) → (brings_requests m.kind && is_request m.code) ≡ false → (brings_responses m.kind && is_response m.code) ≡ false → is_recorded m ≡ true → ⊥
neither m request response recorded =
    let as_response : (is_con m.kind && is_response m.code) ≡ true = sym (ap (λ (b : Bool). b || (is_con m.kind && is_response m.code)) request) ∙ recorded in
    let parts = and_parts (is_con m.kind) (is_response m.code) as_response in
    let both : false ≡ true = sym response ∙ and_from (brings_responses m.kind) (is_response m.code) (con_brings m.kind parts.0) parts.1 in
    absurd cc

-- a type that brings requests may bring a response
pub request-brings : (k : Kind) → brings_requests k ≡ true → brings_responses k ≡ true
request-brings Con e = refl
request-brings Non e = refl
request-brings Ack e = absurd cc
request-brings Rst e = absurd cc

-- and a Confirmable message may bring a request
con_requests : (k : Kind) → is_con k ≡ true → brings_requests k ≡ true
con_requests Con e = refl
con_requests Non e = absurd cc
con_requests Ack e = absurd cc
con_requests Rst e = absurd cc

-- a message that is remembered is Confirmable or Non-confirmable
pub recorded-kind : (m : Message) → is_recorded m ≡ true → brings_requests m.kind ≡ true
recorded-kind m recorded = go (brings_requests m.kind && is_request m.code) refl
  where
    go : (b : Bool) → (brings_requests m.kind && is_request m.code) ≡ b → brings_requests m.kind ≡ true
    go true e = (and_parts (brings_requests m.kind) (is_request m.code) e).0
    go false e = con_requests m.kind (and_parts (is_con m.kind) (is_response m.code) (sym (ap (λ (b : Bool). b || (is_con m.kind && is_response m.code)) e) ∙ recorded)).0

-- a response that is remembered is one that may be awaited
pub recorded-response : (m : Message) → is_recorded m ≡ true → is_response m.code ≡ true → (brings_responses m.kind && is_response m.code) ≡ true
recorded-response m recorded response = and_from (brings_responses m.kind) (is_response m.code) (request-brings m.kind (recorded-kind m recorded)) response

-- ---- requests

-- a request that deserves a code is refused with it, if an id is free
rule_refusal : (w : State) (now draw : ℕ) (grown : Bool) (client : Endpoint) (bytes : List ℕ) (m : Message) (why : Refusal) → IsFirst w now client bytes m → IsDenied w now m why → Rule w now draw grown (arrival client bytes) (remembers now client m (turns_down w now client m why))
rule_refusal w now draw grown client bytes m why first denied = go (can_reply w now m.kind) refl
  where
    go : (b : Bool) → can_reply w now m.kind ≡ b → Rule w now draw grown (arrival client bytes) (remembers now client m (cond b (refuses w now client m why) (lacks_id w now)))
    go true free = refusing client bytes m why first denied free
    go false free = lacking client bytes m first free

-- if there is no room for what a request needs, it is turned away
rule_full : (w : State) (now draw : ℕ) (grown : Bool) (client : Endpoint) (bytes : List ℕ) (m : Message) (key : CacheKey) (lacks : Lacks) → IsFirst w now client bytes m → verdict_in w m ≡ may_ask key → IsFull w now client key m → Rule w now draw grown (arrival client bytes) (remembers now client m (turns_away w now client m lacks))
rule_full w now draw grown client bytes m key lacks first e full = go (can_reply w now m.kind) refl
  where
    go : (b : Bool) → can_reply w now m.kind ≡ b → Rule w now draw grown (arrival client bytes) (remembers now client m (cond b (overloads w now client m lacks) (lacks_id w now)))
    go true free = overloading client bytes m key first e full free
    go false free = lacking client bytes m first free

-- a request that has to be forwarded is a case by its length and by the room
rule_wanted : (w : State) (now draw : ℕ) (grown : Bool) (client : Endpoint) (bytes : List ℕ) (m : Message) (key : CacheKey) (stored : Option Stored) → IsFirst w now client bytes m → verdict_in w m ≡ may_ask key → IsUnanswered w now key m → held_for w key m ≡ stored → Rule w now draw grown (arrival client bytes) (remembers now client m (on_exchange_needed w now client m key stored))
rule_wanted w now draw grown client bytes m key stored first e none held = by_fit (fits_in w key m) refl
  where
    opened_deed : Option Stored → Deed
    opened_deed s = Opened (w.admitted + 1) (w.opened + 1) (held_of m s)

    up : fits_in w key m ≡ true → has_room_to_open w now client ≡ true → (b : Bool) → is_con m.kind ≡ b → Rule w now draw grown (arrival client bytes) (remembers now client m (cond b (says (opened_deed stored) client (acknowledgement m.id) (opened_state w now client m key stored)) (silent (opened_deed stored) (opened_state w now client m key stored))))
    up short there true con = subst (λ (s : Option Stored). Rule w now draw grown (arrival client bytes) (remembers now client m (says (opened_deed s) client (acknowledgement m.id) (opened_state w now client m key s)))) held (opening client bytes m key (Some client) (spelling (acknowledgement m.id)) first e none short there (with_acknowledgement con))
    up short there false other = subst (λ (s : Option Stored). Rule w now draw grown (arrival client bytes) (remembers now client m (silent (opened_deed s) (opened_state w now client m key s)))) held (opening client bytes m key None [] first e none short there (silently other))

    room : fits_in w key m ≡ true → (b : Bool) → has_room_to_open w now client ≡ b → Rule w now draw grown (arrival client bytes) (remembers now client m (cond b (opens w now client m key stored) (turns_away w now client m (lacks_to_open w now client))))
    room short true there = up short there (is_con m.kind) refl
    room short false full = rule_full w now draw grown client bytes m key (lacks_to_open w now client) first e (to_open none short full)

    by_fit : (b : Bool) → fits_in w key m ≡ b → Rule w now draw grown (arrival client bytes) (remembers now client m (cond b (cond (has_room_to_open w now client) (opens w now client m key stored) (turns_away w now client m (lacks_to_open w now client))) (turns_down w now client m Length)))
    by_fit true short = room short (has_room_to_open w now client) refl
    by_fit false long = rule_refusal w now draw grown client bytes m Length first (by_length key e none long refl)

-- a GET whose key is missed is a case by the exchange that may be joined, and by the room
rule_miss : (w : State) (now draw : ℕ) (grown : Bool) (client : Endpoint) (bytes : List ℕ) (m : Message) (key : CacheKey) (stored : Option Stored) → IsFirst w now client bytes m → is_get m.code ≡ true → verdict_in w m ≡ may_ask key → IsMissed w now key → held_for w key m ≡ stored → Rule w now draw grown (arrival client bytes) (remembers now client m (on_miss w now client m key stored))
rule_miss w now draw grown client bytes m key stored first get e missed held = by_search (first_that (is_joinable key) w.exchanges) refl
  where
    up : (exchange : ℕ) → first_that (is_joinable key) w.exchanges ≡ Some exchange → has_room_to_join w now client ≡ true → (b : Bool) → is_con m.kind ≡ b → Rule w now draw grown (arrival client bytes) (remembers now client m (cond b (says (Joined (w.admitted + 1) exchange) client (acknowledgement m.id) (joined_state w now client m exchange)) (silent (Joined (w.admitted + 1) exchange) (joined_state w now client m exchange))))
    up exchange found there true con = joining client bytes m key exchange (Some client) (spelling (acknowledgement m.id)) first get e missed found there (with_acknowledgement con)
    up exchange found there false other = joining client bytes m key exchange None [] first get e missed found there (silently other)

    room : (exchange : ℕ) → first_that (is_joinable key) w.exchanges ≡ Some exchange → (b : Bool) → has_room_to_join w now client ≡ b → Rule w now draw grown (arrival client bytes) (remembers now client m (cond b (joins w now client m exchange) (turns_away w now client m (lacks_to_join w now client))))
    room exchange found true there = up exchange found there (is_con m.kind) refl
    room exchange found false full = rule_full w now draw grown client bytes m key (lacks_to_join w now client) first e (to_join exchange get missed found full)

    by_search : (o : Option ℕ) → first_that (is_joinable key) w.exchanges ≡ o → Rule w now draw grown (arrival client bytes) (remembers now client m (on_joinable w now client m key stored o))
    by_search None none = rule_wanted w now draw grown client bytes m key stored first e (record { missed = λ _. missed; alone = λ _. none }) held
    by_search (Some exchange) found = room exchange found (has_room_to_join w now client) refl

-- a GET is a case by the entry with its key
rule_entry : (w : State) (now draw : ℕ) (grown : Bool) (client : Endpoint) (bytes : List ℕ) (m : Message) (key : CacheKey) → IsFirst w now client bytes m → is_get m.code ≡ true → verdict_in w m ≡ may_ask key → (o : Option Entry) → of_key entry_key key w.store ≡ o → Rule w now draw grown (arrival client bytes) (remembers now client m (on_entry w now client m key o))
rule_entry w now draw grown client bytes m key first get e o found = go o found
  where
    held : (p : Option Entry) → of_key entry_key key w.store ≡ p → held_for w key m ≡ option_map (λ (s : Entry). s.1) p
    held p is = ap (λ (b : Bool). if b then option_map (λ (s : Entry). s.1) (of_key entry_key key w.store) else None) get ∙ ap (option_map (λ (s : Entry). s.1)) is

    ids : (entry : Entry) → of_key entry_key key w.store ≡ Some entry → is_usable now entry.1 ≡ true → (b : Bool) → can_reply w now m.kind ≡ b → Rule w now draw grown (arrival client bytes) (remembers now client m (cond b (hits w now client m key entry.1) (lacks_id w now)))
    ids entry is usable true free = hitting client bytes m key entry first get e is usable free
    ids entry is usable false free = lacking client bytes m first free

    by_use : (entry : Entry) → of_key entry_key key w.store ≡ Some entry → (b : Bool) → is_usable now entry.1 ≡ b → Rule w now draw grown (arrival client bytes) (remembers now client m (cond b (cond (can_reply w now m.kind) (hits w now client m key entry.1) (lacks_id w now)) (on_miss w now client m key (Some entry.1))))
    by_use entry is true usable = ids entry is usable (can_reply w now m.kind) refl
    by_use entry is false stale = rule_miss w now draw grown client bytes m key (Some entry.1) first get e (λ other also. subst (λ (s : Entry). is_usable now s.1 ≡ false) (same_Some entry other (sym is ∙ also)) stale) (held (Some entry) is)

    go : (p : Option Entry) → of_key entry_key key w.store ≡ p → Rule w now draw grown (arrival client bytes) (remembers now client m (on_entry w now client m key p))
    go None none = rule_miss w now draw grown client bytes m key None first get e (λ entry also. absurd (let f = sym none ∙ also in cc)) (held None none)
    go (Some entry) is = by_use entry is (is_usable now entry.1) refl

-- a request for a key is a case by its method
rule_key : (w : State) (now draw : ℕ) (grown : Bool) (client : Endpoint) (bytes : List ℕ) (m : Message) (key : CacheKey) → IsFirst w now client bytes m → verdict_in w m ≡ may_ask key → Rule w now draw grown (arrival client bytes) (remembers now client m (on_key w now client m key))
rule_key w now draw grown client bytes m key first e = go (is_get m.code) refl
  where
    go : (b : Bool) → is_get m.code ≡ b → Rule w now draw grown (arrival client bytes) (remembers now client m (cond b (on_entry w now client m key (of_key entry_key key w.store)) (on_exchange_needed w now client m key None)))
    go true get = rule_entry w now draw grown client bytes m key first get e (of_key entry_key key w.store) refl
    go false other =
        rule_wanted w now draw grown client bytes m key None first e
        (record { missed = λ get. absurd (let f = sym other ∙ get in cc); alone = λ get. absurd (let f = sym other ∙ get in cc) })
        (ap (λ (b : Bool). if b then option_map (λ (s : Entry). s.1) (of_key entry_key key w.store) else None) other)

-- a request is a case by its verdict
rule_verdict : (w : State) (now draw : ℕ) (grown : Bool) (client : Endpoint) (bytes : List ℕ) (m : Message) → IsFirst w now client bytes m → (v : Verdict) → verdict_in w m ≡ v → Rule w now draw grown (arrival client bytes) (remembers now client m (on_verdict w now client m v))
rule_verdict w now draw grown client bytes m first (refused_with why) e = rule_refusal w now draw grown client bytes m why first (by_verdict e)
rule_verdict w now draw grown client bytes m first (may_ask key) e = rule_key w now draw grown client bytes m key first e

-- a request that is processed is remembered
request_recorded : (w : State) (bytes : List ℕ) (m : Message) → Asked w bytes m → Recorded w bytes m
request_recorded w bytes m asked = record { read = asked.read; recorded = or_first (brings_requests m.kind && is_request m.code) (is_con m.kind && is_response m.code) asked.request }

-- a request is a case by its record
rule_known : (w : State) (now draw : ℕ) (grown : Bool) (client : Endpoint) (bytes : List ℕ) (m : Message) → IsBytes bytes → Asked w bytes m → (o : Option Record) → known_of w now client m ≡ o → Rule w now draw grown (arrival client bytes) (on_known w now client m o)
rule_known w now draw grown client bytes m fits asked (Some known) e = repeating client bytes m known fits (request_recorded w bytes m asked) e
rule_known w now draw grown client bytes m fits asked None e = go (has_record_room w now client m.kind) refl
  where
    go : (b : Bool) → has_record_room w now client m.kind ≡ b → Rule w now draw grown (arrival client bytes) (cond b (remembers now client m (on_new w now client m)) (drops w now m.kind))
    go true room = rule_verdict w now draw grown client bytes m (record { fits = fits; asked = asked; unknown = e; room = room }) (verdict_in w m) refl
    go false room =
        dropping client bytes m fits (request_recorded w bytes m asked)
        (λ response. absurd (no_response m.code (and_parts (brings_requests m.kind) (is_request m.code) asked.request).1 response)) e room

-- ---- what arrived

-- a datagram has one head
one_head : (bytes : List ℕ) (head : Head) → head_at bytes ≡ Some head → is_con head.kind ≡ false → IsNotCon bytes
one_head bytes head is other again also = let same : head ≡ again = same_Some head again (sym is ∙ also) in subst (λ (h : Head). is_con h.kind ≡ false) same other

-- what isn't processed is rejected if it is Confirmable
rule_unprocessed : (w : State) (now draw : ℕ) (grown : Bool) (source : Endpoint) (bytes : List ℕ) (head : Head) (why : Unprocessed) → head_at bytes ≡ Some head → IsNothing w now source bytes → Rule w now draw grown (arrival source bytes) (unprocessed w now source head.kind head.id why)
rule_unprocessed w now draw grown source bytes head why is none = go (is_con head.kind) refl
  where
    go : (b : Bool) → is_con head.kind ≡ b → Rule w now draw grown (arrival source bytes) (cond b (rejects w now source head.id why) (ignores w now why))
    go true con = rejecting source bytes head is con none
    go false other = ignoring source bytes (one_head bytes head is other) none

-- the message that was read is the only one
nothing_else : (w : State) (now : ℕ) (source : Endpoint) (bytes : List ℕ) (m : Message) → message_in w.setting.limits.datagram bytes ≡ Some m → IsNoOnes w now source m → IsNothing w now source bytes
nothing_else w now source bytes m read none n again = subst (IsNoOnes w now source) (same_Some m n (sym read ∙ again)) none

-- if no message is read, there is none
nothing_read : (w : State) (now : ℕ) (source : Endpoint) (bytes : List ℕ) → message_in w.setting.limits.datagram bytes ≡ None → IsNothing w now source bytes
nothing_read w now source bytes unread n again = absurd (let g = sym unread ∙ again in cc)

-- a message that is read has the head of its datagram
pub head_of_read : (w : State) (bytes : List ℕ) (m : Message) → IsBytes bytes → message_in w.setting.limits.datagram bytes ≡ Some m → head_at bytes ≡ Some (record { kind = m.kind; code = m.code; id = m.id })
head_of_read w bytes m fits read = head_read bytes m (message_in-is w.setting.limits.datagram bytes m fits read).2

-- ---- answers

-- an answer is a case by what the store does with it
rule_storing : (w v : State) (now draw : ℕ) (grown : Bool) (event : Event) (f : Step → Step) (a : Arrived) → ((storing : Storing) (store : List Entry) → IsStoring v now grown a.exchange a.answer storing store → Rule w now draw grown event (f (answers_so v now a storing store))) → Rule w now draw grown event (f (answers_with v now grown a))
rule_storing w v now draw grown event f a case = storable (may_store a.exchange.1 a.answer) refl
  where
    size : ℕ
    size = entry_size (entry_made v now a.exchange.1 a.answer)

    fitting : may_store a.exchange.1 a.answer ≡ true → size ≤ v.setting.limits.cache_bytes → (o : Option Entry) → of_key entry_key a.exchange.1.key v.store ≡ o → (g : Bool) → grown ≡ g → Rule w now draw grown event (f (keeps_if v now g a o))
    fitting can small None new true g = case Kept _ (kept can small)
    fitting can small None new false g = case NoMemory _ (no_memory can small new g)
    fitting can small (Some old) there g e = case Kept _ (kept can small)

    sized : may_store a.exchange.1 a.answer ≡ true → (b : Bool) → nat_le size v.setting.limits.cache_bytes ≡ b → Rule w now draw grown event (f (cond b (keeps_if v now grown a (of_key entry_key a.exchange.1.key v.store)) (answers_so v now a TooLarge (others entry_key a.exchange.1.key v.store))))
    sized can true small = fitting can (leb-true _ _ small) (of_key entry_key a.exchange.1.key v.store) refl grown refl
    sized can false large = case TooLarge _ (too_large can (leb-false _ _ large))

    storable : (b : Bool) → may_store a.exchange.1 a.answer ≡ b → Rule w now draw grown event (f (cond b (stores v now grown a) (answers_so v now a NotStored v.store)))
    storable true can = sized can (nat_le size v.setting.limits.cache_bytes) refl
    storable false not = case NotStored _ (not_stored not)

module _ (w : State) (now draw : ℕ) (grown : Bool) (source : Endpoint) (bytes : List ℕ) (m : Message) (fits : IsBytes bytes) (read : message_in w.setting.limits.datagram bytes ≡ Some m) where
  abbrev arrived : Numbered Exchange → Arrived
  arrived x = record { source = source; message = m; exchange = x; answer = answer_for w now m x.1 }

  abbrev own_head : Head
  own_head = record { kind = m.kind; code = m.code; id = m.id }

  -- an answer that isn't Confirmable
  rule_answer : (x : Numbered Exchange) → IsAnswerFor w now source m x → is_con m.kind ≡ false → Rule w now draw grown (arrival source bytes) (answers w now grown source m x)
  rule_answer x for other = rule_storing w (changed_state w m x) now draw grown (arrival source bytes) (λ s. s) (arrived x) (λ storing store s. go storing store s (is_con m.kind) other)
    where
      go : (storing : Storing) (store : List Entry) → IsStoring (changed_state w m x) now grown x (answer_for w now m x.1) storing store → (b : Bool) → b ≡ false
          → Rule w now draw grown (arrival source bytes) (cond b (says (Answered x.0 storing) source (acknowledgement m.id) (answered_state (changed_state w m x) now x.0 (answer_for w now m x.1) store)) (silent (Answered x.0 storing) (answered_state (changed_state w m x) now x.0 (answer_for w now m x.1) store)))
      go storing store s true e = absurd cc
      go storing store s false e = answering source bytes m x storing store fits read for other s

  -- one that is Confirmable, and is new
  rule_answer_con : (x : Numbered Exchange) → is_recorded m ≡ true → IsAnswerFor w now source m x → is_con m.kind ≡ true → known_of w now source m ≡ None → has_record_room w now source m.kind ≡ true → Rule w now draw grown (arrival source bytes) (remembers now source m (answers w now grown source m x))
  rule_answer_con x recorded for con unknown room = rule_storing w (changed_state w m x) now draw grown (arrival source bytes) (remembers now source m) (arrived x) (λ storing store s. go storing store s (is_con m.kind) con)
    where
      go : (storing : Storing) (store : List Entry) → IsStoring (changed_state w m x) now grown x (answer_for w now m x.1) storing store → (b : Bool) → b ≡ true
          → Rule w now draw grown (arrival source bytes) (remembers now source m (cond b (says (Answered x.0 storing) source (acknowledgement m.id) (answered_state (changed_state w m x) now x.0 (answer_for w now m x.1) store)) (silent (Answered x.0 storing) (answered_state (changed_state w m x) now x.0 (answer_for w now m x.1) store))))
      go storing store s false e = absurd cc
      go storing store s true e = answering_con source bytes m x storing store fits (record { read = read; recorded = recorded }) for con unknown room s

  -- ---- responses

  module _ (request : (brings_requests m.kind && is_request m.code) ≡ false) (response : (brings_responses m.kind && is_response m.code) ≡ true) where
    code : is_response m.code ≡ true
    code = (and_parts (brings_responses m.kind) (is_response m.code) response).1

    -- a response that isn't awaited is for nobody
    unawaited : (is_recorded m ≡ true → known_of w now source m ≡ None) → awaiting w source m ≡ None → IsNothing w now source bytes
    unawaited unknown none =
        nothing_else w now source bytes m read (
        record {
          request = request;
          unknown = unknown;
          response = λ _. none;
          about = λ x about. absurd (empty_no_response m about.bare code);
          answer = λ n about. absurd (empty_no_response m about.bare code);
        }
        )

    -- one that isn't Confirmable is a case by the exchange that awaits it
    rule_awaited : is_con m.kind ≡ false → (o : Option (Numbered Exchange)) → awaiting w source m ≡ o → Rule w now draw grown (arrival source bytes) (on_not_confirmable w now grown source m o)
    rule_awaited other None e = ignoring source bytes (one_head bytes own_head (head_of_read w bytes m fits read) other) (unawaited (λ recorded. absurd (unrecorded m request other recorded)) e)
    rule_awaited other (Some x) e = rule_answer x (by_response response e) other

    -- so is one that is Confirmable, and also by the room
    rule_new_confirmable : m.kind ≡ Con → known_of w now source m ≡ None → (o : Option (Numbered Exchange)) → awaiting w source m ≡ o → Rule w now draw grown (arrival source bytes) (on_new_confirmable w now grown source m o)
    rule_new_confirmable con unknown None e = rejecting source bytes own_head (head_of_read w bytes m fits read) (ap is_con con) (unawaited (λ recorded. unknown) e)
    rule_new_confirmable con unknown (Some x) e = go (has_record_room w now source m.kind) refl
      where
        recorded : is_recorded m ≡ true
        recorded = or_second (brings_requests m.kind && is_request m.code) (is_con m.kind && is_response m.code) (and_from (is_con m.kind) (is_response m.code) (ap is_con con) code)

        go : (b : Bool) → has_record_room w now source m.kind ≡ b → Rule w now draw grown (arrival source bytes) (cond b (remembers now source m (answers w now grown source m x)) (drops w now m.kind))
        go true room = rule_answer_con x recorded (by_response response e) (ap is_con con) unknown room
        go false full = dropping source bytes m fits (record { read = read; recorded = recorded }) (λ _. (x, e)) unknown full

    rule_unknown : m.kind ≡ Con → (o : Option Record) → known_of w now source m ≡ o → Rule w now draw grown (arrival source bytes) (on_unknown w now grown source m o)
    rule_unknown con None e = rule_new_confirmable con e (awaiting w source m) refl
    rule_unknown con (Some known) e =
        repeating source bytes m known fits
        (record { read = read; recorded = or_second (brings_requests m.kind && is_request m.code) (is_con m.kind && is_response m.code) (and_from (is_con m.kind) (is_response m.code) (ap is_con con) code) })
        e

    rule_response : (k : Kind) → m.kind ≡ k → Rule w now draw grown (arrival source bytes) (on_response_in k w now grown source m)
    rule_response Con is = rule_unknown is (known_of w now source m) refl
    rule_response Non is = rule_awaited (ap is_con is) (awaiting w source m) refl
    rule_response Ack is = rule_awaited (ap is_con is) (awaiting w source m) refl
    rule_response Rst is = rule_awaited (ap is_con is) (awaiting w source m) refl

  -- ---- Empty messages

  module _ (bare : is_bare m ≡ true) where
    not_con : is_con m.kind ≡ false
    not_con = bare_not_con m bare

    -- an Empty message that refers to nothing is for nobody
    unmatched : ((x : Numbered Exchange) → ¬ IsAbout w now source m x) → ((n : ℕ) → ¬ IsOfAnswer w now source m n) → Rule w now draw grown (arrival source bytes) (ignores w now Nothing)
    unmatched none nobody =
        ignoring source bytes (one_head bytes own_head (head_of_read w bytes m fits read) not_con)
        (nothing_else w now source bytes m read (
        record {
          request = bare_no_request m bare;
          unknown = λ recorded. absurd (unrecorded m (bare_no_request m bare) not_con recorded);
          response = λ response. absurd (empty_no_response m bare (and_parts (brings_responses m.kind) (is_response m.code) response).1);
          about = none;
          answer = nobody;
        }
        ))

    -- one that doesn't refer to a request refers to an answer, or is for nobody
    rule_told : ((x : Numbered Exchange) → ¬ IsAbout w now source m x) → (o : Option ℕ) → first_that (waiters.was_sent_as source m.id now) w.waiters ≡ o → Rule w now draw grown (arrival source bytes) (on_delivered w now o)
    rule_told none None e = unmatched none (λ n about. absurd (let g = sym e ∙ about.first in cc))
    rule_told none (Some n) e = closing source bytes m n fits read (record { bare = bare; first = e })

    of_no_request : ((x : Numbered Exchange) → ¬ IsAbout w now source m x) → Rule w now draw grown (arrival source bytes) (on_delivery w now source m)
    of_no_request none = rule_told none (first_that (waiters.was_sent_as source m.id now) w.waiters) refl

    rule_settled : (x : Numbered Exchange) → IsAbout w now source m x → (b : Bool) → is_ack m.kind ≡ b → Rule w now draw grown (arrival source bytes) (cond b (acknowledges w now x.0) (answers w now grown source m x))
    rule_settled x about true ack = acknowledging source bytes m x fits read about ack
    rule_settled x about false rst = rule_answer x (by_reset about rst) not_con

    rule_found : (n : ℕ) → first_that (was_sent_as source m.id now) w.exchanges ≡ Some n → (o : Option Exchange) → item_at n w.exchanges ≡ o → Rule w now draw grown (arrival source bytes) (empties.on_exchange w now grown source m n o)
    rule_found n first None e = of_no_request (λ x about. let same = same_Some n x.0 (sym first ∙ about.first) in let g : None ≡ Some x.1 = sym e ∙ ap (λ (k : ℕ). item_at k w.exchanges) same ∙ about.found in absurd cc)
    rule_found n first (Some x) e = go (is_sent x) refl
      where
        go : (b : Bool) → is_sent x ≡ b → Rule w now draw grown (arrival source bytes) (cond b (settles w now grown source m n x) (on_delivery w now source m))
        go true sent = rule_settled (n, x) (record { bare = bare; first = first; found = e; sent = sent }) (is_ack m.kind) refl
        go false other =
            of_no_request (λ y about.
            let same = same_Some n y.0 (sym first ∙ about.first) in
            let found : Some x ≡ Some y.1 = sym e ∙ ap (λ (k : ℕ). item_at k w.exchanges) same ∙ about.found in
            let one = same_Some x y.1 found in
            let both : false ≡ true = sym other ∙ ap is_sent one ∙ about.sent in
            absurd cc)

    rule_sent : (o : Option ℕ) → first_that (was_sent_as source m.id now) w.exchanges ≡ o → Rule w now draw grown (arrival source bytes) (on_found w now grown source m o)
    rule_sent None e = of_no_request (λ x about. absurd (let g = sym e ∙ about.first in cc))
    rule_sent (Some n) e = rule_found n e (item_at n w.exchanges) refl

  -- ---- messages

  -- what is neither a request nor a response is a case by whether it is Empty
  rule_no_response : (brings_requests m.kind && is_request m.code) ≡ false → (brings_responses m.kind && is_response m.code) ≡ false → (b : Bool) → is_bare m ≡ b → Rule w now draw grown (arrival source bytes) (cond b (on_empty w now grown source m) (unprocessed w now source m.kind m.id (unprocessable m.kind m.code)))
  rule_no_response request response true bare = rule_sent bare (first_that (was_sent_as source m.id now) w.exchanges) refl
  rule_no_response request response false full =
      rule_unprocessed w now draw grown source bytes own_head (unprocessable m.kind m.code) (head_of_read w bytes m fits read)
      (nothing_else w now source bytes m read (
      record {
        request = request;
        unknown = λ recorded. absurd (neither m request response recorded);
        response = λ e. absurd (let g = sym e ∙ response in cc);
        about = λ x about. absurd (let g = sym about.bare ∙ full in cc);
        answer = λ n about. absurd (let g = sym about.bare ∙ full in cc);
      }
      ))

  rule_no_request : (brings_requests m.kind && is_request m.code) ≡ false → (b : Bool) → (brings_responses m.kind && is_response m.code) ≡ b → Rule w now draw grown (arrival source bytes) (cond b (on_response w now grown source m) (on_no_response w now grown source m))
  rule_no_request request true response = rule_response request response m.kind refl
  rule_no_request request false other = rule_no_response request other (is_bare m) refl

  -- a message is a case by its type and its code
  rule_message : Rule w now draw grown (arrival source bytes) (on_message w now grown source m)
  rule_message = go (brings_requests m.kind && is_request m.code) refl
    where
      go : (b : Bool) → (brings_requests m.kind && is_request m.code) ≡ b → Rule w now draw grown (arrival source bytes) (cond b (on_request w now source m) (on_no_request w now grown source m))
      go true e = rule_known w now draw grown source bytes m fits (record { read = read; request = e }) (known_of w now source m) refl
      go false e = rule_no_request e (brings_responses m.kind && is_response m.code) refl

-- a datagram is a case by what is read from it
rule_read : (w : State) (now draw : ℕ) (grown : Bool) (source : Endpoint) (bytes : List ℕ) → IsBytes bytes → (h : Option Head) → head_at bytes ≡ h → (o : Option Message) → message_in w.setting.limits.datagram bytes ≡ o → Rule w now draw grown (arrival source bytes) (on_read w now grown source (unread w.setting.limits.datagram bytes) h o)
rule_read w now draw grown source bytes fits None is None read = ignoring source bytes (λ head also. absurd (let g = sym is ∙ also in cc)) (nothing_read w now source bytes read)
rule_read w now draw grown source bytes fits None is (Some m) read =
    absurd (let head = head_read bytes m (message_in-is w.setting.limits.datagram bytes m fits read).2 in let g = sym is ∙ head in cc)
rule_read w now draw grown source bytes fits (Some h) is None read = rule_unprocessed w now draw grown source bytes h (unread w.setting.limits.datagram bytes) is (nothing_read w now source bytes read)
rule_read w now draw grown source bytes fits (Some h) is (Some m) read = rule_message w now draw grown source bytes m fits read

-- ---- ticks

-- an exchange that is due is a case by its deadline, its state and its timer
rule_exchange : (w : State) (now draw : ℕ) (grown : Bool) (at number : ℕ) → if_due now (item_due w) ≡ Some (OfExchange at number) → (o : Option Exchange) → item_at number w.exchanges ≡ o → Rule w now draw grown tick (on_exchange w now draw number o)
rule_exchange w now draw grown at number due None e = stuck (no_exchange at number due e)
rule_exchange w now draw grown at number due (Some x) e = by_deadline (nat_le (deadline w.setting.limits.exchange_ms x) now) refl
  where
    turn : IsTurnOf w now at number x
    turn = record { due = due; found = e }

    by_fire : x.state ≡ Sent → now < deadline w.setting.limits.exchange_ms x → (f : Fire) → fire_of_sending now x.sending ≡ f → Rule w now draw grown tick (on_request_timeout w now number x f)
    by_fire is early Again f = resending at number x turn is early f
    by_fire is early GiveUp f = giving_up at number x turn (unheard is early f)

    by_state : now < deadline w.setting.limits.exchange_ms x → (s : ExchangeState) → x.state ≡ s → Rule w now draw grown tick (in_time w now draw number x s)
    by_state early Queued is = forwarding at number x turn is early
    by_state early Sent is = by_fire is early (fire_of_sending now x.sending) refl
    by_state early Acked is = stuck (acknowledged at number x turn is early)
    by_state early (Done a) is = stuck (answered at number x a turn is)

    by_deadline : (b : Bool) → nat_le (deadline w.setting.limits.exchange_ms x) now ≡ b → Rule w now draw grown tick (cond b (gives_up w now number (silence_of x.state)) (in_time w now draw number x x.state))
    by_deadline true late = giving_up at number x turn (overdue (leb-true _ _ late))
    by_deadline false early = by_state (leb-false _ _ early) x.state refl

-- a waiter that is due is a case by its state: by the answer of its exchange, or by its timer
rule_waiter : (w : State) (now draw : ℕ) (grown : Bool) (at number : ℕ) → if_due now (item_due w) ≡ Some (OfWaiter at number) → (o : Option Waiter) → item_at number w.waiters ≡ o → Rule w now draw grown tick (on_waiter w now draw number o)
rule_waiter w now draw grown at number due None e = stuck (no_waiter at number due e)
rule_waiter w now draw grown at number due (Some v) e = by_state v.state refl
  where
    by_kind : (exchange : ℕ) (x : Exchange) (a : Answer) → v.state ≡ Waiting exchange → item_at exchange w.exchanges ≡ Some x → answer_at x ≡ Some a → (b : Bool) → is_con v.kind ≡ b
        → Rule w now draw grown tick (tells w now number v exchange (given_to w now v x.is_get a) (cond b (changed_at number (waiters.delivered (spelling (given_to w now v x.is_get a)) (given_to w now v x.is_get a).id (started now draw)) w.waiters) (without number w.waiters)))
    by_kind exchange x a is there f true con = delivering at number exchange v x a _ due e is there f (to_acknowledge con)
    by_kind exchange x a is there f false other = delivering at number exchange v x a _ due e is there f (done_with other)

    by_answer : (exchange : ℕ) (x : Exchange) → v.state ≡ Waiting exchange → item_at exchange w.exchanges ≡ Some x → (o : Option Answer) → answer_at x ≡ o → Rule w now draw grown tick (on_answer w now draw number v exchange x.is_get o)
    by_answer exchange x is there None f = stuck (unanswered at number exchange v due e is (ap exchanges.answer_of there ∙ f))
    by_answer exchange x is there (Some a) f = by_kind exchange x a is there f (is_con v.kind) refl

    by_exchange : (exchange : ℕ) → v.state ≡ Waiting exchange → (o : Option Exchange) → item_at exchange w.exchanges ≡ o → Rule w now draw grown tick (on_exchange_of w now draw number v exchange o)
    by_exchange exchange is None f = stuck (unanswered at number exchange v due e is (ap exchanges.answer_of f))
    by_exchange exchange is (Some x) there = by_answer exchange x is there (answer_at x) refl

    by_fire : (bytes : List ℕ) (id : ℕ) (timer : Timer) → v.state ≡ Delivering bytes id timer → (f : Fire) → fire_of now timer ≡ f → Rule w now draw grown tick (on_delivery_timeout w now number v bytes f)
    by_fire bytes id timer is Again f = redelivering at number v bytes id timer (record { due = due; found = e; state = is }) f
    by_fire bytes id timer is GiveUp f = abandoning at number v bytes id timer (record { due = due; found = e; state = is }) f

    by_state : (s : WaiterState) → v.state ≡ s → Rule w now draw grown tick (on_waiting w now draw number v s)
    by_state (Waiting exchange) is = by_exchange exchange is (item_at exchange w.exchanges) refl
    by_state (Delivering bytes id timer) is = by_fire bytes id timer is (fire_of now timer) refl

-- a tick is a case by what is due
rule_item : (w : State) (now draw : ℕ) (grown : Bool) (o : Option DueItem) → if_due now (item_due w) ≡ o → Rule w now draw grown tick (on_item w now draw o)
rule_item w now draw grown None e = idling e
rule_item w now draw grown (Some (OfExchange at number)) e = rule_exchange w now draw grown at number e (item_at number w.exchanges) refl
rule_item w now draw grown (Some (OfWaiter at number)) e = rule_waiter w now draw grown at number e (item_at number w.waiters) refl

-- a step is one of the cases
pub rule_of : (w : State) (now draw : ℕ) (grown : Bool) (event : Event) → IsEvent event → Rule w now draw grown event (step_of w now draw grown event)
rule_of w now draw grown (arrival source bytes) fits = rule_read w now draw grown source bytes fits (head_at bytes) refl (message_in w.setting.limits.datagram bytes) refl
rule_of w now draw grown tick fits = rule_item w now draw grown (if_due now (item_due w)) refl
