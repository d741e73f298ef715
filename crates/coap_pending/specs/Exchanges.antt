-- Exchanges: their states, how they change, and when they are due.
use Rattle.std.specs.Prelude.{◌≡◌, ◌≤◌, ℕ, ◌+◌, ◌-◌, ◌^◌, ◌==◌, ◌&&◌, ◌||◌, min, Bool, true, false, not, nat_lt, nat_le, if◌then◌else◌, List, Option, Some, None, IfSome}
use Rattle.std.specs.List.{AllByRecursion}
use Rattle.coap_message.specs.Spelling.{with_id}
use Rattle.coap_endpoint.specs.declared.endpoint.Endpoint.{Endpoint}
use Rattle.coap_endpoint.specs.declared.target.Target.{Target}
use Rattle.coap_endpoint.specs.Endpoint.{same_endpoint}
use Rattle.coap_endpoint.specs.Equality.{same_target}
use Rattle.coap_store.specs.declared.answer.Answer.{Answer}
use Rattle.coap_store.specs.declared.key.CacheKey.{CacheKey}
use Rattle.coap_store.specs.Keys.{same_key}
use Rattle.coap_pending.specs.declared.timer.Fire.{Fire}
use Rattle.coap_pending.specs.declared.timer.Fire.TheVariants.{GiveUp}
use Rattle.coap_pending.specs.declared.exchange.ExchangeState.{ExchangeState}
use Rattle.coap_pending.specs.declared.exchange.ExchangeState.TheVariants.{Queued, Sent, Acked, Done}
use Rattle.coap_pending.specs.declared.exchange.Sending.{Sending}
use Rattle.coap_pending.specs.declared.exchange.Exchange.{Exchange}
use Rattle.coap_pending.specs.declared.exchange.Transition.{Transition}
use Rattle.coap_pending.specs.declared.exchange.Transition.TheVariants as transition
use Rattle.coap_pending.specs.Table.{Numbered, count, item_at}
use Rattle.coap_pending.specs.Timers.{fire_of, fired, IsShort}

-- ---- states

abbrev pub is_queued_state : ExchangeState → Bool
is_queued_state Queued = true
is_queued_state Sent = false
is_queued_state Acked = false
is_queued_state (Done a) = false

abbrev pub is_sent_state : ExchangeState → Bool
is_sent_state Queued = false
is_sent_state Sent = true
is_sent_state Acked = false
is_sent_state (Done a) = false

abbrev pub is_acked_state : ExchangeState → Bool
is_acked_state Queued = false
is_acked_state Sent = false
is_acked_state Acked = true
is_acked_state (Done a) = false

abbrev pub answer_in_state : ExchangeState → Option Answer
answer_in_state Queued = None
answer_in_state Sent = None
answer_in_state Acked = None
answer_in_state (Done a) = Some a

-- its request is waiting for its turn
abbrev pub is_queued : Exchange → Bool
is_queued x = is_queued_state x.state

-- its request was sent, and neither an acknowledgement nor an answer has come
abbrev pub is_sent : Exchange → Bool
is_sent x = is_sent_state x.state

-- its request was acknowledged, and no answer has come
abbrev pub is_acked : Exchange → Bool
is_acked x = is_acked_state x.state

-- its request was sent, and no answer has come
abbrev pub is_in_flight : Exchange → Bool
is_in_flight x = is_sent x || is_acked x

abbrev pub answer_at : Exchange → Option Answer
answer_at x = answer_in_state x.state

abbrev pub is_missing : {A : Type 0} → Option A → Bool
is_missing None = true
is_missing (Some a) = false

-- its answer has come
abbrev pub is_done : Exchange → Bool
is_done x = not (is_missing (answer_at x))

-- ---- which exchange it is

-- this client opened it, whoever joined it since: address and port are those of its request
abbrev pub is_opened_by : Endpoint → Exchange → Bool
is_opened_by client x = same_endpoint x.client client

-- it counts as outstanding to this endpoint (RFC 7252, 4.7)
abbrev pub is_sent_to : Endpoint → Exchange → Bool
is_sent_to at x = is_sent x && same_endpoint x.key.target.at at

-- the exchange is with this endpoint
abbrev pub is_with : Endpoint → Exchange → Bool
is_with at x = same_endpoint x.key.target.at at

-- the exchange is with this endpoint, and queued
abbrev pub is_queued_to : Endpoint → Exchange → Bool
is_queued_to at x = is_queued x && same_endpoint x.key.target.at at

-- a GET of this key may wait for its answer
abbrev pub is_joinable : CacheKey → Exchange → Bool
is_joinable key x = x.is_get && (not x.tainted && (is_missing (answer_at x) && same_key x.key key))

-- the sending has this id and started less than 247,000 ms ago
abbrev pub is_meant_by : ℕ → ℕ → Sending → Bool
is_meant_by id now s = (s.id == id) && nat_lt (now - s.timer.started) 247000

abbrev pub is_some_as : ℕ → ℕ → Option Sending → Bool
is_some_as id now None = false
is_some_as id now (Some s) = is_meant_by id now s

-- its request was sent with this id
abbrev pub was_sent_with : ℕ → Option Sending → Bool
was_sent_with id None = false
was_sent_with id (Some s) = s.id == id

-- the number of the event in which its request was sent; 0 before that
abbrev pub asked_of : Option Sending → ℕ
asked_of None = 0
asked_of (Some s) = s.asked

-- its request was sent to this endpoint with this id, less than 247,000 ms ago (RFC 7252, 4.4)
abbrev pub was_sent_as : Endpoint → ℕ → ℕ → Exchange → Bool
was_sent_as at id now x = same_endpoint x.key.target.at at && is_some_as id now x.sending

-- a change of this target affects its answer (RFC 7252, 5.9.1)
abbrev pub is_changed_with : Target → Exchange → Bool
is_changed_with target x = (is_sent x || is_acked x) && same_target x.key.target target

-- the answer of an exchange, if there is one
abbrev pub answer_of : Option Exchange → Option Answer
answer_of None = None
answer_of (Some x) = answer_at x

abbrev pub answer_in : ℕ → List (Numbered Exchange) → Option Answer
answer_in number exchanges = answer_of (item_at number exchanges)

-- ---- changes

-- its request is sent, and carries its Message ID from then on
abbrev pub sent : Sending → Exchange → Exchange
sent sending x =
    record x { form = with_id sending.id x.form; sending = Some sending; state = Sent }

-- its timer is due
abbrev pub fired_sending : ℕ → Sending → Sending
fired_sending now s = record s { timer = fired now s.timer }

abbrev pub fired_option : ℕ → Option Sending → Option Sending
fired_option now None = None
fired_option now (Some s) = Some (fired_sending now s)

abbrev pub fired_exchange : ℕ → Exchange → Exchange
fired_exchange now x = record x { sending = fired_option now x.sending }

-- its request is acknowledged
abbrev pub acked : Exchange → Exchange
acked x = record x { state = Acked }

-- its answer has come
abbrev pub answered : Answer → Exchange → Exchange
answered answer x = record x { state = Done answer }

-- its target has changed
abbrev pub tainted_by : Target → Exchange → Exchange
tainted_by target x = if is_changed_with target x then record x { tainted = true } else x

-- what its timer calls for when it is due
abbrev pub fire_of_sending : ℕ → Option Sending → Fire
fire_of_sending now None = GiveUp
fire_of_sending now (Some s) = fire_of now s.timer

abbrev pub fire_at : ℕ → Option Exchange → Fire
fire_at now None = GiveUp
fire_at now (Some x) = fire_of_sending now x.sending

abbrev pub after_transition : Transition → Exchange → Exchange
after_transition (transition.Send s) = sent s
after_transition (transition.Fire now) = fired_exchange now
after_transition transition.Acknowledge = acked
after_transition (transition.Answer a) = answered a

-- whether an exchange is in the sent state after a transition, given whether it was before
abbrev pub is_sent_after : Transition → Bool → Bool
is_sent_after (transition.Send s) was = true
is_sent_after (transition.Fire now) was = was
is_sent_after transition.Acknowledge was = false
is_sent_after (transition.Answer a) was = false

-- the moment of a change is within the allowed range, and a first timeout is at most 3,000 ms
abbrev pub is_timely : Transition → Bool
is_timely (transition.Send s) = nat_le s.timer.timeout 3000
is_timely (transition.Fire now) = nat_le now (2 ^ 62)
is_timely transition.Acknowledge = true
is_timely (transition.Answer a) = true

-- ---- when it is due

abbrev pub deadline : ℕ → Exchange → ℕ
deadline exchange_ms x = x.admitted + exchange_ms

-- the end of the current timeout, but no later than `last`
abbrev pub timer_or : ℕ → Option Sending → ℕ
timer_or last None = last
timer_or last (Some s) = min s.timer.due last

-- By state: while queued it is due at its admission, unless it is blocked; once sent, at the end of
-- its timeout; and at the latest at its deadline, unless its answer has come.
abbrev pub due_in : ExchangeState → Bool → ℕ → Exchange → Option ℕ
due_in Queued blocked exchange_ms x =
    Some (if blocked then deadline exchange_ms x else x.admitted)
due_in Sent blocked exchange_ms x = Some (timer_or (deadline exchange_ms x) x.sending)
due_in Acked blocked exchange_ms x = Some (deadline exchange_ms x)
due_in (Done a) blocked exchange_ms x = None

abbrev pub due_of : Bool → ℕ → Exchange → Option ℕ
due_of blocked exchange_ms x = due_in x.state blocked exchange_ms x

-- as many requests as NSTART allows are outstanding to its endpoint (RFC 7252, 4.7)
abbrev pub is_blocked : ℕ → List (Numbered Exchange) → Exchange → Bool
is_blocked nstart exchanges x = nat_le nstart (count (is_sent_to x.key.target.at) exchanges)

-- when an exchange of a table is due
abbrev pub due_among : ℕ → ℕ → List (Numbered Exchange) → Exchange → Option ℕ
due_among nstart exchange_ms exchanges x =
    due_of (is_blocked nstart exchanges x) exchange_ms x

-- ---- what a change requires

-- its request was sent, and the current timeout has ended
abbrev pub HasEnded : ℕ → Option Sending → Type 0
HasEnded now None = ⊥
HasEnded now (Some s) = s.timer.due ≤ now

abbrev pub IsDue : ℕ → Exchange → Type 0
IsDue now x = (is_sent x ≡ true) × HasEnded now x.sending

-- its timer can be fired: the timeout has ended, and doubling it stays in range
abbrev pub CanFire : ℕ → Option Sending → Type 0
CanFire now None = Unit {0}
CanFire now (Some s) = (s.timer.due ≤ now) × (s.timer.timeout ≤ 2 ^ 32)

abbrev pub CanChange : Transition → Exchange → Type 0
CanChange (transition.Send s) x = Unit {0}
CanChange (transition.Fire now) x = (now ≤ 2 ^ 62) × CanFire now x.sending
CanChange transition.Acknowledge x = Unit {0}
CanChange (transition.Answer a) x = Unit {0}

-- if the change fires its timer, the exchange is due
abbrev pub IsFireDue : Transition → Option Exchange → Type 0
IsFireDue (transition.Send s) found = Unit {0}
IsFireDue (transition.Fire now) found = IfSome found (IsDue now)
IsFireDue transition.Acknowledge found = Unit {0}
IsFireDue (transition.Answer a) found = Unit {0}

-- An update is possible: a change comes at a moment in range, fires only a timer that has ended,
-- and leaves no exchange waiting for its turn. Any exchange can be removed.
abbrev pub CanUpdate : Option Transition → Option Exchange → Type 0
CanUpdate None found = Unit {0}
CanUpdate (Some change) found =
    (is_timely change ≡ true)
    × IsFireDue change found
    × IfSome found (λ x. is_queued (after_transition change x) ≡ false)

-- ---- invariants of a table of exchanges

-- admission moments are at most 2^62
abbrev pub AreTimely : List (Numbered Exchange) → Type 0
AreTimely exchanges = AllByRecursion (λ x. x.1.admitted ≤ 2 ^ 62) exchanges

-- timeouts stay short
abbrev pub IsSendingShort : Option Sending → Type 0
IsSendingShort None = Unit {0}
IsSendingShort (Some s) = IsShort s.timer

abbrev pub AreShort : List (Numbered Exchange) → Type 0
AreShort exchanges = AllByRecursion (λ x. IsSendingShort x.1.sending) exchanges

pub record AreExchanges (exchanges : List (Numbered Exchange)) (waiting : ℕ) : Type 0 where
  pub queued : waiting ≡ count is_queued exchanges
  pub timely : AreTimely exchanges
  pub short : AreShort exchanges
