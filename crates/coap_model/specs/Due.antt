-- What is due, according to the history alone, and in which order.
use Rattle.std.specs.Prelude.{◌≡◌, ◌⊎◌, ℕ, ◌+◌, ◌<◌, ◌≤◌, List, Some}
use Rattle.coap_endpoint.specs.declared.endpoint.Endpoint.{Endpoint}
use Rattle.coap_store.specs.declared.key.CacheKey.{CacheKey}
use Rattle.coap_model.specs.Setting.{Setting}
use Rattle.coap_model.specs.Verdicts.{may_ask, verdict_of}
use Rattle.coap_model.specs.Standing.{queued, sent, stage_of, outstanding_to, delivering, service_of}
use Rattle.coap_model.specs.Schedules.{sends_by, next_send}
use Rattle.coap_model.specs.History.{Act, no_item, admits, moves, serves, Action, Position, IsPositionOf, Never, Ends, Serves, WasOpened, WasAdmitted}

-- ---- exchanges

-- A request that waits for its turn is due to be sent, from the opening of its exchange on, if
-- fewer than NSTART requests to its endpoint are outstanding (RFC 7252, 4.7).
pub record IsToSend (setting : Setting) (past : List Action) (x at : ℕ) : Type 0 where
  pub opened : WasOpened setting past x
  pub key : CacheKey
  pub verdict : verdict_of setting.routes opened.request ≡ may_ask key
  pub stage : stage_of x past ≡ Some queued
  pub free : outstanding_to key.target.at past < setting.limits.nstart
  pub at_is : at ≡ opened.opening.action.observation.now

-- one that was sent, and neither acknowledged nor answered, is due to be retransmitted by its
-- schedule
pub record IsToRepeat (setting : Setting) (past : List Action) (x at : ℕ) : Type 0 where
  pub to : Endpoint
  pub stage : stage_of x past ≡ Some (sent to)
  pub at_is : at ≡ next_send (sends_by (moves x) past)

-- an exchange that hasn't ended is due to end `exchange_ms` milliseconds after its opening
pub record IsToEnd (setting : Setting) (past : List Action) (x at : ℕ) : Type 0 where
  pub opened : WasOpened setting past x
  pub unended : Never (Ends x) past
  pub at_is : at ≡ opened.opening.action.observation.now + setting.limits.exchange_ms

pub data IsExchangeDue (setting : Setting) (past : List Action) (x at : ℕ) : Type 0 where
  to_send : IsToSend setting past x at → IsExchangeDue setting past x at
  to_repeat : IsToRepeat setting past x at → IsExchangeDue setting past x at
  to_end : IsToEnd setting past x at → IsExchangeDue setting past x at

-- ---- waiters

-- a waiter that wasn't served is due to be served from when its exchange was answered or given up
pub record IsToServe (setting : Setting) (past : List Action) (v at : ℕ) : Type 0 where
  pub admitted : WasAdmitted setting past v
  pub unserved : Never (Serves v) past
  pub ending : Position
  pub was_ended : IsPositionOf past ending
  pub ends : Ends admitted.exchange ending
  pub at_is : at ≡ ending.action.observation.now

-- one that was served, and hasn't acknowledged its answer, is due to get it again by its schedule
pub record IsToServeAgain (past : List Action) (v at : ℕ) : Type 0 where
  pub service : service_of v past ≡ Some delivering
  pub at_is : at ≡ next_send (sends_by (serves v) past)

pub data IsWaiterDue (setting : Setting) (past : List Action) (v at : ℕ) : Type 0 where
  to_serve : IsToServe setting past v at → IsWaiterDue setting past v at
  to_serve_again : IsToServeAgain past v at → IsWaiterDue setting past v at

-- ---- both

-- The act is due from this moment on. It may also be due from other moments.
abbrev pub IsDueAt : Setting → List Action → Act → ℕ → Type 0
IsDueAt setting past no_item at = ⊥
IsDueAt setting past (admits v x) at = ⊥
IsDueAt setting past (moves x) at = IsExchangeDue setting past x at
IsDueAt setting past (serves v) at = IsWaiterDue setting past v at

-- at the same moment, exchanges come before waiters, each in order of number
abbrev pub ComesBefore : Act → Act → Type 0
ComesBefore (moves x) (moves y) = x < y
ComesBefore (moves x) (serves v) = Unit {0}
ComesBefore (serves v) (serves u) = v < u
ComesBefore _ _ = ⊥

-- the first act, due at the first moment, is done before the second
abbrev pub IsSooner : Act → ℕ → Act → ℕ → Type 0
IsSooner a m b n = (m < n) ⊎ ((m ≡ n) × ComesBefore a b)

-- something is due from this moment on, and nothing earlier
pub record IsNextDue (setting : Setting) (past : List Action) (at : ℕ) : Type 0 where
  pub act : Act
  pub due : IsDueAt setting past act at
  pub least : (a : Act) (m : ℕ) → IsDueAt setting past a m → at ≤ m
