-- What one client leaves to the others: a client below its own limits is turned away only if a
-- limit that all clients share is reached, or if Message IDs are short. This file names no table:
-- of a proxy, only its setting matters.
use Rattle.std.specs.Prelude.{◌≡◌, ◌≢◌, ℕ, ◌*◌, ◌≤◌, true, List, [], ◌∷◌, length}
use Rattle.std.specs.List.{list_any}
use Rattle.coap_message.specs.Message.{Message}
use Rattle.coap_endpoint.specs.declared.endpoint.Endpoint.{Endpoint}
use Rattle.coap_endpoint.specs.Endpoint.{same_endpoint}
use Rattle.coap_limits.specs.Limits.{Limits}
use Rattle.coap_model.specs.declared.report.Outcome.TheVariants.{NoRecordRoom, Overloaded}
use Rattle.coap_model.specs.Events.{Event, arrival, tick}
use Rattle.coap_model.specs.State.{State}
use Rattle.coap_model.specs.History.{Observation, Action, told_by, Position, IsPositionOf, IsRequestOf}
use Rattle.coap_model.specs.Standing.{open_in, standing_in, HasIds, HasOwnRoomToOpen}
use Rattle.coap_model.specs.Remembered.{most_remembered, remembered_at}
use Rattle.coap_model.specs.Justified.{Comes, HasOwnRecordRoom, AllJustified}
use Rattle.coap_model.specs.Word.{until}

-- ---- what is shared

-- as many messages of a message's type are remembered as may be
abbrev pub IsFullOf : Limits → Message → ℕ → List Action → Type 0
IsFullOf limits m now history =
    most_remembered m.kind limits ≤ length (remembered_at m.kind now history)

-- a limit on open exchanges or on waiters is reached, or too few Message IDs are free for a
-- request and its answer
pub data IsShort (limits : Limits) (now : ℕ) (history : List Action) : Type 0 where
  of_exchanges : limits.exchanges ≤ length (open_in history) → IsShort limits now history
  of_waiters : limits.waiters ≤ length (standing_in history) → IsShort limits now history
  of_ids : ¬ HasIds 2 now history → IsShort limits now history

-- ---- few endpoints

-- what an event brings comes from one of these endpoints
abbrev pub ComesFrom : List Endpoint → Event → Type 0
ComesFrom endpoints (arrival source bytes) =
    list_any (λ e. same_endpoint e source) endpoints ≡ true
ComesFrom endpoints tick = Unit {0}

-- every datagram of a history came from one of these endpoints
abbrev pub AreFrom : List Endpoint → List Action → Type 0
AreFrom endpoints [] = Unit {0}
AreFrom endpoints (d ∷ past) = ComesFrom endpoints d.observation.event × AreFrom endpoints past

-- what so many clients may use up is no more than what they share
pub record AreShares (limits : Limits) (many : ℕ) : Type 0 where
  pub con_records : many * limits.client_con_records ≤ limits.con_records
  pub non_records : many * limits.client_non_records ≤ limits.non_records
  pub exchanges : many * limits.client_exchanges ≤ limits.exchanges
  pub waiters : many * limits.client_waiters ≤ limits.waiters

-- ---- the promise

-- For a proxy with this history, at each position of it:
--
-- - A message from an endpoint of which fewer messages are remembered than may be is dropped for
--   want of room only if as many are remembered of all endpoints as may be.
-- - A request of a client with fewer exchanges and waiters than it may have gets 5.03 only
--   if there are as many of all clients as may be, or if Message IDs are short.
-- - If so few endpoints have sent anything that the limits for one of them, added up, are no more
--   than the shared ones, then no such message is dropped, and such a request gets 5.03 only if
--   Message IDs are short.
pub record LeavesRoom (history : List Observation) (w : State) : Type 0 where
  pub actions : List Action
  pub told : told_by actions ≡ history
  pub justified : AllJustified w.setting actions
  pub remembered :
      (p : Position) (source : Endpoint) (m : Message)
      → IsPositionOf actions p
      → Comes w.setting source m p.action.observation.event
      → HasOwnRecordRoom w.setting p.before p.action.observation.now source m
      → p.action.observation.report.outcome ≡ NoRecordRoom
      → IsFullOf w.setting.limits m p.action.observation.now p.before
  pub served :
      (p : Position) (client : Endpoint) (request : Message)
      → IsPositionOf actions p
      → IsRequestOf w.setting client request p.action.observation.event
      → HasOwnRoomToOpen w.setting.limits client p.before
      → p.action.observation.report.outcome ≡ Overloaded
      → IsShort w.setting.limits p.action.observation.now p.before
  pub remembered_of_few :
      (many : ℕ) (endpoints : List Endpoint) (p : Position) (source : Endpoint) (m : Message)
      → length endpoints ≤ many
      → AreShares w.setting.limits many
      → IsPositionOf actions p
      → AreFrom endpoints (until p)
      → Comes w.setting source m p.action.observation.event
      → HasOwnRecordRoom w.setting p.before p.action.observation.now source m
      → p.action.observation.report.outcome ≢ NoRecordRoom
  pub served_of_few :
      (many : ℕ) (endpoints : List Endpoint) (p : Position) (client : Endpoint) (request : Message)
      → length endpoints ≤ many
      → AreShares w.setting.limits many
      → IsPositionOf actions p
      → AreFrom endpoints (until p)
      → IsRequestOf w.setting client request p.action.observation.event
      → HasOwnRoomToOpen w.setting.limits client p.before
      → p.action.observation.report.outcome ≡ Overloaded
      → ¬ HasIds 2 p.action.observation.now p.before
