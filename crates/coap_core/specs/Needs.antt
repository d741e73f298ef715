-- What a step needs of the tables before it.
use Rattle.std.specs.Prelude.{◌≡◌, ℕ, ◌+◌, ◌<◌, ◌≤◌, ◌^◌, true, false, List, length, Some, None, IfSome}
use Rattle.coap_message.specs.Datagram.{Datagram}
use Rattle.coap_message.specs.Message.{Message}
use Rattle.coap_pending.specs.declared.exchange.Exchange.{Exchange}
use Rattle.coap_pending.specs.Exchanges.{is_done, is_sent}
use Rattle.coap_pending.specs.Ids.{given_in}
use Rattle.coap_pending.specs.Table.{Numbered, IsRising, item_at}
use Rattle.coap_target.specs.Routes.{AreRoutes}
use Rattle.coap_core.specs.declared.arrival.Arrival.{Arrival}
use Rattle.coap_endpoint.specs.declared.endpoint.Endpoint.{Endpoint}
use Rattle.coap_dedup.specs.Lists.{AreUpTo}
use Rattle.coap_dedup.specs.Records.{AreRecords}
use Rattle.coap_model.specs.State.{State, Step, records_of, reserved, known_of, can_reply, has_record_room}

-- What a step needs of the tables before it: the origins of the routes are targets, the tables are
-- in order of number, there are numbers left to count with, every reserved Message ID is still
-- free, and the records are in order, none later than the last moment.
pub record CanGoOn (w : State) : Type 0 where
  pub routes : AreRoutes w.setting.routes
  pub exchanges : IsRising 0 w.exchanges
  pub waiters : IsRising 0 w.waiters
  pub events : w.events < 2 ^ 63
  pub opened : w.opened < 2 ^ 63
  pub admitted : w.admitted < 2 ^ 63
  pub ids : (now : ℕ) → w.last ≤ now → given_in now w.ids + reserved w ≤ 32768
  pub con_records : AreRecords w.con_records
  pub con_until : AreUpTo w.last w.con_records.items
  pub non_records : AreRecords w.non_records
  pub non_until : AreUpTo w.last w.non_records.items

-- a message from this endpoint is new at this moment, and nothing came later
pub record IsNew (now : ℕ) (source : Endpoint) (m : Message) (w : State) : Type 0 where
  pub unknown : known_of w now source m ≡ None
  pub until : AreUpTo now (records_of m.kind w).items

-- it is, and there is room to remember it
pub record CanRemember (now : ℕ) (source : Endpoint) (m : Message) (w : State) : Type 0 where
  pub unknown : known_of w now source m ≡ None
  pub until : AreUpTo now (records_of m.kind w).items
  pub room : has_record_room w now source m.kind ≡ true

-- A step may be taken at this moment, in milliseconds: the tables can go on, and time doesn't go
-- back.
pub record CanStep (now : ℕ) (w : State) : Type 0 where
  pub can : CanGoOn w
  pub onward : w.last ≤ now
  pub moment : now ≤ 2 ^ 62

-- A step can be done at this moment: it may be taken, the datagram has room for any that is sent,
-- and so for the step's.
pub record CanDo (s : Step) (now : ℕ) (w : State) (out : Datagram) : Type 0 where
  pub ready : CanStep now w
  pub room : w.setting.limits.datagram ≤ out.room
  pub fits : length s.bytes ≤ out.room

-- a reply may be sent to this request at once: it is new, and there is a Message ID for the reply
pub record CanReplyTo (request : Arrival) (w : State) : Type 0 where
  pub ready : CanStep request.now w
  pub new : CanRemember request.now request.from request.message.now w
  pub ids : can_reply w request.now request.message.now.kind ≡ true

-- one may, and the datagram has room for what this step sends
pub record CanSend (s : Step) (request : Arrival) (w : State) (out : Datagram) : Type 0 where
  pub reply : CanReplyTo request w
  pub fits : length s.bytes ≤ out.room

-- the request of the exchange numbered this, if there is one, was sent, and neither an
-- acknowledgement nor an answer has come
abbrev pub IsSentAt : ℕ → List (Numbered Exchange) → Type 0
IsSentAt number exchanges = IfSome (item_at number exchanges) (λ x. is_sent x ≡ true)

-- there is an item with this number in a table, and this holds of it
pub record IsFound {A : Type 0} (P : A → Type 0) (number : ℕ) (items : List (Numbered A))
    : Type 0 where
  pub item : A
  pub found : item_at number items ≡ Some item
  pub holds : P item

-- there is an exchange with this number, and no answer has come for it
abbrev pub IsUnansweredAt : ℕ → List (Numbered Exchange) → Type 0
IsUnansweredAt number exchanges = IsFound (λ x. is_done x ≡ false) number exchanges
