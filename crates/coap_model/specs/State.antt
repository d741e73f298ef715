-- The tables of a proxy as one value, and how steps change them.
use Rattle.std.specs.Prelude.{ℕ, ◌+◌, ◌%◌, ◌&&◌, ◌||◌, Bool, false, not, nat_le, nat_lt, if◌then◌else◌, List, [], length, Option, Some, None}
use Rattle.coap_message.specs.Message.{Message}
use Rattle.coap_message.specs.Spelling.{spelling}
use Rattle.coap_message.specs.declared.kind.Kind.{Kind}
use Rattle.coap_message.specs.declared.transmission.TheConstants.{EXCHANGE_LIFETIME, NON_LIFETIME}
use Rattle.coap_endpoint.specs.declared.endpoint.Endpoint.{Endpoint}
use Rattle.coap_dedup.specs.declared.record.Record.{Record}
use Rattle.coap_dedup.specs.Lists.{record_of}
use Rattle.coap_dedup.specs.Records.{Records, living_at, living_of, no_records, with_kept}
use Rattle.coap_store.specs.Entries.{Entry, entry_size}
use Rattle.coap_store.specs.Lists.{total}
use Rattle.coap_pending.specs.declared.exchange.Exchange.{Exchange}
use Rattle.coap_pending.specs.declared.waiter.Waiter.{Waiter}
use Rattle.coap_pending.specs.declared.ids.Ids.{Ids}
use Rattle.coap_pending.specs.Exchanges.{is_opened_by, is_queued}
use Rattle.coap_pending.specs.Waiters.{is_of, is_waiting}
use Rattle.coap_pending.specs.Ids.{new_ids, given_in}
use Rattle.coap_pending.specs.Table.{Numbered, count}
use Rattle.coap_model.specs.declared.report.Outcome.TheVariants.{Again}
use Rattle.coap_model.specs.declared.deed.Deed.{Deed}
use Rattle.coap_model.specs.declared.deed.Deed.TheVariants.{Ignored, Rejected, Repeated, Unremembered}
use Rattle.coap_model.specs.declared.deed.Lacks.{Lacks}
use Rattle.coap_model.specs.declared.deed.Unprocessed.{Unprocessed}
use Rattle.coap_model.specs.Deeds.{outcome_of}
use Rattle.coap_model.specs.declared.report.Report.{Report}
use Rattle.coap_model.specs.declared.report.ClientCounts.{ClientCounts}
use Rattle.coap_model.specs.declared.report.Counts.{Counts}
use Rattle.coap_limits.specs.Limits.{Limits}
use Rattle.coap_model.specs.Setting.{Setting}
use Rattle.coap_forward.specs.Messages.{is_con, reset, acknowledgement, kept_reply}

pub record State : Type 0 where
  pub setting : Setting
  -- the exchanges in progress and the waiters, in order of number
  pub exchanges : List (Numbered Exchange)
  pub waiters : List (Numbered Waiter)
  -- the stored responses, the most recently used first
  pub store : List Entry
  -- the records of the Confirmable and of the Non-confirmable messages that were received
  pub con_records : Records
  pub non_records : Records
  -- how many exchanges were ever opened, and how many waiters were ever admitted
  pub opened : ℕ
  pub admitted : ℕ
  -- the next Message ID, and how many were given out recently
  pub ids : Ids
  -- the last moment, and the number of events
  pub last : ℕ
  pub events : ℕ

-- what a step did, in full and in short, the bytes of its datagram (none if it sends none), and the
-- tables after it
pub record Step : Type 0 where
  pub deed : Deed
  pub report : Report
  pub bytes : List ℕ
  pub state : State

-- records of the messages of each type, when none has come yet
abbrev pub no_con_records : Limits → Records
no_con_records l = no_records l.con_records l.client_con_records EXCHANGE_LIFETIME

abbrev pub no_non_records : Limits → Records
no_non_records l = no_records l.non_records l.client_non_records NON_LIFETIME

-- a proxy that has done nothing
abbrev pub new_state : Setting → State
new_state setting = record {
  setting = setting;
  exchanges = [];
  waiters = [];
  store = [];
  con_records = no_con_records setting.limits;
  non_records = no_non_records setting.limits;
  opened = 0;
  admitted = 0;
  ids = new_ids (setting.first_id % 65536);
  last = 0;
  events = 0;
}

-- the clock advances to this moment, and one more event is counted
abbrev pub later : State → ℕ → State
later w now = record w { last = now; events = w.events + 1 }

abbrev pub silent : Deed → State → Step
silent deed w =
    record {
      deed = deed;
      report = record { send = None; outcome = outcome_of deed };
      bytes = [];
      state = w;
    }

abbrev pub says : Deed → Endpoint → Message → State → Step
says deed to m w =
    record {
      deed = deed;
      report = record { send = Some to; outcome = outcome_of deed };
      bytes = spelling m;
      state = w;
    }

-- the datagram is ignored
abbrev pub ignores : State → ℕ → Unprocessed → Step
ignores w now why = silent (Ignored why) (later w now)

-- a Reset with the id of a message that can't be processed (RFC 7252, 4.2)
abbrev pub rejects : State → ℕ → Endpoint → ℕ → Unprocessed → Step
rejects w now source id why = says (Rejected why) source (reset id) (later w now)

-- a message that can't be processed is rejected if it is Confirmable, and ignored otherwise
abbrev pub unprocessed : State → ℕ → Endpoint → Kind → ℕ → Unprocessed → Step
unprocessed w now source kind id why =
    if is_con kind then rejects w now source id why else ignores w now why

-- a message is accepted, and no reply is sent yet: a Confirmable one is acknowledged (RFC 7252, 4.2
-- and 5.2.2)
abbrev pub accepts : Deed → Endpoint → Message → State → Step
accepts deed source m w =
    if is_con m.kind
    then says deed source (acknowledgement m.id) w
    else silent deed w

-- ---- messages received before

-- the records of the messages of this type that were received
abbrev pub records_of : Kind → State → Records
records_of kind w = if is_con kind then w.con_records else w.non_records

-- there is room to remember one more message of this type from this endpoint: fewer living records
-- than there may be, of all messages and of those of this endpoint
abbrev pub has_record_room : State → ℕ → Endpoint → Kind → Bool
has_record_room w now source kind =
    nat_lt (length (living_at now (records_of kind w))) (records_of kind w).limit
    && nat_lt (living_of source now (records_of kind w)) (records_of kind w).per_client

-- the living record with the source, type and id of a message, if there is one
abbrev pub known_of : State → ℕ → Endpoint → Message → Option Record
known_of w now source m = record_of source m.id (living_at now (records_of m.kind w))

-- the record of a message, if this datagram is sent immediately in return
abbrev pub record_made : ℕ → Endpoint → Message → List ℕ → Record
record_made now source m bytes =
    record { from = source; id = m.id; at = now; reply = kept_reply m.kind bytes }

-- the message is remembered, with this datagram as what is sent immediately in return
abbrev pub with_record : ℕ → Endpoint → Message → List ℕ → State → State
with_record now source m bytes w = record w {
  con_records = if is_con m.kind
      then with_kept (record_made now source m bytes) w.con_records
      else w.con_records;
  non_records = if is_con m.kind
      then w.non_records
      else with_kept (record_made now source m bytes) w.non_records;
}

-- the same, with what a step sends
abbrev pub remembers : ℕ → Endpoint → Message → Step → Step
remembers now source m s = record s { state = with_record now source m s.bytes s.state }

-- a duplicate gets what was sent immediately the first time, and nothing else is done
abbrev pub repeats : State → ℕ → Endpoint → Option (List ℕ) → Step
repeats w now source None = silent Repeated (later w now)
repeats w now source (Some bytes) =
    record {
      deed = Repeated;
      report = record { send = Some source; outcome = Again };
      bytes = bytes;
      state = later w now;
    }

-- there is no room to remember the message: nothing is sent
abbrev pub drops : State → ℕ → Kind → Step
drops w now kind = silent (Unremembered kind) (later w now)

-- ---- Message IDs

-- the id that is given out next (RFC 7252, 4.4)
abbrev pub next_id : State → ℕ
next_id w = w.ids.following

-- the number of ids reserved for waiters that haven't been served yet, and for exchanges whose
-- request hasn't been sent yet
abbrev pub reserved : State → ℕ
reserved w = count is_waiting w.waiters + count is_queued w.exchanges

-- at least `k` ids are free at a moment, in the window of 247 seconds that contains it
abbrev pub has_ids : ℕ → State → ℕ → Bool
has_ids k w now = nat_le (given_in now w.ids + reserved w + k) 32768

-- an immediate reply can be sent to a request that came in a message of this type: in an
-- acknowledgement it needs no new id
abbrev pub can_reply : State → ℕ → Kind → Bool
can_reply w now kind = is_con kind || has_ids 1 w now

-- ---- capacity

-- the number of open exchanges that this client opened, and of its requests that wait for an answer
-- or for the acknowledgement of one
abbrev pub exchanges_of : Endpoint → State → ℕ
exchanges_of client w = count (is_opened_by client) w.exchanges

abbrev pub waiters_of : Endpoint → State → ℕ
waiters_of client w = count (is_of client) w.waiters

-- fewer than there may be, of all clients and of this one
abbrev pub has_exchange_room : State → Endpoint → Bool
has_exchange_room w client =
    nat_lt (length w.exchanges) w.setting.limits.exchanges
    && nat_lt (exchanges_of client w) w.setting.limits.client_exchanges

abbrev pub has_waiter_room : State → Endpoint → Bool
has_waiter_room w client =
    nat_lt (length w.waiters) w.setting.limits.waiters
    && nat_lt (waiters_of client w) w.setting.limits.client_waiters

-- there is room for this client to wait for an exchange that is in progress
abbrev pub has_room_to_join : State → ℕ → Endpoint → Bool
has_room_to_join w now client = has_waiter_room w client && has_ids 1 w now

-- there is room to open an exchange for this client
abbrev pub has_room_to_open : State → ℕ → Endpoint → Bool
has_room_to_open w now client =
    has_exchange_room w client && (has_waiter_room w client && has_ids 2 w now)

-- what is lacking where there is no room to join, and no room to open
abbrev pub lacks_to_join : State → ℕ → Endpoint → Lacks
lacks_to_join w now client = record {
  exchanges = false;
  client_exchanges = false;
  waiters = nat_le w.setting.limits.waiters (length w.waiters);
  client_waiters = nat_le w.setting.limits.client_waiters (waiters_of client w);
  ids = not (has_ids 1 w now);
}

abbrev pub lacks_to_open : State → ℕ → Endpoint → Lacks
lacks_to_open w now client = record {
  exchanges = nat_le w.setting.limits.exchanges (length w.exchanges);
  client_exchanges = nat_le w.setting.limits.client_exchanges (exchanges_of client w);
  waiters = nat_le w.setting.limits.waiters (length w.waiters);
  client_waiters = nat_le w.setting.limits.client_waiters (waiters_of client w);
  ids = not (has_ids 2 w now);
}

-- ---- how much a proxy holds

abbrev pub counts : State → Counts
counts w = record {
  cached_bytes = total entry_size w.store;
  entries = length w.store;
  con_records = length (living_at w.last w.con_records);
  non_records = length (living_at w.last w.non_records);
  exchanges = length w.exchanges;
  waiters = length w.waiters;
}

-- how much of it is an endpoint's: the living records of its messages, the exchanges that it
-- opened, and its requests that wait
abbrev pub client_counts : State → Endpoint → ClientCounts
client_counts w client = record {
  con_records = living_of client w.last w.con_records;
  non_records = living_of client w.last w.non_records;
  exchanges = exchanges_of client w;
  waiters = waiters_of client w;
}
