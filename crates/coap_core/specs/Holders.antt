-- Who has most of a table that is full: when that is looked for, and what is found.
use Rattle.std.specs.Prelude.{◌≡◌, ℕ, ◌+◌, ◌-◌, ◌^◌, ◌≤◌, ◌&&◌, ◌||◌, Bool, true, false, not, nat_le, min, max, if◌then◌else◌, List, [], ◌∷◌, codes, map, Option, Some, None}
use Rattle.std.specs.Ordering.{is_lt}
use Rattle.coap_message.specs.declared.message.Head.{Head}
use Rattle.coap_message.specs.Reading.{head_at}
use Rattle.coap_endpoint.specs.declared.endpoint.Endpoint.{Endpoint}
use Rattle.coap_endpoint.specs.declared.endpoint.Ip.{Ip}
use Rattle.coap_endpoint.specs.Endpoint.{same_endpoint, same_ip}
use Rattle.coap_endpoint.specs.Order.{ip_cmp}
use Rattle.coap_forward.specs.Messages.{is_con}
use Rattle.coap_limits.specs.Limits.{Limits}
use Rattle.coap_model.specs.Events.{Event, arrival}
use Rattle.coap_model.specs.State.{State, counts, has_exchange_room, has_waiter_room}
use Rattle.coap_model.specs.declared.report.Outcome.{Outcome}
use Rattle.coap_model.specs.declared.report.Outcome.TheVariants.{NoRecordRoom, Overloaded}
use Rattle.coap_model.specs.declared.report.Report.{Report}
use Rattle.coap_core.specs.declared.holders.Holder.{Holder}
use Rattle.coap_core.specs.declared.holders.SharedTable.{SharedTable}
use Rattle.coap_core.specs.declared.holders.SharedTable.TheVariants.{ConRecords, NonRecords, Exchanges, Waiters}
use Rattle.coap_core.specs.Told.{Told, report_told}

-- ---- what addresses have

-- whose the items of a table are, one for each: the endpoint that a message came from, or the
-- client that a request is of
abbrev pub owners : SharedTable → State → List Endpoint
owners ConRecords w = map (λ r. r.from) w.con_records.items
owners NonRecords w = map (λ r. r.from) w.non_records.items
owners Exchanges w = map (λ x. x.1.client) w.exchanges
owners Waiters w = map (λ x. x.1.client) w.waiters

-- how many of these are an address's
abbrev pub held_by : Ip → List Endpoint → ℕ
held_by ip [] = 0
held_by ip (e ∷ es) = (if same_ip e.ip ip then 1 else 0) + held_by ip es

abbrev pub is_among : Endpoint → List Endpoint → Bool
is_among e [] = false
is_among e (x ∷ xs) = same_endpoint x e || is_among e xs

-- of how many different ports of the address these are
abbrev pub ports_of : Ip → List Endpoint → ℕ
ports_of ip [] = 0
ports_of ip (e ∷ es) =
    (if same_ip e.ip ip && not (is_among e es) then 1 else 0) + ports_of ip es

abbrev pub table_name : SharedTable → List ℕ
table_name ConRecords = codes "con_records"
table_name NonRecords = codes "non_records"
table_name Exchanges = codes "exchanges"
table_name Waiters = codes "waiters"

-- how much of a table all have at present, and how much they may have
abbrev pub used_of : SharedTable → State → ℕ
used_of ConRecords w = (counts w).con_records
used_of NonRecords w = (counts w).non_records
used_of Exchanges w = (counts w).exchanges
used_of Waiters w = (counts w).waiters

abbrev pub limit_of : SharedTable → Limits → ℕ
limit_of ConRecords l = l.con_records
limit_of NonRecords l = l.non_records
limit_of Exchanges l = l.exchanges
limit_of Waiters l = l.waiters

-- This address has most of the table, so much of it, and with so many of its ports: no other has
-- more, and of equal ones it is the lowest.
pub record HasMost (of : SharedTable) (now : ℕ) (w : State) (h : Holder) : Type 0 where
  pub table : h.table ≡ of
  pub held : h.held ≡ held_by h.ip (owners of w)
  pub ports : h.ports ≡ ports_of h.ip (owners of w)
  pub most : (ip : Ip) → held_by ip (owners of w) ≤ h.held
  pub lowest : (ip : Ip) → held_by ip (owners of w) ≡ h.held → is_lt (ip_cmp ip h.ip) ≡ false
  pub count : h.count ≡ used_of of w
  pub limit : h.limit ≡ limit_of of w.setting.limits
  pub found : h.found ≡ now

-- ---- which table is full

-- the records of messages of the type that came
abbrev pub records_for : Option Head → Option SharedTable
records_for None = None
records_for (Some head) = Some (if is_con head.kind then ConRecords else NonRecords)

-- the table in which there is no room for one more item of a client: exchanges, or else waiters
abbrev pub full_for : Endpoint → State → Option SharedTable
full_for client w =
    if has_exchange_room w client
    then (if has_waiter_room w client then None else Some Waiters)
    else Some Exchanges

-- The table that is told to be full after a datagram with this outcome. After a 5.03 it is the
-- first full one of those that opening an exchange needs: a GET that could have joined an exchange
-- may have lacked the other.
abbrev pub lacking_for : Endpoint → List ℕ → State → Outcome → Option SharedTable
lacking_for client bytes w NoRecordRoom = records_for (head_at bytes)
lacking_for client bytes w Overloaded = full_for client w
lacking_for client bytes w _ = None

abbrev pub lacking_at : Event → State → Outcome → Option SharedTable
lacking_at (arrival client bytes) w outcome = lacking_for client bytes w outcome
lacking_at _ w outcome = None

-- a message with this outcome was turned away, so that a table may be full
abbrev pub is_turned_away : Outcome → Bool
is_turned_away NoRecordRoom = true
is_turned_away Overloaded = true
is_turned_away _ = false

-- the table that is told to be full after a message was turned away in a turn
abbrev pub lacking_in : Event → State → Option Report → Option SharedTable
lacking_in event w None = None
lacking_in event w (Some report) = lacking_at event w report.outcome

abbrev pub lacking : Told → Option SharedTable
lacking t = lacking_in t.turn.event t.state (report_told t)

-- ---- when somebody is looked for

-- Who was found last to have most of each table. Nobody is looked for before a moment, nor in a
-- table that may have more items than there is room to count.
pub record Holders : Type 0 where
  pub room : ℕ
  pub next : ℕ
  pub con_records : Option Holder
  pub non_records : Option Holder
  pub exchanges : Option Holder
  pub waiters : Option Holder

-- the most items that a table may have
abbrev pub most_items : Limits → ℕ
most_items l = max (max (max l.con_records l.non_records) l.exchanges) l.waiters

-- nobody was found yet
abbrev pub nobody : Limits → Holders
nobody l = record {
  room = most_items l;
  next = 0;
  con_records = None;
  non_records = None;
  exchanges = None;
  waiters = None;
}

abbrev pub noted : Holder → SharedTable → Holders → Holders
noted h ConRecords before = record before { con_records = Some h }
noted h NonRecords before = record before { non_records = Some h }
noted h Exchanges before = record before { exchanges = Some h }
noted h Waiters before = record before { waiters = Some h }

abbrev pub may_look : Holders → ℕ → Limits → SharedTable → Bool
may_look before now l table = nat_le before.next now && nat_le (limit_of table l) before.room

abbrev pub looked_in : Holders → ℕ → Limits → Option SharedTable → Option SharedTable
looked_in before now l None = None
looked_in before now l (Some table) = if may_look before now l table then Some table else None

-- the table of which it is looked for in a turn who has most
abbrev pub looks_in : Holders → Told → Option SharedTable
looks_in before t = looked_in before t.turn.now t.state.setting.limits (lacking t)

-- then nobody is looked for within a minute
abbrev pub paused : ℕ → Holders → Holders
paused now before = record before { next = min (now + 60000) (2 ^ 64 - 1) }

-- somebody who has most of the table is found and noted, unless the table is empty
abbrev pub IsFound :
    SharedTable → ℕ → State → Holders → Option Holder → Holders → Type 0
IsFound table now w before None after = (owners table w ≡ []) × (after ≡ paused now before)
IsFound table now w before (Some h) after =
    HasMost table now w h × (after ≡ noted h table (paused now before))

-- for this table, if for any
abbrev pub IsLook :
    Option SharedTable → ℕ → State → Holders → Option Holder → Holders → Type 0
IsLook None now w before found after = (found ≡ None) × (after ≡ before)
IsLook (Some table) now w before found after = IsFound table now w before found after

-- the same, of what is lacking
abbrev pub Looks :
    ℕ → State → Option SharedTable → Holders → Option Holder → Holders → Type 0
Looks now w lacks before found after =
    IsLook (looked_in before now w.setting.limits lacks) now w before found after
