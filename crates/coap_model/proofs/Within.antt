-- The limits hold at each position of a history: those of all clients, and those of each one.
use Rattle.std.proofs.Common.{◌≡◌, ⊎_elim, ℕ, ◌+◌, ◌<◌, ◌≤◌, Bool, true, false, cond, List, [], ◌∷◌, ◌++◌, length, map, Option, Some, None, refl, sym, ap, ◌∙◌, subst, arith}
use Rattle.std.specs.Prelude.{◌&&◌, ◌==◌, not, filter, if◌then◌else◌}
use Rattle.std.specs.List.{list_any}
use Rattle.std.proofs.lemmas.Bool.{and_parts}
use Rattle.std.proofs.lemmas.List.{append-nil, length-append, length-map}
use Rattle.std.proofs.lemmas.List.Elements.{filter-append}
use Rattle.coap_message.specs.declared.kind.Kind.{Kind}
use Rattle.coap_message.specs.declared.kind.Kind.TheVariants.{Con, Non}
use Rattle.coap_message.specs.declared.message.Head.{Head}
use Rattle.coap_message.specs.Message.{Message}
use Rattle.coap_message.specs.Reading.{head_at}
use Rattle.coap_endpoint.specs.declared.endpoint.Endpoint.{Endpoint}
use Rattle.coap_store.proofs.Held.{filter-length}
use Rattle.coap_dedup.specs.declared.record.Record.{Record}
use Rattle.coap_dedup.specs.Lists.{is_from, is_living, living}
use Rattle.coap_dedup.proofs.Aging.{length-living}
use Rattle.coap_dedup.proofs.Passing.{living-again}
use Rattle.coap_forward.specs.Messages.{kept_reply}
use Rattle.coap_model.specs.declared.report.Outcome.{Outcome}
use Rattle.coap_model.specs.declared.report.Outcome.TheVariants.{Joined, Opened, Answered, Acked, SentRequest, GaveUp, Delivered}
use Rattle.coap_model.specs.Setting.{Setting}
use Rattle.coap_model.specs.Events.{Event, arrival, tick}
use Rattle.coap_model.specs.History.{Act, admits, moves, serves, Action, Position, IsPositionOf, IsRequestOf, admits_one, last_of, IsInOrder, is_con_datagram}
use Rattle.coap_model.specs.Standing.{WaiterStanding, Stage, Open, others_than, as_delivering, waiting_since, standing_by, standing_in, waits_for, delivering, open_since, at_stage, sent, done, acked, open_by, open_in, exchanges_of, waiters_of}
use Rattle.coap_model.specs.Remembered.{is_remembered, goes_with, kept_of, kept_at, kept_by, kept_in, most_of_client, most_remembered, remembered_at, remembered_for, remembered_of}
use Rattle.coap_model.specs.Justified.{IsOpening, JustifiedBy, AllJustified}
use Rattle.coap_model.specs.Word.{until, IsCacheWithin, IsWithin}
use Rattle.coap_model.proofs.Arrivals.{head_kind}
use Rattle.coap_model.proofs.Duplicates.{goes-same}
use Rattle.coap_model.proofs.Owned.{filtered-count, owned, AreFew, few-changed, few-left, few-more}
use Rattle.coap_model.proofs.Positions.{arrival-same, justified-at}
use Rattle.coap_model.proofs.Repeats.{new-here}
use Rattle.coap_model.proofs.Stages.{all-before}

-- ---- exchanges and waiters

-- changing each element leaves as many
same-many : {X : Type 0} (f : X → X) (xs : List X) (n : ℕ) → length xs ≤ n → length (map f xs) ≤ n
same-many f xs n h = let e = length-map xs f in omega (arith, e, h)

-- and filtering leaves no more
fewer : {X : Type 0} (p : X → Bool) (xs : List X) (n : ℕ) → length xs ≤ n → length (filter p xs) ≤ n
fewer p xs n h = let e = filter-length p xs in omega (arith, e, h)

-- an event brings at most one more exchange or waiter
one-more : {X : Type 0} (xs ys : List X) (n : ℕ) → length ys ≤ 1 → length xs < n → length (xs ++ ys) ≤ n
one-more xs ys n one room = omega (arith, length-append xs ys, one, room)

-- so it is with the exchanges that an event opens
one-opened : (event : Event) (x : ℕ) → length (open_since event x) ≤ 1
one-opened (arrival source bytes) x = omega arith
one-opened tick x = omega arith

-- and with the waiters whose request it brings
one-waiting : (event : Event) (v x : ℕ) → length (waiting_since event v x) ≤ 1
one-waiting (arrival source bytes) v x = omega arith
one-waiting tick v x = omega arith

-- no more exchanges are open than the limit, if there was room for one that is opened
open-few : (n : ℕ) (o : Outcome) (act : Act) (event : Event) (send : Option Endpoint) (standing : List WaiterStanding) (xs : List Open) → (o ≡ Opened → length xs < n) → length xs ≤ n → length (open_by o act event send standing xs) ≤ n
open-few n Opened (admits v x) event send standing xs room few = one-more xs (open_since event x) n (one-opened event x) (room refl)
open-few n SentRequest (moves x) event (Some to) standing xs room few = same-many (at_stage x (sent to)) xs n few
open-few n Acked (moves x) event send standing xs room few = same-many (at_stage x acked) xs n few
open-few n (Answered s) (moves x) event send standing xs room few = same-many (at_stage x done) xs n few
open-few n GaveUp (moves x) event send standing xs room few = same-many (at_stage x done) xs n few
open-few n Delivered act event send standing xs room few = fewer _ xs n few
open-few n SentRequest (moves x) event None standing xs room few = few
open-few n _ _ event send standing xs room few = few

-- nor are more waiters there than the limit
standing-few : (n : ℕ) (o : Outcome) (act : Act) (event : Event) (bytes : List ℕ) (standing : List WaiterStanding) → (o ≡ Opened → length standing < n) → (o ≡ Joined → length standing < n) → length standing ≤ n → length (standing_by o act event bytes standing) ≤ n
standing-few n Opened (admits v x) event bytes standing opens joins few = one-more standing (waiting_since event v x) n (one-waiting event v x) (opens refl)
standing-few n Joined (admits v x) event bytes standing opens joins few = one-more standing (waiting_since event v x) n (one-waiting event v x) (joins refl)
standing-few n Acked (serves v) event bytes standing opens joins few = fewer _ standing n few
standing-few n GaveUp (serves v) event bytes standing opens joins few = fewer _ standing n few
standing-few n Delivered (serves v) event bytes standing opens joins few = go (is_con_datagram bytes)
  where
    go : (b : Bool) → length (if b then map (as_delivering v) standing else others_than v standing) ≤ n
    go true = same-many (as_delivering v) standing n few
    go false = fewer _ standing n few
standing-few n _ _ event bytes standing opens joins few = few

-- so the limit holds at each position
pub open-within : (setting : Setting) (history : List Action) → AllJustified setting history → length (open_in history) ≤ setting.limits.exchanges
open-within setting [] all = omega arith
open-within setting (d ∷ past) all =
    open-few setting.limits.exchanges d.observation.report.outcome d.act d.observation.event d.observation.report.send (standing_in (d ∷ past)) (open_in past)
    (λ is. let j = subst (λ (o : Outcome). JustifiedBy o setting past d) is all.0 in j.room.shared.exchange)
    (open-within setting past all.1)

-- and so does the limit for waiters
pub standing-within : (setting : Setting) (history : List Action) → AllJustified setting history → length (standing_in history) ≤ setting.limits.waiters
standing-within setting [] all = omega arith
standing-within setting (d ∷ past) all =
    standing-few setting.limits.waiters d.observation.report.outcome d.act d.observation.event d.observation.bytes (standing_in past)
    (λ is. let j = subst (λ (o : Outcome). JustifiedBy o setting past d) is all.0 in j.room.shared.waiter)
    (λ is. let j = subst (λ (o : Outcome). JustifiedBy o setting past d) is all.0 in j.room.shared.waiter)
    (standing-within setting past all.1)

-- ---- those of one client

-- who opened an exchange
abbrev pub opener : Open → Endpoint
opener o = o.client

-- who sent a pending request
abbrev pub asker : WaiterStanding → Endpoint
asker s = s.client

-- who sent a message that is remembered
abbrev pub sender : Record → Endpoint
sender r = r.from

-- a request comes from the source of its datagram
sent-by : {setting : Setting} {client : Endpoint} {request : Message} {event : Event} (source : Endpoint) (bytes : List ℕ) → IsRequestOf setting client request event → event ≡ arrival source bytes → client ≡ source
sent-by {client = client} source bytes asked came = (arrival-same client source asked.brings.bytes bytes (sym asked.brings.came ∙ came)).0

-- an exchange is still its client's in another stage
staged-client : (x : ℕ) (stage : Stage) (o : Open) → (at_stage x stage o).client ≡ o.client
staged-client x stage o = go (o.number == x)
  where
    go : (b : Bool) → (if b then record o { stage = stage } else o).client ≡ o.client
    go true = refl
    go false = refl

-- and a pending request still its client's once it is answered
delivering-client : (v : ℕ) (s : WaiterStanding) → (as_delivering v s).client ≡ s.client
delivering-client v s = go (s.number == v)
  where
    go : (b : Bool) → (if b then record s { service = delivering } else s).client ≡ s.client
    go true = refl
    go false = refl

-- no client has more open exchanges than it may, if whoever opens one had room for it
open-own : (n : ℕ) (o : Outcome) (act : Act) (event : Event) (send : Option Endpoint) (standing : List WaiterStanding) (xs : List Open)
    → (o ≡ Opened → (source : Endpoint) (bytes : List ℕ) → event ≡ arrival source bytes → owned opener source xs < n)
    → AreFew opener n xs → AreFew opener n (open_by o act event send standing xs)
open-own n Opened (admits v x) (arrival source bytes) send standing xs room few = few-more opener n xs _ (room refl source bytes refl) few
open-own n Opened (admits v x) tick send standing xs room few = subst (AreFew opener n) (sym (append-nil xs)) few
open-own n SentRequest (moves x) event (Some to) standing xs room few = few-changed opener n (at_stage x (sent to)) (staged-client x (sent to)) xs few
open-own n Acked (moves x) event send standing xs room few = few-changed opener n (at_stage x acked) (staged-client x acked) xs few
open-own n (Answered s) (moves x) event send standing xs room few = few-changed opener n (at_stage x done) (staged-client x done) xs few
open-own n GaveUp (moves x) event send standing xs room few = few-changed opener n (at_stage x done) (staged-client x done) xs few
open-own n Delivered act event send standing xs room few = few-left opener n (λ o. list_any (λ s. waits_for o.number s.service) standing) xs few
open-own n SentRequest (moves x) event None standing xs room few = few
open-own n _ _ event send standing xs room few = few

-- nor more pending requests, if whoever is admitted had room for it
standing-own : (n : ℕ) (o : Outcome) (act : Act) (event : Event) (bytes : List ℕ) (xs : List WaiterStanding)
    → (admits_one o ≡ 1 → (source : Endpoint) (came : List ℕ) → event ≡ arrival source came → owned asker source xs < n)
    → AreFew asker n xs → AreFew asker n (standing_by o act event bytes xs)
standing-own n Opened (admits v x) (arrival source came) bytes xs room few = few-more asker n xs _ (room refl source came refl) few
standing-own n Joined (admits v x) (arrival source came) bytes xs room few = few-more asker n xs _ (room refl source came refl) few
standing-own n Opened (admits v x) tick bytes xs room few = subst (AreFew asker n) (sym (append-nil xs)) few
standing-own n Joined (admits v x) tick bytes xs room few = subst (AreFew asker n) (sym (append-nil xs)) few
standing-own n Acked (serves v) event bytes xs room few = few-left asker n (λ s. not (s.number == v)) xs few
standing-own n GaveUp (serves v) event bytes xs room few = few-left asker n (λ s. not (s.number == v)) xs few
standing-own n Delivered (serves v) event bytes xs room few = go (is_con_datagram bytes)
  where
    go : (b : Bool) → AreFew asker n (if b then map (as_delivering v) xs else others_than v xs)
    go true = few-changed asker n (as_delivering v) (delivering-client v) xs few
    go false = few-left asker n (λ s. not (s.number == v)) xs few
standing-own n _ _ event bytes xs room few = few

-- a client that is admitted had room for one more request
admitted-room : (setting : Setting) (past : List Action) (d : Action) (o : Outcome) → JustifiedBy o setting past d → admits_one o ≡ 1 → (source : Endpoint) (bytes : List ℕ) → d.observation.event ≡ arrival source bytes → waiters_of source past < setting.limits.client_waiters
admitted-room setting past d Joined j one source bytes came = subst (λ (e : Endpoint). waiters_of e past < setting.limits.client_waiters) (sent-by source bytes j.asked came) j.room.own.waiter
admitted-room setting past d Opened j one source bytes came = subst (λ (e : Endpoint). waiters_of e past < setting.limits.client_waiters) (sent-by source bytes j.asked came) j.room.own.waiter
admitted-room setting past d _ j one source bytes came = absurd (omega (arith, one))

-- so the limit of exchanges holds at each position for each client
pub open-own-within : (setting : Setting) (history : List Action) → AllJustified setting history → AreFew opener setting.limits.client_exchanges (open_in history)
open-own-within setting [] all = λ client. omega arith
open-own-within setting (d ∷ past) all =
    open-own setting.limits.client_exchanges d.observation.report.outcome d.act d.observation.event d.observation.report.send (standing_in (d ∷ past)) (open_in past) room (open-own-within setting past all.1)
  where
    room : d.observation.report.outcome ≡ Opened → (source : Endpoint) (bytes : List ℕ) → d.observation.event ≡ arrival source bytes → exchanges_of source past < setting.limits.client_exchanges
    room is source bytes came =
        let j : IsOpening setting past d = subst (λ (o : Outcome). JustifiedBy o setting past d) is all.0 in
        subst (λ (e : Endpoint). exchanges_of e past < setting.limits.client_exchanges) (sent-by source bytes j.asked came) j.room.own.exchange

-- and so does that of pending requests
pub standing-own-within : (setting : Setting) (history : List Action) → AllJustified setting history → AreFew asker setting.limits.client_waiters (standing_in history)
standing-own-within setting [] all = λ client. omega arith
standing-own-within setting (d ∷ past) all =
    standing-own setting.limits.client_waiters d.observation.report.outcome d.act d.observation.event d.observation.bytes (standing_in past) (admitted-room setting past d d.observation.report.outcome all.0) (standing-own-within setting past all.1)

-- ---- what is remembered

-- an observation adds no record, or one for which there was room
data LeavesFew (setting : Setting) (kind : Kind) (past : List Action) (d : Action) : List Record → Type 0 where
  nothing : LeavesFew setting kind past d []
  one : (r : Record)
      → length (remembered_at kind d.observation.now past) < most_remembered kind setting.limits
      → remembered_of r.from kind d.observation.now past < most_of_client kind setting.limits
      → LeavesFew setting kind past d (r ∷ [])

-- so does a justified action
leaves-few : (setting : Setting) (kind : Kind) (past : List Action) (d : Action) → JustifiedBy d.observation.report.outcome setting past d → LeavesFew setting kind past d (kept_by kind d.observation)
leaves-few setting kind past d j = go d.observation.event refl
  where
    headed : (source : Endpoint) (bytes : List ℕ) → d.observation.event ≡ arrival source bytes → (o : Option Head) → head_at bytes ≡ o → LeavesFew setting kind past d (kept_of kind d.observation.report.outcome d.observation.now d.observation.bytes source o)
    headed source bytes came None is = nothing
    headed source bytes came (Some head) is = test (goes_with kind head.kind && is_remembered d.observation.report.outcome head.kind) refl
      where
        test : (b : Bool) → (goes_with kind head.kind && is_remembered d.observation.report.outcome head.kind) ≡ b → LeavesFew setting kind past d (if b then record { from = source; id = head.id; at = d.observation.now; reply = kept_reply head.kind d.observation.bytes } ∷ [] else [])
        test false none = nothing
        test true kept =
            let parts = and_parts (goes_with kind head.kind) (is_remembered d.observation.report.outcome head.kind) kept in
            let new = new-here d.observation.report.outcome setting past d source bytes head j came is parts.1 in
            let same : new.message.kind ≡ kind = head_kind new.brings came is ∙ goes-same kind head.kind parts.0 in
            let from : new.source ≡ source = (arrival-same new.source source new.brings.bytes bytes (sym new.brings.came ∙ came)).0 in
            one _
            (subst (λ (k : Kind). length (remembered_at k d.observation.now past) < most_remembered k setting.limits) same new.room.shared)
            (subst (λ (e : Endpoint). remembered_of e kind d.observation.now past < most_of_client kind setting.limits) from (subst (λ (k : Kind). remembered_of new.source k d.observation.now past < most_of_client k setting.limits) same new.room.own))

    go : (event : Event) → d.observation.event ≡ event → LeavesFew setting kind past d (kept_at kind d.observation.report.outcome d.observation.now d.observation.bytes event)
    go (arrival source bytes) came = headed source bytes came (head_at bytes) refl
    go tick came = nothing

-- no more is remembered at a moment than at an earlier one
remembered-later : (kind : Kind) (history : List Action) (now later : ℕ) → now ≤ later → length (remembered_at kind later history) ≤ length (remembered_at kind now history)
remembered-later kind history now later onward =
    let same = living-again (remembered_for kind) now later (kept_in kind history) onward in
    let few = length-living (remembered_for kind) later (living (remembered_for kind) now (kept_in kind history)) in
    omega (arith, ap (λ (rs : List Record). length rs) same, few)

-- what is remembered after an action is what was remembered at its moment, and what it adds
remembered-split : (kind : Kind) (past : List Action) (d : Action) → remembered_at kind d.observation.now (d ∷ past) ≡ remembered_at kind d.observation.now past ++ living (remembered_for kind) d.observation.now (kept_by kind d.observation)
remembered-split kind past d = filter-append (is_living (remembered_for kind) d.observation.now) (kept_in kind past) (kept_by kind d.observation)

-- and no more than the limit
pub remembered-within : (setting : Setting) (kind : Kind) (history : List Action) → AllJustified setting history → IsInOrder history → length (remembered_at kind (last_of history) history) ≤ most_remembered kind setting.limits
remembered-within setting kind [] all ordered = omega arith
remembered-within setting kind (d ∷ past) all ordered =
    let now = d.observation.now in
    let split = ap (λ (rs : List Record). length rs) (remembered-split kind past d) in
    let both = length-append (living (remembered_for kind) now (kept_in kind past)) (living (remembered_for kind) now (kept_by kind d.observation)) in
    let before = remembered-within setting kind past all.1 ordered.1 in
    let later = remembered-later kind past (last_of past) now ordered.0 in
    go (kept_by kind d.observation) (leaves-few setting kind past d all.0) (omega (arith, before, later)) (omega (arith, split, both))
  where
    go : (left : List Record) → LeavesFew setting kind past d left → length (remembered_at kind d.observation.now past) ≤ most_remembered kind setting.limits
        → length (remembered_at kind d.observation.now (d ∷ past)) ≡ length (remembered_at kind d.observation.now past) + length (living (remembered_for kind) d.observation.now left)
        → length (remembered_at kind d.observation.now (d ∷ past)) ≤ most_remembered kind setting.limits
    go _ nothing few sum = omega (arith, few, sum)
    go _ (one r room own) few sum = let more = length-living (remembered_for kind) d.observation.now (r ∷ []) in omega (arith, room, sum, more)

-- ---- what is remembered of one endpoint

-- it is what is its of all that is remembered
pub remembered-owned : (source : Endpoint) (kind : Kind) (now : ℕ) (history : List Action) → remembered_of source kind now history ≡ owned sender source (remembered_at kind now history)
remembered-owned source kind now history = filtered-count (is_from source) (remembered_at kind now history)

-- as time passes, no endpoint gets more of it than it may have
pub remembered-own-later : (kind : Kind) (history : List Action) (most now later : ℕ) → now ≤ later → AreFew sender most (remembered_at kind now history) → AreFew sender most (remembered_at kind later history)
remembered-own-later kind history most now later onward few =
    subst (AreFew sender most) (living-again (remembered_for kind) now later (kept_in kind history) onward)
    (few-left sender most (is_living (remembered_for kind) later) (remembered_at kind now history) few)

-- nor by an action
remembered-own-on : (setting : Setting) (kind : Kind) (past : List Action) (d : Action) → JustifiedBy d.observation.report.outcome setting past d → last_of past ≤ d.observation.now → AreFew sender (most_of_client kind setting.limits) (remembered_at kind (last_of past) past)
    → AreFew sender (most_of_client kind setting.limits) (remembered_at kind d.observation.now (d ∷ past))
remembered-own-on setting kind past d j onward few =
    subst (AreFew sender most) (sym (remembered-split kind past d)) (go (kept_by kind d.observation) (leaves-few setting kind past d j))
  where
    most : ℕ
    most = most_of_client kind setting.limits

    still : AreFew sender most (remembered_at kind d.observation.now past)
    still = remembered-own-later kind past most (last_of past) d.observation.now onward few

    none : AreFew sender most (remembered_at kind d.observation.now past ++ [])
    none = subst (AreFew sender most) (sym (append-nil (remembered_at kind d.observation.now past))) still

    go : (left : List Record) → LeavesFew setting kind past d left → AreFew sender most (remembered_at kind d.observation.now past ++ living (remembered_for kind) d.observation.now left)
    go _ nothing = none
    go _ (one r room own) = living_or_not (is_living (remembered_for kind) d.observation.now r)
      where
        living_or_not : (b : Bool) → AreFew sender most (remembered_at kind d.observation.now past ++ cond b (r ∷ []) [])
        living_or_not true = few-more sender most (remembered_at kind d.observation.now past) r (let same = remembered-owned r.from kind d.observation.now past in omega (arith, own, same)) still
        living_or_not false = none

-- so it is within its limit at each position
pub remembered-own-within : (setting : Setting) (kind : Kind) (history : List Action) → AllJustified setting history → IsInOrder history → AreFew sender (most_of_client kind setting.limits) (remembered_at kind (last_of history) history)
remembered-own-within setting kind [] all ordered = λ client. omega arith
remembered-own-within setting kind (d ∷ past) all ordered = remembered-own-on setting kind past d all.0 ordered.0 (remembered-own-within setting kind past all.1 ordered.1)

-- ---- all of them

-- the actions up to a position are justified
pub upto-justified : (setting : Setting) (history : List Action) (p : Position) → AllJustified setting history → IsPositionOf history p → AllJustified setting (until p)
upto-justified setting history p all at = (justified-at setting history p p.action.observation.report.outcome all at refl, all-before setting history p all at)

-- and they are in order
pub upto-ordered : (history : List Action) (p : Position) → IsInOrder history → IsPositionOf history p → IsInOrder (until p)
upto-ordered [] p ordered at = absurd at
upto-ordered (d ∷ past) p ordered at =
    ⊎_elim
    (λ (same : record { before = past; action = d } ≡ p). subst (λ (q : Position). IsInOrder (until q)) same ordered)
    (λ (there : IsPositionOf past p). upto-ordered past p ordered.1 there)
    at

-- so all limits hold there
pub within-at : (setting : Setting) (p : Position) → AllJustified setting (until p) → IsInOrder (until p) → IsCacheWithin setting (until p) → IsWithin setting (until p)
within-at setting p all ordered cache =
    record {
      exchanges = open-within setting (until p) all;
      waiters = standing-within setting (until p) all;
      con_records = remembered-within setting Con (until p) all ordered;
      non_records = remembered-within setting Non (until p) all ordered;
      client_exchanges = open-own-within setting (until p) all;
      client_waiters = standing-own-within setting (until p) all;
      client_con_records = λ from. omega (arith, remembered-owned from Con (last_of (until p)) (until p), remembered-own-within setting Con (until p) all ordered from);
      client_non_records = λ from. omega (arith, remembered-owned from Non (last_of (until p)) (until p), remembered-own-within setting Non (until p) all ordered from);
      cache = cache;
    }
