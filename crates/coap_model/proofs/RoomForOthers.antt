-- One client leaves room for the others: what a client below its own limits lacks is shared.
use Rattle.std.proofs.Common.{◌≡◌, ⊎_elim, ℕ, ◌*◌, ◌<◌, ◌≤◌, Bool, true, false, List, [], ◌∷◌, length, Option, Some, None, refl, subst, arith}
use Rattle.std.specs.Prelude.{◌&&◌, if◌then◌else◌}
use Rattle.std.specs.List.{AllByRecursion}
use Rattle.std.proofs.lemmas.Bool.{cases_lt}
use Rattle.coap_message.specs.declared.kind.Kind.{Kind}
use Rattle.coap_message.specs.declared.message.Head.{Head}
use Rattle.coap_message.specs.Message.{Message}
use Rattle.coap_message.specs.Reading.{head_at}
use Rattle.coap_endpoint.specs.declared.endpoint.Endpoint.{Endpoint}
use Rattle.coap_endpoint.proofs.Lists.{All-append, All-weaken}
use Rattle.coap_target.specs.Routes.{AreRoutes}
use Rattle.coap_dedup.specs.declared.record.Record.{Record}
use Rattle.coap_dedup.specs.Lists.{is_living}
use Rattle.coap_forward.specs.Messages.{is_con, kept_reply}
use Rattle.coap_limits.specs.Limits.{Limits}
use Rattle.coap_model.specs.declared.report.Outcome.{Outcome}
use Rattle.coap_model.specs.declared.report.Outcome.TheVariants.{NoRecordRoom, Overloaded}
use Rattle.coap_model.specs.Setting.{Setting}
use Rattle.coap_model.specs.State.{State}
use Rattle.coap_model.specs.Events.{Event, arrival, tick}
use Rattle.coap_model.specs.History.{Observation, Action, Position, IsPositionOf, IsRequestOf, last_of, IsInOrder}
use Rattle.coap_model.specs.Standing.{open_in, standing_in, HasIds, HasOwnRoomToOpen, HasSharedRoomToOpen}
use Rattle.coap_model.specs.Remembered.{is_remembered, goes_with, kept_of, kept_at, kept_by, kept_in, most_of_client, most_remembered, remembered_at, remembered_for}
use Rattle.coap_model.specs.Justified.{Comes, HasOwnRecordRoom, HasRecordRoom, IsDropped, LacksRoom, to_join, to_open, IsOverload, JustifiedBy, AllJustified}
use Rattle.coap_model.specs.Carries.{Carries}
use Rattle.coap_model.specs.Runs.{Taken, turns_of, AreTurns, new_run, run_of}
use Rattle.coap_model.specs.Shares.{IsFullOf, IsShort, of_exchanges, of_waiters, of_ids, ComesFrom, AreFrom, AreShares, LeavesRoom}
use Rattle.coap_model.proofs.AllCases.{starts}
use Rattle.coap_model.proofs.Lists.{All-filter}
use Rattle.coap_model.proofs.OwedActions.{fewer_ids}
use Rattle.coap_model.proofs.Owned.{is_among, room-of-few}
use Rattle.coap_model.proofs.Positions.{one-brought, request-unique, justified-at}
use Rattle.coap_model.proofs.Runs.{runs_carry}
use Rattle.coap_model.proofs.Services.{All-standing}
use Rattle.coap_model.proofs.Stages.{All-open}
use Rattle.coap_model.proofs.Within.{asker, opener, sender, open-own-within, standing-own-within, remembered-owned, remembered-own-later, remembered-own-within, upto-justified, upto-ordered}

-- ---- what is shared

-- a message of an endpoint below its own limit is dropped only if the shared one is reached
full-of : (setting : Setting) (past : List Action) (d : Action) (source : Endpoint) (m : Message) → JustifiedBy d.observation.report.outcome setting past d → Comes setting source m d.observation.event → HasOwnRecordRoom setting past d.observation.now source m → d.observation.report.outcome ≡ NoRecordRoom → IsFullOf setting.limits m d.observation.now past
full-of setting past d source m j comes own is =
    ⊎_elim
    (λ (less : length (remembered_at m.kind d.observation.now past) < most_remembered m.kind setting.limits). absurd (k.full (there (record { shared = less; own = own }))))
    (λ (most : most_remembered m.kind setting.limits ≤ length (remembered_at m.kind d.observation.now past)). most)
    (cases_lt (length (remembered_at m.kind d.observation.now past)) (most_remembered m.kind setting.limits))
  where
    k : IsDropped setting past d
    k = subst (λ (o : Outcome). JustifiedBy o setting past d) is j

    there : HasRecordRoom setting past d.observation.now source m → HasRecordRoom setting past d.observation.now k.source k.message
    there room =
        let one = one-brought comes.brings k.comes.brings in
        subst (λ (e : Endpoint). HasRecordRoom setting past d.observation.now e k.message) one.0 (subst (HasRecordRoom setting past d.observation.now source) one.1 room)

-- a request of a client below its own limits gets 5.03 only if there is no shared room
not-shared : (setting : Setting) (past : List Action) (d : Action) (client : Endpoint) (request : Message) → JustifiedBy d.observation.report.outcome setting past d → IsRequestOf setting client request d.observation.event → HasOwnRoomToOpen setting.limits client past → d.observation.report.outcome ≡ Overloaded → ¬ HasSharedRoomToOpen setting.limits d.observation.now past
not-shared setting past d client request j asked own is shared = go k.no_room
  where
    k : IsOverload setting past d
    k = subst (λ (o : Outcome). JustifiedBy o setting past d) is j

    own_there : HasOwnRoomToOpen setting.limits k.client past
    own_there = subst (λ (e : Endpoint). HasOwnRoomToOpen setting.limits e past) (request-unique setting d.observation.event client k.client request k.request asked k.asked).0 own

    go : LacksRoom setting past d.observation.now k.client k.key k.request → ⊥
    go (to_join x get miss joinable full) =
        full (record { shared = record { waiter = shared.waiter; ids = fewer_ids d.observation.now past shared.ids }; own = record { waiter = own_there.waiter } })
    go (to_open unanswered fits full) = full (record { shared = shared; own = own_there })

-- if there is no shared room, a limit is reached, or ids are short
is-short : (limits : Limits) (now : ℕ) (history : List Action) → ¬ HasSharedRoomToOpen limits now history → IsShort limits now history
is-short limits now history none =
    ⊎_elim
    (λ (exchange : length (open_in history) < limits.exchanges).
    ⊎_elim
    (λ (waiter : length (standing_in history) < limits.waiters). of_ids (λ ids. none (record { exchange = exchange; waiter = waiter; ids = ids })))
    (λ (full : limits.waiters ≤ length (standing_in history)). of_waiters full)
    (cases_lt (length (standing_in history)) limits.waiters))
    (λ (full : limits.exchanges ≤ length (open_in history)). of_exchanges full)
    (cases_lt (length (open_in history)) limits.exchanges)

-- ---- few endpoints

module _ (endpoints : List Endpoint) where
  -- the source of what arrives is one of those that everything comes from
  among : (source : Endpoint) (bytes : List ℕ) (event : Event) → event ≡ arrival source bytes → ComesFrom endpoints event → is_among endpoints source ≡ true
  among source bytes event came comes = subst (ComesFrom endpoints) came comes

  -- so is each client with an open exchange
  open-among : (history : List Action) → AreFrom endpoints history → AllByRecursion (λ o. is_among endpoints o.client ≡ true) (open_in history)
  open-among [] are = tt
  open-among (d ∷ past) are =
      All-open (λ o. is_among endpoints o.client ≡ true) (λ o. is_among endpoints o.client ≡ true) d.observation.report.outcome d.act d.observation.event d.observation.report.send (standing_in (d ∷ past)) (open_in past)
      (λ client came v x brings is act. among client came d.observation.event brings are.0)
      (λ x to is act sent_to o h same. h)
      (λ x is act o h same. h)
      (λ x is act o h same. h)
      (λ o h stays. h)
      (open-among past are.1)

  -- and each one with a pending request
  standing-among : (history : List Action) → AreFrom endpoints history → AllByRecursion (λ s. is_among endpoints s.client ≡ true) (standing_in history)
  standing-among [] are = tt
  standing-among (d ∷ past) are =
      All-standing (λ s. is_among endpoints s.client ≡ true) (λ s. is_among endpoints s.client ≡ true) d.observation.report.outcome d.act d.observation.event d.observation.bytes (standing_in past)
      (λ client came v x brings one is. among client came d.observation.event brings are.0)
      (λ v is con act s h same. h)
      (λ s h stays. h)
      (standing-among past are.1)

  -- and each endpoint of a remembered message
  kept-among : (kind : Kind) (e : Observation) → ComesFrom endpoints e.event → AllByRecursion (λ r. is_among endpoints r.from ≡ true) (kept_by kind e)
  kept-among kind e comes = go e.event comes
    where
      headed : (source : Endpoint) → is_among endpoints source ≡ true → (o : Option Head) → AllByRecursion (λ r. is_among endpoints r.from ≡ true) (kept_of kind e.report.outcome e.now e.bytes source o)
      headed source is None = tt
      headed source is (Some head) = test (goes_with kind head.kind && is_remembered e.report.outcome head.kind)
        where
          test : (b : Bool) → AllByRecursion (λ (r : Record). is_among endpoints r.from ≡ true) (if b then record { from = source; id = head.id; at = e.now; reply = kept_reply head.kind e.bytes } ∷ [] else [])
          test true = (is, tt)
          test false = tt

      go : (event : Event) → ComesFrom endpoints event → AllByRecursion (λ r. is_among endpoints r.from ≡ true) (kept_at kind e.report.outcome e.now e.bytes event)
      go (arrival source bytes) is = headed source is (head_at bytes)
      go tick is = tt

  all-kept-among : (kind : Kind) (history : List Action) → AreFrom endpoints history → AllByRecursion (λ r. is_among endpoints r.from ≡ true) (kept_in kind history)
  all-kept-among kind [] are = tt
  all-kept-among kind (d ∷ past) are =
      All-append (λ r. is_among endpoints r.from ≡ true) (kept_in kind past) (kept_by kind d.observation) (all-kept-among kind past are.1) (kept-among kind d.observation are.0)

  remembered-among : (kind : Kind) (now : ℕ) (history : List Action) → AreFrom endpoints history → AllByRecursion (λ r. is_among endpoints r.from ≡ true) (remembered_at kind now history)
  remembered-among kind now history are =
      All-weaken (λ (r : Record). (is_among endpoints r.from ≡ true) × (is_living (remembered_for kind) now r ≡ true)) (λ (r : Record). is_among endpoints r.from ≡ true) (remembered_at kind now history) (λ r h. h.0)
      (All-filter (λ (r : Record). is_among endpoints r.from ≡ true) (is_living (remembered_for kind) now) (kept_in kind history) (all-kept-among kind history are))

-- the shares of the endpoints in what is remembered
shares-of : (limits : Limits) (many : ℕ) (kind : Kind) → AreShares limits many → many * most_of_client kind limits ≤ most_remembered kind limits
shares-of limits many kind shares = go (is_con kind)
  where
    go : (b : Bool) → many * (if b then limits.client_con_records else limits.client_non_records) ≤ (if b then limits.con_records else limits.non_records)
    go true = shares.con_records
    go false = shares.non_records

-- ---- at a position of a history

module _ (setting : Setting) (past : List Action) (d : Action) (all : AllJustified setting (d ∷ past)) (ordered : IsInOrder (d ∷ past)) (many : ℕ) (endpoints : List Endpoint) (fewer : length endpoints ≤ many) (shares : AreShares setting.limits many) (are : AreFrom endpoints (d ∷ past)) where
  -- if so few endpoints have sent anything, and one that did has room for one more message of its
  -- own, there is room for it
  remembered-few : (source : Endpoint) (m : Message) → Comes setting source m d.observation.event → HasOwnRecordRoom setting past d.observation.now source m → length (remembered_at m.kind d.observation.now past) < most_remembered m.kind setting.limits
  remembered-few source m comes own =
      room-of-few sender many (most_of_client m.kind setting.limits) (most_remembered m.kind setting.limits) endpoints source (remembered_at m.kind d.observation.now past) fewer (shares-of setting.limits many m.kind shares)
      (remembered-among endpoints m.kind d.observation.now past are.1)
      (remembered-own-later m.kind past (most_of_client m.kind setting.limits) (last_of past) d.observation.now ordered.0 (remembered-own-within setting m.kind past all.1 ordered.1))
      (among endpoints source comes.brings.bytes d.observation.event comes.brings.came are.0)
      (let same = remembered-owned source m.kind d.observation.now past in omega (arith, own, same))

  -- and so it is for one more exchange and one more request, except for ids
  shared-few : (client : Endpoint) (request : Message) → IsRequestOf setting client request d.observation.event → HasOwnRoomToOpen setting.limits client past → HasIds 2 d.observation.now past → HasSharedRoomToOpen setting.limits d.observation.now past
  shared-few client request asked own ids =
      let sent = among endpoints client asked.brings.bytes d.observation.event asked.brings.came are.0 in
      record {
        exchange = room-of-few opener many setting.limits.client_exchanges setting.limits.exchanges endpoints client (open_in past) fewer shares.exchanges (open-among endpoints past are.1) (open-own-within setting past all.1) sent own.exchange;
        waiter = room-of-few asker many setting.limits.client_waiters setting.limits.waiters endpoints client (standing_in past) fewer shares.waiters (standing-among endpoints past are.1) (standing-own-within setting past all.1) sent own.waiter;
        ids = ids;
      }

-- ---- the promise

-- in any history that a proxy carries, one client leaves room for the others
pub leaves-room : (history : List Observation) (w : State) → Carries history w → LeavesRoom history w
leaves-room history w c =
    let setting = w.setting in
    let justified = λ (p : Position) (at : IsPositionOf c.actions p). justified-at setting c.actions p p.action.observation.report.outcome c.bears.past at refl in
    let upto = λ (p : Position) (at : IsPositionOf c.actions p). upto-justified setting c.actions p c.bears.past at in
    let ordered = λ (p : Position) (at : IsPositionOf c.actions p). upto-ordered c.actions p c.bears.clock.in_order at in
    record {
      actions = c.actions;
      told = c.told;
      justified = c.bears.past;
      remembered = λ p source m at. full-of setting p.before p.action source m (justified p at);
      served = λ p client request at asked own is. is-short setting.limits p.action.observation.now p.before (not-shared setting p.before p.action client request (justified p at) asked own is);
      remembered_of_few = λ many endpoints p source m fewer shares at are comes own is.
          let full : most_remembered m.kind setting.limits ≤ length (remembered_at m.kind p.action.observation.now p.before) = full-of setting p.before p.action source m (justified p at) comes own is in
          let room = remembered-few setting p.before p.action (upto p at) (ordered p at) many endpoints fewer shares are source m comes own in
          omega (arith, full, room);
      served_of_few = λ many endpoints p client request fewer shares at are asked own is ids.
          not-shared setting p.before p.action client request (justified p at) asked own is
          (shared-few setting p.before p.action (upto p at) (ordered p at) many endpoints fewer shares are client request asked own ids);
    }

-- and so it is for a new proxy, whatever happens
pub runs-leave-room : (setting : Setting) (turns : List Taken) → AreRoutes setting.routes → AreTurns 0 (turns_of turns) → LeavesRoom (run_of (new_run setting) turns).history (run_of (new_run setting) turns).state
runs-leave-room setting turns routes are = leaves-room _ _ (runs_carry (new_run setting) turns (starts setting routes) are)
