-- A step that opens, sends, accepts and serves nothing preserves what is carried.
use Rattle.std.proofs.Common.{◌≡◌, ◌≢◌, ℕ, ◌+◌, ◌≤◌, true, false, List, ◌∷◌, refl, sym, ◌∙◌, arith}
use Rattle.coap_message.specs.declared.kind.Kind.{Kind}
use Rattle.coap_message.specs.declared.kind.Kind.TheVariants.{Con, Non}
use Rattle.coap_store.specs.Entries as cache
use Rattle.coap_dedup.specs.Records.{Records}
use Rattle.coap_pending.specs.declared.ids.Ids.{Ids as Given}
use Rattle.coap_pending.specs.Ids.{given_in}
use Rattle.coap_model.specs.Cached.{leaves, IsStoreOf}
use Rattle.coap_model.specs.State.{State, reserved, later}
use Rattle.coap_model.specs.History.{no_item, moves, serves, Action, opens_one, admits_one, accepts_answer, gives_id, last_of}
use Rattle.coap_model.specs.Standing.{WaiterStanding, Open, standing_by, open_by, standing_in, open_in}
use Rattle.coap_model.specs.Schedules.{is_sending}
use Rattle.coap_model.specs.Justified.{AllJustified}
use Rattle.coap_model.specs.Remembered.{is_remembered}
use Rattle.coap_model.specs.Carries.{AreRemembered, Ids, Bears}
use Rattle.coap_model.proofs.Frames.{clock_frame, numbers_frame, exchanges_frame, waiters_frame, unused_frame, schedules_frame, opened-before, admitted-before}
use Rattle.coap_model.proofs.GivenIds.{ids-kept}
use Rattle.coap_model.proofs.RecordsOfHistory.{remembered-on, leaves-nothing}
use Rattle.coap_model.proofs.Stores.{store-otherwise}

-- what must hold of an observation: it acts on nothing, and opens, sends and admits nothing
pub record IsQuiet (e : Action) : Type 0 where
  pub act : e.act ≡ no_item
  pub opens : opens_one e.observation.report.outcome ≡ 0
  pub admits : admits_one e.observation.report.outcome ≡ 0
  pub sends : is_sending e.observation.report.outcome ≡ false
  pub accepts_answer : accepts_answer e.observation.report.outcome ≡ false
  pub leaves_open : (standing : List WaiterStanding) (xs : List Open) → open_by e.observation.report.outcome e.act e.observation.event e.observation.report.send standing xs ≡ xs
  pub stands : (standing : List WaiterStanding) → standing_by e.observation.report.outcome e.act e.observation.event e.observation.bytes standing ≡ standing

-- it acts on no exchange and on no waiter
pub acts-on-none : (e : Action) → e.act ≡ no_item → (x : ℕ) → e.act ≢ moves x
acts-on-none e act x same = let f = sym act ∙ same in cc

pub serves-none : (e : Action) → e.act ≡ no_item → (v : ℕ) → e.act ≢ serves v
serves-none e act v same = let f = sym act ∙ same in cc

-- the clock advances, these ids are given out, and this is stored and remembered
abbrev pub quiet_state : State → ℕ → Given → List cache.Entry → Records → Records → State
quiet_state w now ids store con non =
    record (later w now) { ids = ids; store = store; con_records = con; non_records = non }

-- such a step preserves what is carried, whatever ids it gives out, and whatever moves in the store
-- and is remembered
pub keeps_still : (w : State) (history : List Action) (c : Bears history w) (e : Action) (ids : Given) (store : List cache.Entry) (con non : Records) → IsQuiet e → w.last ≤ e.observation.now
    → Ids (e ∷ history) (quiet_state w e.observation.now ids store con non)
    → ((now : ℕ) → e.observation.now ≤ now → given_in now ids + reserved w ≤ 32768)
    → IsStoreOf w.setting (e ∷ history) store
    → AreRemembered w.setting (e ∷ history) Con con × AreRemembered w.setting (e ∷ history) Non non
    → AllJustified w.setting (e ∷ history) → Bears (e ∷ history) (quiet_state w e.observation.now ids store con non)
keeps_still w history c e ids store con non q onward given room stored remembered past =
    let opens = q.opens in
    let admits = q.admits in
    let unmoved = acts-on-none e q.act in
    let unserved = serves-none e q.act in
    record {
      routes = c.routes;
      clock = clock_frame c.clock onward refl refl;
      numbers = numbers_frame c.numbers (omega arith) (omega arith);
      ids = given;
      unused = unused_frame w.setting history e (λ x above. unmoved x) (λ v above. unserved v) c.unused;
      schedules = schedules_frame history e q.sends c.schedules;
      whole = record {
        exchanges = c.whole.exchanges ∙ sym (q.leaves_open (standing_in (e ∷ history)) (open_in history));
        waiters = c.whole.waiters ∙ sym (q.stands (standing_in history));
        rising = c.whole.rising;
        waiters_rise = c.whole.waiters_rise;
        awaited = c.whole.awaited;
        waited = c.whole.waited;
        unended = λ x s never. c.whole.unended x (opened-before history e x q.opens s) never.1;
        unserved = λ v x s never. c.whole.unserved v x (admitted-before history e v x q.admits s) never.1;
      };
      exchanges = exchanges_frame w.setting history e w.exchanges q.accepts_answer unmoved c.exchanges;
      waiters = waiters_frame w.setting history e w.waiters unserved c.waiters;
      store = stored;
      con_records = remembered.0;
      non_records = remembered.1;
      within = record { exchanges = c.within.exchanges; waiters = c.within.waiters; pace = c.within.pace; ids = room };
      past = past;
    }

-- the records stay right at an observation that adds none
pub remembered-still : (w : State) (history : List Action) (c : Bears history w) (e : Action) → w.last ≤ e.observation.now → ((k : Kind) → is_remembered e.observation.report.outcome k ≡ false) → AreRemembered w.setting (e ∷ history) Con w.con_records × AreRemembered w.setting (e ∷ history) Non w.non_records
remembered-still w history c e onward none =
    let since : last_of history ≤ e.observation.now = let h = c.clock.last in omega (arith, h, onward) in
    (remembered-on e since (leaves-nothing Con e none) c.con_records, remembered-on e since (leaves-nothing Non e none) c.non_records)

-- reserved ids can still be given out later
pub room-still : (w : State) (history : List Action) (c : Bears history w) (later : ℕ) → w.last ≤ later → (now : ℕ) → later ≤ now → given_in now w.ids + reserved w ≤ 32768
room-still w history c later onward now after = c.within.ids now (omega arith)

-- so does a step that gives out no id, and moves and adds nothing
pub keeps_quiet : (w : State) (history : List Action) (c : Bears history w) (e : Action) → IsQuiet e → leaves e.observation.report.outcome ≡ true → ((k : Kind) → is_remembered e.observation.report.outcome k ≡ false) → w.last ≤ e.observation.now → gives_id e.observation ≡ 0
    → AllJustified w.setting (e ∷ history) → Bears (e ∷ history) (later w e.observation.now)
keeps_quiet w history c e q leaving none onward gives past =
    keeps_still w history c e w.ids w.store w.con_records w.non_records q onward (ids-kept history w (later w e.observation.now) e c.clock c.ids onward refl gives refl) (room-still w history c e.observation.now onward) (store-otherwise w.setting history w.store e leaving q.accepts_answer c.store) (remembered-still w history c e onward none) past
