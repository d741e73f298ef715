-- A step that changes one waiter that was sent its answer, or closes it, preserves what is carried.
use Rattle.std.proofs.Common.{◌≡◌, ◌≢◌, inr, ⊎_elim, ℕ, ◌<◌, ◌≤◌, Bool, true, false, eqb, List, ◌∷◌, length, map, Some, refl, sym, ap, ◌∙◌, subst, arith}
use Rattle.std.specs.Prelude.{not, if◌then◌else◌}
use Rattle.std.specs.List.{AllByRecursion}
use Rattle.std.proofs.lemmas.Bool.{eq-eqb}
use Rattle.coap_message.specs.declared.kind.Kind.{Kind}
use Rattle.coap_message.specs.Uint.{IsBytes}
use Rattle.coap_message.specs.Message.{Message}
use Rattle.coap_endpoint.specs.declared.endpoint.Endpoint.{Endpoint}
use Rattle.coap_endpoint.proofs.Lists.{All-weaken}
use Rattle.coap_pending.specs.declared.timer.Timer.{Timer}
use Rattle.coap_pending.specs.declared.timer.Fire.TheVariants.{Again, GiveUp}
use Rattle.coap_pending.specs.declared.waiter.Waiter.{Waiter}
use Rattle.coap_pending.specs.declared.waiter.WaiterState.{WaiterState}
use Rattle.coap_pending.specs.declared.waiter.WaiterState.TheVariants.{Waiting, Delivering}
use Rattle.coap_pending.specs.Table.{Numbered, IsRising, item_at, changed, changed_at, without, count, passes}
use Rattle.coap_pending.specs.Timers.{goes_on, sent_again, fired, fire_of}
use Rattle.coap_pending.specs.Waiters.{is_waiting, is_waiting_state, waits_for, waits_in_state, fired_state, fired_waiter, due_in, due_after}
use Rattle.coap_pending.proofs.Changes.{length-changed_at, IsRising-changed_at}
use Rattle.coap_pending.proofs.Counts.{one_if, count-without, count-kept}
use Rattle.coap_pending.proofs.Tables.{IsRising-without}
use Rattle.std.proofs.lemmas.Option.{same_Some}
use Rattle.coap_model.specs.declared.due.DueItem.TheVariants.{OfWaiter}
use Rattle.coap_model.specs.declared.report.Outcome.TheVariants.{Resent, Delivered}
use Rattle.coap_model.specs.Events.{arrival, tick}
use Rattle.coap_model.specs.State.{State, later}
use Rattle.coap_model.specs.Ticks.{redelivers, abandons}
use Rattle.coap_model.specs.Empties.{closes}
use Rattle.coap_model.specs.Step.{message_in}
use Rattle.coap_model.specs.Runs.{observation_of}
use Rattle.coap_model.specs.History.{moves, serves, Action, Position, IsPositionOf, Somewhere, opens_one, admits_one, admitted_in, accepts_answer, gives_id, Serves}
use Rattle.coap_model.specs.Standing as stages
use Rattle.coap_model.specs.Standing.{WaiterStanding, Open, open_by, standing_in, delivering, service_of}
use Rattle.coap_model.specs.Schedules.{IsSchedule, sends_by}
use Rattle.coap_model.specs.Cached.{leaves}
use Rattle.coap_model.specs.Remembered.{is_remembered}
use Rattle.coap_model.specs.Due.{IsToServeAgain}
use Rattle.coap_model.specs.Justified.{to_close, an_answer, answer_again, unacknowledged, AllJustified}
use Rattle.coap_model.specs.Carries.{HasNumber, HasExchange, standing_seen, service_in, IsTimer, AreOfBytes, IsDelivering, IsWaiterIn, IsWaiterOf, AreSchedules, Bears}
use Rattle.coap_model.proofs.DueByHistory.{timer-due, acting, turn-is, service-is, served-there}
use Rattle.coap_model.proofs.CaseAnswered.{differ, last-now}
use Rattle.coap_model.proofs.AwaitedByHistory.{delivering-delivered, closes-here}
use Rattle.coap_model.proofs.Frames.{clock_frame, numbers_frame, exchanges_frame, waiter_frame, unused_frame, same_act-waiter, sends-grow, schedules_with, schedules_frame, opened-before, admitted-before}
use Rattle.coap_model.proofs.GivenIds.{ids-kept}
use Rattle.coap_model.proofs.CaseIdle.{waiter-there}
use Rattle.coap_model.proofs.Lists.{Has, All-there, All-filter, All-map}
use Rattle.coap_model.proofs.OneMeant.{one-meant}
use Rattle.coap_model.proofs.Positions.{here, doing, admitted-later, same_serves, Never-at, admitted-number}
use Rattle.coap_model.proofs.CaseQuiet.{remembered-still, room-still}
use Rattle.coap_model.proofs.CaseResentOrGivenUp.{goes, goes-again, goes-no_more, may-not}
use Rattle.coap_model.proofs.Rules.{IsOfAnswer, IsTurnOfTold}
use Rattle.coap_model.proofs.NumbersAndStages.{gone-seen, served-seen}
use Rattle.coap_model.proofs.Stores.{store-otherwise}
use Rattle.coap_model.proofs.Tables.{item-Has, item-holds, Has-item, at-number, one-item, without-fewer, HasNumber-without, HasNumber-changed, changed-cases}

-- what must hold of an observation that acts on the waiter with this number
pub record IsService (n : ℕ) (e : Action) : Type 0 where
  pub act : e.act ≡ serves n
  pub opens : opens_one e.observation.report.outcome ≡ 0
  pub admits : admits_one e.observation.report.outcome ≡ 0
  pub gives : gives_id e.observation ≡ 0
  pub accepts_answer : accepts_answer e.observation.report.outcome ≡ false
  pub leaving : leaves e.observation.report.outcome ≡ true
  pub leaves_open : (standing : List WaiterStanding) (xs : List Open) → open_by e.observation.report.outcome e.act e.observation.event e.observation.report.send standing xs ≡ xs

-- what is known of the remaining waiters: as many wait for each exchange as before
pub record AreLeft (w : State) (left : List (Numbered Waiter)) : Type 0 where
  pub rising : IsRising 0 left
  pub fewer : length left ≤ length w.waiters
  pub waiting : count is_waiting left ≡ count is_waiting w.waiters
  pub waits : (x : ℕ) → count (waits_for x) left ≡ count (waits_for x) w.waiters
  pub awaited : AllByRecursion (λ v. HasExchange v.1.state w.exchanges) left

-- such a step preserves what is carried
pub keeps_service : (w : State) (history : List Action) (c : Bears history w) (e : Action) (n : ℕ) (left : List (Numbered Waiter)) → IsService n e → ((k : Kind) → is_remembered e.observation.report.outcome k ≡ false) → w.last ≤ e.observation.now → Somewhere (Serves n) history
    → AreLeft w left
    → map standing_seen left ≡ standing_in (e ∷ history)
    → ((v : ℕ) → v ≢ n → HasNumber v w.waiters → HasNumber v left)
    → AllByRecursion (IsWaiterOf w.setting (e ∷ history)) left
    → n ≤ admitted_in history
    → AreSchedules (e ∷ history)
    → AllJustified w.setting (e ∷ history) → Bears (e ∷ history) (record (later w e.observation.now) { waiters = left })
keeps_service w history c e n left s none onward served are seen there each number schedules past =
    let unmoved : (x : ℕ) → e.act ≢ moves x = λ x same. let g = sym s.act ∙ same in cc in
    let opens = s.opens in
    let admits = s.admits in
    let waiting = are.waiting in
    let remembered = remembered-still w history c e onward none in
    record {
      routes = c.routes;
      clock = clock_frame c.clock onward refl refl;
      numbers = numbers_frame c.numbers (omega arith) (omega arith);
      ids = ids-kept history w _ e c.clock c.ids onward refl s.gives refl;
      unused = unused_frame w.setting history e (λ x above. unmoved x) (λ v above same. let k = same_serves v n (sym same ∙ s.act) in omega (arith, k, above, number)) c.unused;
      schedules = schedules;
      whole = record {
        exchanges = c.whole.exchanges ∙ sym (s.leaves_open (standing_in (e ∷ history)) _);
        waiters = seen;
        rising = c.whole.rising;
        waiters_rise = are.rising;
        awaited = are.awaited;
        waited = All-weaken (λ x. 0 < count (waits_for x.0) w.waiters) (λ x. 0 < count (waits_for x.0) left) w.exchanges (λ x some. let same = are.waits x.0 in omega arith) c.whole.waited;
        unended = λ x was never. c.whole.unended x (opened-before history e x s.opens was) never.1;
        unserved = λ v x was never. there v (λ same. Never-at (Serves v) history served.position never.1 served.is_there (subst (λ (k : ℕ). Serves k served.position) (sym same) served.holds)) (c.whole.unserved v x (admitted-before history e v x s.admits was) never.1);
      };
      exchanges = exchanges_frame w.setting history e w.exchanges s.accepts_answer unmoved c.exchanges;
      waiters = each;
      store = store-otherwise w.setting history w.store e s.leaving s.accepts_answer c.store;
      con_records = remembered.0;
      non_records = remembered.1;
      within = record {
        exchanges = c.within.exchanges;
        waiters = let h = c.within.waiters in let few = are.fewer in omega arith;
        pace = c.within.pace;
        ids = λ now after. let room = room-still w history c e.observation.now onward now after in omega arith;
      };
      past = past;
    }

-- ---- what was sent to a waiter

-- the waiter that is due was sent its answer
pub delivering-is : (w : State) (history : List Action) (c : Bears history w) (n id : ℕ) (v : Waiter) (bytes : List ℕ) (timer : Timer) → item_at n w.waiters ≡ Some v → v.state ≡ Delivering bytes id timer → IsDelivering w.setting history (n, v) bytes id timer
delivering-is w history c n id v bytes timer found state = subst (IsWaiterIn w.setting history (n, v)) state (item-holds (IsWaiterOf w.setting history) n w.waiters v c.waiters found)

-- it is due to be sent it again when its timer is due
pub to-serve-again : (w : State) (history : List Action) (c : Bears history w) (now at n id : ℕ) (v : Waiter) (bytes : List ℕ) (timer : Timer) → IsTurnOfTold w now at n v bytes id timer → IsToServeAgain history n at × (timer.due ≡ at) × (at ≤ now)
to-serve-again w history c now at n id v bytes timer turn =
    let g = delivering-is w history c n id v bytes timer turn.found turn.state in
    let there = item-Has n w.waiters v turn.found in
    let d = waiter-there w history c now at n turn.due in
    let here : due_after w.exchanges v ≡ Some at = subst (λ (u : Waiter). due_after w.exchanges u ≡ Some at) (one-item 0 w.waiters d.0 (n, v) c.whole.waiters_rise d.1 there d.2) d.3 in
    let moment : timer.due ≡ at = same_Some timer.due at (sym (ap (λ (s : WaiterState). due_in s w.exchanges) turn.state) ∙ here) in (
      record {
        service = service-is w history c (n, v) there ∙ ap (λ (s : WaiterState). Some (service_in s)) turn.state;
        at_is = sym moment ∙ timer-due timer _ g.timer_is;
      },
      moment,
      (turn-is w history c now (OfWaiter at n) turn.due).1,
    )

-- ---- the remaining waiters

module _ (w : State) (history : List Action) (c : Bears history w) (n : ℕ) where
  -- the others stay as they were
  pub others-are : (e : Action) → e.act ≡ serves n → AllByRecursion (IsWaiterOf w.setting (e ∷ history)) (without n w.waiters)
  others-are e act =
      All-weaken (λ u. IsWaiterOf w.setting history u × (not (eqb u.0 n) ≡ true)) (IsWaiterOf w.setting (e ∷ history)) (without n w.waiters)
      (λ u f. waiter_frame w.setting history e u (λ same. other u.0 f.1 (same_serves u.0 n (sym same ∙ act))) f.0)
      (All-filter (IsWaiterOf w.setting history) (λ u. not (eqb u.0 n)) w.waiters c.waiters)
    where
      other : (m : ℕ) → not (eqb m n) ≡ true → m ≢ n
      other m t same = let f : false ≡ true = subst (λ (b : Bool). not b ≡ true) (eq-eqb m n same) t in cc

  -- if a waiter that was sent its answer is removed, as many wait as before
  pub left-gone : (v : Waiter) (bytes : List ℕ) (id : ℕ) (timer : Timer) → item_at n w.waiters ≡ Some v → v.state ≡ Delivering bytes id timer → AreLeft w (without n w.waiters)
  left-gone v bytes id timer found state =
      record {
        rising = IsRising-without n 0 w.waiters c.whole.waiters_rise;
        fewer = without-fewer n w.waiters;
        waiting = let counted = count-without is_waiting n 0 w.waiters c.whole.waiters_rise in let none : one_if (passes is_waiting (item_at n w.waiters)) ≡ 0 = ap one_if (ap (passes is_waiting) found ∙ ap is_waiting_state state) in omega arith;
        waits = λ x. let counted = count-without (waits_for x) n 0 w.waiters c.whole.waiters_rise in let none : one_if (passes (waits_for x) (item_at n w.waiters)) ≡ 0 = ap one_if (ap (passes (waits_for x)) found ∙ ap (waits_in_state x) state) in omega arith;
        awaited = All-weaken (λ u. HasExchange u.1.state w.exchanges × (not (eqb u.0 n) ≡ true)) (λ u. HasExchange u.1.state w.exchanges) (without n w.waiters) (λ u h. h.0) (All-filter (λ u. HasExchange u.1.state w.exchanges) (λ u. not (eqb u.0 n)) w.waiters c.whole.awaited);
      }

  -- and so they do if its timer is fired
  pub left-fired : (now : ℕ) → AreLeft w (changed_at n (fired_waiter now) w.waiters)
  left-fired now =
      record {
        rising = IsRising-changed_at n (fired_waiter now) 0 w.waiters c.whole.waiters_rise;
        fewer = let l = length-changed_at n (fired_waiter now) w.waiters in omega arith;
        waiting = count-kept is_waiting n (fired_waiter now) w.waiters (λ u. still-waiting u.state);
        waits = λ x. count-kept (waits_for x) n (fired_waiter now) w.waiters (λ u. still-waits x u.state);
        awaited =
            All-map (λ u. HasExchange u.1.state w.exchanges) (λ u. HasExchange u.1.state w.exchanges) (changed n (fired_waiter now)) w.waiters
            (λ u has. changed-cases (λ z. HasExchange z.1.state w.exchanges) n (fired_waiter now) u (λ same. still-there u.1.state has) (λ other. has))
            c.whole.awaited;
      }
    where
      still-waiting : (s : WaiterState) → is_waiting_state (fired_state now s) ≡ is_waiting_state s
      still-waiting (Waiting exchange) = refl
      still-waiting (Delivering bytes id timer) = refl

      still-waits : (x : ℕ) (s : WaiterState) → waits_in_state x (fired_state now s) ≡ waits_in_state x s
      still-waits x (Waiting exchange) = refl
      still-waits x (Delivering bytes id timer) = refl

      still-there : (s : WaiterState) → HasExchange s w.exchanges → HasExchange (fired_state now s) w.exchanges
      still-there (Waiting exchange) has = has
      still-there (Delivering bytes id timer) has = has

-- ---- the rules

-- sending a waiter its answer again preserves what is carried
pub keeps_redelivering : (w : State) (history : List Action) (c : Bears history w) (now draw at n : ℕ) (v : Waiter) (bytes : List ℕ) (id : ℕ) (timer : Timer) → w.last ≤ now → IsTurnOfTold w now at n v bytes id timer → fire_of now timer ≡ Again
    → Bears (doing (serves n) (observation_of now draw tick (redelivers w now n v bytes)) ∷ history) (redelivers w now n v bytes).state
keeps_redelivering w history c now draw at n v bytes id timer onward turn fire =
    let e = doing (serves n) (observation_of now draw tick (redelivers w now n v bytes)) in
    let g = delivering-is w history c n id v bytes timer turn.found turn.state in
    let t = to-serve-again w history c now at n id v bytes timer turn in
    let due = t.1 in
    let come = t.2 in
    let a = goes now timer (sends_by (serves n) history) v.client bytes e.observation refl g.timer_is g.bytes_are (omega (arith, due, come)) (goes-again now timer fire) refl refl (c.schedules (serves n)) in
    let grown : sends_by (serves n) (e ∷ history) ≡ e.observation ∷ sends_by (serves n) history = sends-grow (serves n) history e (same_act-waiter n) refl in
    let there = item-Has n w.waiters v turn.found in
    let new : IsDelivering w.setting (e ∷ history) (n, fired_waiter now v) bytes id (fired now timer) = record {
      admitted = admitted-later e g.admitted;
      serving = g.serving;
      was_served = inr g.was_served;
      is_serving = g.is_serving;
      only = λ p was s. ⊎_elim (λ (same : here history e ≡ p). absurd (let o : Resent ≡ Delivered = ap (λ (q : Position). q.action.observation.report.outcome) same ∙ s.outcome in cc)) (λ (before : IsPositionOf history p). g.only p before s) was;
      sent = g.sent;
      answer = g.answer;
      spells = g.spells;
      id_is = g.id_is;
      started = still-since (goes_on now timer) ∙ g.started;
      timer_is = subst (IsTimer (fired now timer)) (sym grown) a.timer;
      bytes_are = subst (AreOfBytes v.client bytes) (sym grown) ((refl, refl), g.bytes_are);
      short = g.short;
      token_gone = g.token_gone;
      tags_gone = g.tags_gone;
    } in
    let state : fired_state now v.state ≡ Delivering bytes id (fired now timer) = ap (fired_state now) turn.state in
    keeps_service w history c e n (changed_at n (fired_waiter now) w.waiters)
    (record { act = refl; opens = refl; admits = refl; gives = refl; accepts_answer = refl; leaving = refl; leaves_open = λ standing xs. refl })
    (λ k. refl) onward
    (record { position = g.serving; is_there = g.was_served; holds = g.is_serving })
    (left-fired w history c n now)
    (served-seen n (fired_waiter now) w.waiters (λ u. refl) (λ u. still-so u.state) ∙ c.whole.waiters)
    (λ u other has. HasNumber-changed n u (fired_waiter now) w.waiters has)
    (All-map (λ u. IsWaiterOf w.setting history u × Has u w.waiters) (IsWaiterOf w.setting (e ∷ history)) (changed n (fired_waiter now)) w.waiters
    (λ u f.
    changed-cases (IsWaiterOf w.setting (e ∷ history)) n (fired_waiter now) u
    (λ same. let one = one-item 0 w.waiters (n, v) u c.whole.waiters_rise there f.1 (sym same) in subst (λ (b : Waiter). IsWaiterOf w.setting (e ∷ history) (u.0, fired_waiter now b)) one (subst (λ (k : ℕ). IsWaiterOf w.setting (e ∷ history) (k, fired_waiter now v)) (sym same) (subst (IsWaiterIn w.setting (e ∷ history) (n, fired_waiter now v)) (sym state) new)))
    (λ other. waiter_frame w.setting history e u (λ same. other (same_serves u.0 n (sym same))) f.0))
    (All-there (IsWaiterOf w.setting history) w.waiters c.waiters))
    (admitted-number g.admitted).1
    (schedules_with history e (subst IsSchedule (sym grown) a.schedule) c.schedules) (
      record {
        acting = acting w history c now (OfWaiter at n) turn.due e refl refl refl;
        again = answer_again n refl t.0;
        goes_on = a.may;
        same = a.same;
      },
      c.past,
    )
  where
    still-since : (b : Bool) → (if b then sent_again now timer else timer).started ≡ timer.started
    still-since true = refl
    still-since false = refl

    still-so : (s : WaiterState) → service_in (fired_state now s) ≡ service_in s
    still-so (Waiting exchange) = refl
    still-so (Delivering bytes id timer) = refl

-- and so does giving up a waiter
pub keeps_abandoning : (w : State) (history : List Action) (c : Bears history w) (now draw at n : ℕ) (v : Waiter) (bytes : List ℕ) (id : ℕ) (timer : Timer) → w.last ≤ now → IsTurnOfTold w now at n v bytes id timer → fire_of now timer ≡ GiveUp
    → Bears (doing (serves n) (observation_of now draw tick (abandons w now n)) ∷ history) (abandons w now n).state
keeps_abandoning w history c now draw at n v bytes id timer onward turn fire =
    let e = doing (serves n) (observation_of now draw tick (abandons w now n)) in
    let g = delivering-is w history c n id v bytes timer turn.found turn.state in
    let t = to-serve-again w history c now at n id v bytes timer turn in
    keeps_service w history c e n (without n w.waiters)
    (record { act = refl; opens = refl; admits = refl; gives = refl; accepts_answer = refl; leaving = refl; leaves_open = λ standing xs. refl })
    (λ k. refl) onward
    (record { position = g.serving; is_there = g.was_served; holds = g.is_serving })
    (left-gone w history c n v bytes id timer turn.found turn.state)
    (gone-seen n w.waiters ∙ ap (stages.others_than n) c.whole.waiters)
    (λ u other has. HasNumber-without n u w.waiters other has)
    (others-are w history c n e refl)
    (admitted-number g.admitted).1
    (schedules_frame history e refl c.schedules)
    (unacknowledged n (acting w history c now (OfWaiter at n) turn.due e refl refl refl) refl t.0 (may-not now (sends_by (serves n) history) timer g.timer_is (goes-no_more now timer fire)) (record { sent = refl; bytes = refl }), c.past)

-- and so does closing a waiter that acknowledged its answer
pub keeps_closing : (w : State) (history : List Action) (c : Bears history w) (now draw : ℕ) (source : Endpoint) (bytes : List ℕ) (m : Message) (n : ℕ) → w.last ≤ now → IsBytes bytes → message_in w.setting.limits.datagram bytes ≡ Some m → IsOfAnswer w now source m n
    → Bears (doing (serves n) (observation_of now draw (arrival source bytes) (closes w now n)) ∷ history) (closes w now n).state
keeps_closing w history c now draw source bytes m n onward fits read about =
    let e = doing (serves n) (observation_of now draw (arrival source bytes) (closes w now n)) in
    let k = closes-here w history c now source bytes m n fits read about in
    let f = at-number (λ u. IsWaiterOf w.setting history u × Has u w.waiters) n w.waiters (served-there w history c n delivering k.service) (All-there (IsWaiterOf w.setting history) w.waiters c.waiters) in
    let v = f.0 in
    let number = f.1 in
    let found : item_at n w.waiters ≡ Some v.1 = ap (λ (u : ℕ). item_at u w.waiters) number ∙ Has-item 0 w.waiters v c.whole.waiters_rise f.3 in
    let service = sym (service-is w history c v f.3) ∙ ap (λ (u : ℕ). service_of u history) (sym number) ∙ k.service in
    let was = delivering-delivered w.setting history v f.2.0 (same_Some (service_in v.1.state) delivering service) in
    let below = (admitted-number was.delivering.admitted).1 in
    keeps_service w history c e n (without n w.waiters)
    (record { act = refl; opens = refl; admits = refl; gives = refl; accepts_answer = refl; leaving = refl; leaves_open = λ standing xs. refl })
    (λ kind. refl) onward
    (record { position = k.serving; is_there = k.was_served; holds = k.serves })
    (left-gone w history c n v.1 was.bytes was.id was.timer found was.state_is)
    (gone-seen n w.waiters ∙ ap (stages.others_than n) c.whole.waiters)
    (λ u other has. HasNumber-without n u w.waiters other has)
    (others-are w history c n e refl)
    (omega (arith, number, below))
    (schedules_frame history e refl c.schedules) (
      record {
        settles = an_answer n refl k;
        only = λ other also. one-meant w.setting history now (arrival source bytes) other (serves n) (differ w history c) c.clock.in_order (last-now w history c now onward) also (to_close n refl k);
        silent = record { sent = refl; bytes = refl };
      },
      c.past,
    )
