-- Serving a waiter preserves what is carried.
use Rattle.std.proofs.Common.{◌≡◌, ◌≢◌, ◌⊎◌, inl, ⊎_elim, ℕ, ◌+◌, ◌<◌, ◌≤◌, Bool, true, false, cond, eqb, List, [], ◌∷◌, length, map, Option, Some, None, refl, sym, ap, ◌∙◌, subst, arith}
use Rattle.std.specs.Prelude.{not}
use Rattle.std.specs.List.{AllByRecursion, list_any}
use Rattle.std.proofs.lemmas.Bool.{eqb-true, eqb-false, eq-eqb, ne_eqb}
use Rattle.std.specs.Option.{option_map_or}
use Rattle.coap_message.specs.declared.kind.Kind.{Kind}
use Rattle.coap_message.specs.declared.message.Head.{Head}
use Rattle.coap_message.specs.Message.{Message}
use Rattle.coap_message.specs.Spelling.{IsMessage, Spells, spelling}
use Rattle.coap_message.proofs.Spellings.{spelled}
use Rattle.coap_message.proofs.WholeMessages.{head_read, read_again}
use Rattle.coap_option.specs.Selection.{tags_of}
use Rattle.coap_endpoint.proofs.Lists.{All-weaken}
use Rattle.coap_store.specs.declared.answer.Answer.{Answer}
use Rattle.coap_store.specs.declared.key.CacheKey.{CacheKey}
use Rattle.coap_pending.specs.declared.exchange.Exchange.{Exchange}
use Rattle.coap_pending.specs.declared.waiter.Waiter.{Waiter}
use Rattle.coap_pending.specs.declared.waiter.WaiterState.{WaiterState}
use Rattle.coap_pending.specs.declared.waiter.WaiterState.TheVariants.{Waiting, Delivering}
use Rattle.coap_pending.specs.Exchanges.{is_queued, is_sent_to, answer_in_state, answer_at, answer_of}
use Rattle.coap_pending.specs.declared.timer.Timer.{Timer}
use Rattle.coap_pending.specs.Timers.{started}
use Rattle.coap_pending.specs.Waiters.{is_waiting, is_waiting_state, waits_for, waits_in_state, delivered, moment_of, due_in, due_after}
use Rattle.coap_pending.specs.Table.{Numbered, IsRising, item_at, changed, changed_at, without, count, passes}
use Rattle.coap_pending.proofs.Changes.{length-changed_at, IsRising-changed_at}
use Rattle.coap_pending.proofs.Counts.{one_if, count-moved, count-without}
use Rattle.coap_pending.proofs.Tables.{IsRising-without}
use Rattle.coap_forward.specs.Answers.{shown_as}
use Rattle.coap_forward.specs.Messages.{is_con, is_get}
use Rattle.coap_model.specs.declared.due.DueItem.TheVariants.{OfWaiter}
use Rattle.coap_model.specs.declared.report.Outcome.{Outcome}
use Rattle.coap_model.specs.declared.report.Outcome.TheVariants.{Answered, GaveUp}
use Rattle.coap_model.specs.Events.{tick}
use Rattle.coap_pending.specs.declared.exchange.ExchangeState.{ExchangeState}
use Rattle.coap_pending.specs.declared.exchange.ExchangeState.TheVariants.{Queued, Sent, Acked, Done}
use Rattle.coap_model.specs.Setting.{Setting}
use Rattle.coap_model.specs.State.{State, next_id}
use Rattle.coap_model.specs.Ticks.{item_due, if_due, without_idle, given_to, tells}
use Rattle.coap_model.specs.Schedules.{IsSchedule, sends_by}
use Rattle.coap_model.specs.History.{Observation, serves, moves, Action, Position, IsPositionOf, Never, admits_one, ends, Ends, Serves, is_con_datagram}
use Rattle.coap_model.specs.Standing as stages
use Rattle.coap_model.specs.Standing.{awaited, standing_in}
use Rattle.coap_model.specs.Due.{IsToServe}
use Rattle.coap_model.specs.Justified.{EndsWith, verdict_on}
use Rattle.coap_model.specs.Runs.{observation_of}
use Rattle.coap_model.specs.Carries.{HasNumber, HasExchange, stage_seen, standing_seen, IsTimer, AreOfBytes, IsDone, IsState, IsExchangeOf, IsWaiting, IsDelivering, IsWaiterIn, IsWaiterOf, Bears}
use Rattle.coap_model.proofs.CaseWaiterChanged.{others-are}
use Rattle.coap_model.proofs.Rules.{IsTold, done_with, to_acknowledge}
use Rattle.coap_model.proofs.DueByHistory.{acting, turn-is, waiter-turn}
use Rattle.coap_model.proofs.FirstDue.{first_due-holds}
use Rattle.std.proofs.lemmas.Option.{same_Some}
use Rattle.coap_model.proofs.Frames.{clock_frame, numbers_frame, exchanges_frame, waiter_frame, unused_frame, same_act-waiter, sends-grow, schedules_with, opened-before, admitted-before}
use Rattle.coap_model.proofs.GivenIds.{ids-given, room-called}
use Rattle.coap_model.proofs.Lists.{Has, Has-holds, Has-all, All-there, All-filter, All-map}
use Rattle.coap_model.proofs.Positions.{here, in-order, doing, admitted-later, same_serves, Never-at, one-opened, admitted-number}
use Rattle.coap_model.proofs.CaseQuiet.{remembered-still}
use Rattle.coap_model.proofs.CaseReplied.{id-same}
use Rattle.coap_model.proofs.NumbersAndStages.{gone-seen, delivering-seen, kept-but, kept-all, who-waits}
use Rattle.coap_model.proofs.ShownResponses.{shown-is, shown-fits}
use Rattle.coap_model.proofs.Endings.{ending-holdable}
use Rattle.coap_model.proofs.Stores.{store-otherwise}
use Rattle.coap_model.proofs.Tables.{item-Has, item-holds, one-item, without-fewer, HasNumber-without, HasNumber-changed, changed-cases, count-some}

-- ---- what is served

-- what is known of a waiter that is served with an answer
pub record IsServed (w : State) (history : List Action) (number exchange : ℕ) (v : Waiter) (x : Exchange) (a : Answer) : Type 0 where
  pub waits : IsWaiting w.setting history (number, v) exchange
  pub is : IsExchangeOf w.setting history (exchange, x)
  pub there : Has (exchange, x) w.exchanges
  pub done : IsDone w.setting history (exchange, x) a
  pub short : length v.token ≤ 8

-- an exchange with an answer is done
done-by : (setting : Setting) (history : List Action) (x : Numbered Exchange) (a : Answer) (s : ExchangeState) → answer_in_state s ≡ Some a → IsState setting history x s → IsDone setting history x a
done-by setting history x a Queued e state = absurd cc
done-by setting history x a Sent e state = absurd cc
done-by setting history x a Acked e state = absurd cc
done-by setting history x a (Done b) e state = subst (IsDone setting history x) (same_Some b a e) state

-- a waiter whose exchange has its answer is served with it
pub served : (w : State) (history : List Action) (c : Bears history w) (number exchange : ℕ) (v : Waiter) (x : Exchange) (a : Answer) → item_at number w.waiters ≡ Some v → v.state ≡ Waiting exchange → item_at exchange w.exchanges ≡ Some x → answer_at x ≡ Some a → IsServed w history number exchange v x a
served w history c number exchange v x a found waits there answer =
    let g : IsWaiting w.setting history (number, v) exchange = subst (IsWaiterIn w.setting history (number, v)) waits (item-holds (IsWaiterOf w.setting history) number w.waiters v c.waiters found) in
    let is = item-holds (IsExchangeOf w.setting history) exchange w.exchanges x c.exchanges there in
    record {
      waits = g;
      is = is;
      there = item-Has exchange w.exchanges x there;
      done = done-by w.setting history (exchange, x) a x.state answer is.state;
      short = subst (λ (t : List ℕ). length t ≤ 8) (sym g.token_is) g.admitted.asked.brings.spells.message.token;
    }

-- ---- what is sent

-- the answer of an exchange is sent as a message
pub ending-is : (w : State) (kind : Kind) (to_get : Bool) (now id x : ℕ) (key : CacheKey) (p : Position) (a : Answer) (token : List ℕ) (tags : List (List ℕ)) → EndsWith w.setting x key p a → length token ≤ 8 → IsMessage (shown_as kind to_get now a id token tags)
ending-is w kind to_get now id x key p a token tags ending short = shown-is w.setting.limits.datagram kind to_get now a id token tags (ending-holdable w.setting x key p a ending) short

-- and is no longer than the limit of datagrams, or than 128 bytes
pub ending-fits : (w : State) (kind : Kind) (to_get : Bool) (now id x : ℕ) (key : CacheKey) (p : Position) (a : Answer) (token : List ℕ) (tags : List (List ℕ)) (most : ℕ) → EndsWith w.setting x key p a → length token ≤ 8 → 128 ≤ most → w.setting.limits.datagram ≤ most → length (spelling (shown_as kind to_get now a id token tags)) ≤ most
ending-fits w kind to_get now id x key p a token tags most ending short wide long = shown-fits w.setting.limits.datagram most kind to_get now a id token tags wide long (ending-holdable w.setting x key p a ending) short

-- it is sent in a Confirmable message if the client's request was Confirmable
con-told : (bytes : List ℕ) (m : Message) → Spells bytes m → is_con_datagram bytes ≡ is_con m.kind
con-told bytes m spells = ap (λ (o : Option Head). option_map_or (λ h. is_con h.kind) o false) (head_read bytes m (read_again bytes m spells))

-- ---- the remaining waiters

-- what is known of the remaining waiters after one was served: one fewer waits, for its exchange
pub record IsServing (w : State) (number exchange : ℕ) (left : List (Numbered Waiter)) : Type 0 where
  pub rising : IsRising 0 left
  pub fewer : length left ≤ length w.waiters
  pub less : count is_waiting left + 1 ≡ count is_waiting w.waiters
  pub others : (x : ℕ) → x ≢ exchange → count (waits_for x) left ≡ count (waits_for x) w.waiters
  pub awaited : AllByRecursion (λ u. HasExchange u.1.state w.exchanges) left
  pub numbers : (u : ℕ) → u ≢ number → HasNumber u w.waiters → HasNumber u left

module _ (w : State) (history : List Action) (c : Bears history w) (number exchange : ℕ) (v : Waiter) (found : item_at number w.waiters ≡ Some v) (waits : v.state ≡ Waiting exchange) where
  -- it waited before
  waited_here : one_if (passes is_waiting (item_at number w.waiters)) ≡ 1
  waited_here = ap (λ (b : Bool). one_if b) (ap (passes is_waiting) found ∙ ap is_waiting_state waits)

  -- and for no other exchange
  waited_not : (x : ℕ) → x ≢ exchange → one_if (passes (waits_for x) (item_at number w.waiters)) ≡ 0
  waited_not x other = ap one_if (ap (passes (waits_for x)) found ∙ ap (waits_in_state x) waits ∙ ne_eqb exchange x (λ same. other (sym same)))

  -- a waiter that is finished is removed
  serving-done : IsServing w number exchange (without number w.waiters)
  serving-done =
      record {
        rising = IsRising-without number 0 w.waiters c.whole.waiters_rise;
        fewer = without-fewer number w.waiters;
        less = let counted = count-without is_waiting number 0 w.waiters c.whole.waiters_rise in let one = waited_here in omega arith;
        others = λ x other. let counted = count-without (waits_for x) number 0 w.waiters c.whole.waiters_rise in let none = waited_not x other in omega arith;
        awaited = All-weaken (λ u. HasExchange u.1.state w.exchanges × (not (eqb u.0 number) ≡ true)) (λ u. HasExchange u.1.state w.exchanges) (without number w.waiters) (λ u h. h.0) (All-filter (λ u. HasExchange u.1.state w.exchanges) (λ u. not (eqb u.0 number)) w.waiters c.whole.awaited);
        numbers = λ u other has. HasNumber-without number u w.waiters other has;
      }

  -- one that has to acknowledge its answer no longer waits
  serving-told : (bytes : List ℕ) (id : ℕ) (timer : Timer) → IsServing w number exchange (changed_at number (delivered bytes id timer) w.waiters)
  serving-told bytes id timer =
      let f = delivered bytes id timer in
      record {
        rising = IsRising-changed_at number f 0 w.waiters c.whole.waiters_rise;
        fewer = let l = length-changed_at number f w.waiters in omega arith;
        less = let moved = count-moved is_waiting number 0 f w.waiters c.whole.waiters_rise in let one = waited_here in let none = no-more is_waiting (λ u. refl) (item_at number w.waiters) in omega arith;
        others = λ x other. let moved = count-moved (waits_for x) number 0 f w.waiters c.whole.waiters_rise in let before = waited_not x other in let none = no-more (waits_for x) (λ u. refl) (item_at number w.waiters) in omega arith;
        awaited =
            All-map (λ u. HasExchange u.1.state w.exchanges) (λ u. HasExchange u.1.state w.exchanges) (changed number f) w.waiters
            (λ u has. changed-cases (λ z. HasExchange z.1.state w.exchanges) number f u (λ same. tt) (λ other. has))
            c.whole.awaited;
        numbers = λ u other has. HasNumber-changed number u f w.waiters has;
      }
    where
      no-more : (test : Waiter → Bool) → ((u : Waiter) → test (delivered bytes id timer u) ≡ false) → (o : Option Waiter) → one_if (passes (λ u. test (delivered bytes id timer u)) o) ≡ 0
      no-more test none None = refl
      no-more test none (Some u) = ap one_if (none u)

-- ---- the remaining exchanges

module _ (w : State) (history : List Action) (c : Bears history w) (number exchange : ℕ) (left : List (Numbered Waiter)) (r : IsServing w number exchange left) where
  -- as many wait for another exchange as before
  others-waited : (y : Numbered Exchange) → Has y w.exchanges → y.0 ≢ exchange → 0 < count (waits_for y.0) left
  others-waited y there other =
      let same = r.others y.0 other in
      let some = Has-holds (λ z. 0 < count (waits_for z.0) w.waiters) w.exchanges y c.whole.waited there in
      omega arith

  -- the exchange stays as long as a waiter waits for it
  data IsLeft (xs : List (Numbered Exchange)) : Type 0 where
    closed : count (waits_for exchange) left ≡ 0 → xs ≡ without exchange w.exchanges → IsLeft xs
    kept : 0 < count (waits_for exchange) left → xs ≡ w.exchanges → IsLeft xs

  is-left : IsLeft (without_idle exchange left w.exchanges)
  is-left = go (eqb (count (waits_for exchange) left) 0) refl
    where
      go : (b : Bool) → eqb (count (waits_for exchange) left) 0 ≡ b → IsLeft (cond b (without exchange w.exchanges) w.exchanges)
      go true e = closed (eqb-true _ _ e) refl
      go false e = kept (let n = eqb-false _ _ e in omega (arith, n)) refl

  -- so the remaining exchanges are those of the history
  left-seen : (xs : List (Numbered Exchange)) → IsLeft xs → map stage_seen xs ≡ awaited (map standing_seen left) (map stage_seen w.exchanges)
  left-seen xs (closed none is) =
      ap (map stage_seen) is
      ∙ sym (kept-but (λ o. list_any (λ s. stages.waits_for o.number s.service) (map standing_seen left)) exchange w.exchanges
      (All-weaken (λ y. Has y w.exchanges) (λ y. list_any (λ s. stages.waits_for y.0 s.service) (map standing_seen left) ≡ not (eqb y.0 exchange)) w.exchanges
      (λ y there. who-waits y.0 left ∙ by_number y there (eqb y.0 exchange) refl) (Has-all w.exchanges)))
    where
      by_number : (y : Numbered Exchange) → Has y w.exchanges → (b : Bool) → eqb y.0 exchange ≡ b → not (eqb (count (waits_for y.0) left) 0) ≡ not b
      by_number y there true e = ap (λ (n : ℕ). not (eqb (count (waits_for n) left) 0)) (eqb-true _ _ e) ∙ ap not (eq-eqb _ _ none)
      by_number y there false e = ap not (ne_eqb _ _ (λ z. let some = others-waited y there (eqb-false _ _ e) in omega (arith, z, some)))
  left-seen xs (kept some is) =
      ap (map stage_seen) is
      ∙ sym (kept-all (λ o. list_any (λ s. stages.waits_for o.number s.service) (map standing_seen left)) (map stage_seen w.exchanges) (each w.exchanges (Has-all w.exchanges)))
    where
      waited : (y : Numbered Exchange) → Has y w.exchanges → list_any (λ s. stages.waits_for y.0 s.service) (map standing_seen left) ≡ true
      waited y there = who-waits y.0 left ∙ by_number (eqb y.0 exchange) refl
        where
          by_number : (b : Bool) → eqb y.0 exchange ≡ b → not (eqb (count (waits_for y.0) left) 0) ≡ true
          by_number true e = ap (λ (n : ℕ). not (eqb (count (waits_for n) left) 0)) (eqb-true _ _ e) ∙ ap not (ne_eqb _ _ (λ z. omega (arith, z, some)))
          by_number false e = ap not (ne_eqb _ _ (λ z. let more = others-waited y there (eqb-false _ _ e) in omega (arith, z, more)))

      each : (ys : List (Numbered Exchange)) → AllByRecursion (λ y. Has y w.exchanges) ys → AllByRecursion (λ o. list_any (λ s. stages.waits_for o.number s.service) (map standing_seen left) ≡ true) (map stage_seen ys)
      each [] all = tt
      each (y ∷ ys) all = (waited y all.0, each ys all.1)

  -- what holds of each exchange holds of each remaining one
  left-all : (P : Numbered Exchange → Type 0) (xs : List (Numbered Exchange)) → IsLeft xs → AllByRecursion P w.exchanges → AllByRecursion P xs
  left-all P xs (closed none is) all = subst (AllByRecursion P) (sym is) (All-weaken (λ y. P y × (not (eqb y.0 exchange) ≡ true)) P (without exchange w.exchanges) (λ y h. h.0) (All-filter P (λ y. not (eqb y.0 exchange)) w.exchanges all))
  left-all P xs (kept some is) all = subst (AllByRecursion P) (sym is) all

  -- the other exchanges are still there
  left-number : (xs : List (Numbered Exchange)) → IsLeft xs → (n : ℕ) → ((count (waits_for exchange) left ≡ 0) → n ≢ exchange) → HasNumber n w.exchanges → HasNumber n xs
  left-number xs (closed none is) n other has = subst (HasNumber n) (sym is) (HasNumber-without exchange n w.exchanges (other none) has)
  left-number xs (kept some is) n other has = subst (HasNumber n) (sym is) has

  left-rising : (xs : List (Numbered Exchange)) → IsLeft xs → IsRising 0 xs
  left-rising xs (closed none is) = subst (IsRising 0) (sym is) (IsRising-without exchange 0 w.exchanges c.whole.rising)
  left-rising xs (kept some is) = subst (IsRising 0) (sym is) c.whole.rising

  left-fewer : (xs : List (Numbered Exchange)) → IsLeft xs → length xs ≤ length w.exchanges
  left-fewer xs (closed none is) = let e = ap length is in let l = without-fewer exchange w.exchanges in omega arith
  left-fewer xs (kept some is) = let e = ap length is in omega arith

  left-count : (test : Exchange → Bool) (xs : List (Numbered Exchange)) → IsLeft xs → count test xs ≤ count test w.exchanges
  left-count test xs (closed none is) = let e = ap (count test) is in let l = count-without test exchange 0 w.exchanges c.whole.rising in omega arith
  left-count test xs (kept some is) = let e = ap (count test) is in omega arith

  -- a waiter waits for each remaining exchange
  left-waited : (xs : List (Numbered Exchange)) → IsLeft xs → AllByRecursion (λ y. 0 < count (waits_for y.0) left) xs
  left-waited xs (closed none is) =
      subst (AllByRecursion (λ y. 0 < count (waits_for y.0) left)) (sym is)
      (All-weaken (λ y. Has y w.exchanges × (not (eqb y.0 exchange) ≡ true)) (λ y. 0 < count (waits_for y.0) left) (without exchange w.exchanges) (λ y h. others-waited y h.0 (λ same. let t = eq-eqb _ _ same in absurd (let f : false ≡ true = subst (λ (b : Bool). not b ≡ true) t h.1 in cc))) (All-filter (λ y. Has y w.exchanges) (λ y. not (eqb y.0 exchange)) w.exchanges (Has-all w.exchanges)))
  left-waited xs (kept some is) =
      subst (AllByRecursion (λ y. 0 < count (waits_for y.0) left)) (sym is)
      (All-weaken (λ y. Has y w.exchanges) (λ y. 0 < count (waits_for y.0) left) w.exchanges (λ y there. by_number y there (eqb y.0 exchange) refl) (Has-all w.exchanges))
    where
      by_number : (y : Numbered Exchange) → Has y w.exchanges → (b : Bool) → eqb y.0 exchange ≡ b → 0 < count (waits_for y.0) left
      by_number y there true e = subst (λ (n : ℕ). 0 < count (waits_for n) left) (sym (eqb-true _ _ e)) some
      by_number y there false e = others-waited y there (eqb-false _ _ e)

  -- the exchange of each remaining waiter is there
  left-awaited : (xs : List (Numbered Exchange)) → IsLeft xs → AllByRecursion (λ u. HasExchange u.1.state xs) left
  left-awaited xs l = All-weaken (λ u. HasExchange u.1.state w.exchanges × Has u left) (λ u. HasExchange u.1.state xs) left (λ u h. still u h.1 u.1.state refl h.0) (All-there (λ u. HasExchange u.1.state w.exchanges) left r.awaited)
    where
      still : (u : Numbered Waiter) → Has u left → (s : WaiterState) → u.1.state ≡ s → HasExchange s w.exchanges → HasExchange s xs
      still u there (Delivering bytes id timer) is has = tt
      still u there (Waiting x) is has =
          left-number xs l x
          (λ none same.
          let waits : waits_for exchange u.1 ≡ true = ap (waits_in_state exchange) is ∙ eq-eqb x exchange same in
          let some = count-some (waits_for exchange) left u there waits in
          omega arith)
          has

-- it is due to be served since the end of its exchange
served-at : (w : State) (history : List Action) (c : Bears history w) (at number exchange : ℕ) (v : Waiter) (x : Exchange) (a : Answer) (f : IsServed w history number exchange v x a) → item_due w ≡ Some (OfWaiter at number) → item_at number w.waiters ≡ Some v → v.state ≡ Waiting exchange → item_at exchange w.exchanges ≡ Some x → answer_at x ≡ Some a → at ≡ f.done.ending.action.observation.now
served-at w history c at number exchange v x a f due found waits there answer =
    let d = first_due-holds (λ u. Has u w.waiters) (due_after w.exchanges) w.waiters (at, number) (Has-all w.waiters) (waiter-turn w history c at number due) in
    let here : due_after w.exchanges v ≡ Some at = subst (λ (u : Waiter). due_after w.exchanges u ≡ Some at) (one-item 0 w.waiters d.0 (number, v) c.whole.waiters_rise d.1 (item-Has number w.waiters v found) d.2) d.3 in
    let moment : Some a.got ≡ Some at = sym (ap (λ (s : WaiterState). due_in s w.exchanges) waits ∙ ap moment_of (ap answer_of there ∙ answer)) ∙ here in
    sym (same_Some a.got at moment) ∙ f.done.got

abbrev to-serve : (w : State) (history : List Action) (c : Bears history w) (at number exchange : ℕ) (v : Waiter) (x : Exchange) (a : Answer) (f : IsServed w history number exchange v x a) → at ≡ f.done.ending.action.observation.now → IsToServe w.setting history number at
to-serve w history c at number exchange v x a f moment =
    record {
      admitted = f.waits.admitted;
      unserved = f.waits.unserved;
      ending = f.done.ending;
      was_ended = f.done.was_ended;
      ends = subst (λ (n : ℕ). Ends n f.done.ending) (sym f.waits.exchange_is) f.done.ends;
      at_is = moment;
    }

-- the exchange ended after the waiter was admitted
ended-later : (w : State) (history : List Action) (number exchange : ℕ) (v : Waiter) (x : Exchange) (a : Answer) (f : IsServed w history number exchange v x a) → IsPositionOf f.done.ending.before f.waits.admitted.admission
ended-later w history number exchange v x a f =
    ⊎_elim
    (λ (same : f.done.ending ≡ admission). absurd (no-both f.done.ending.action.observation.report.outcome f.done.ends.outcome (ap (λ (p : Position). admits_one p.action.observation.report.outcome) same ∙ f.waits.admitted.admits.outcome)))
    (λ (other : IsPositionOf f.done.ending.before admission ⊎ IsPositionOf admission.before f.done.ending).
    ⊎_elim
    (λ (later : IsPositionOf f.done.ending.before admission). later)
    (λ (earlier : IsPositionOf admission.before f.done.ending). absurd (Never-at (Ends exchange) admission.before f.done.ending f.waits.unended earlier f.done.ends))
    other)
    (in-order history f.done.ending admission f.done.was_ended f.waits.admitted.was_admitted)
  where
    admission : Position
    admission = f.waits.admitted.admission

    no-both : (o : Outcome) → ends o ≡ true → admits_one o ≡ 1 → ⊥
    no-both (Answered storing) e f = absurd (omega arith)
    no-both GaveUp e f = absurd (omega arith)
    no-both _ e f = absurd cc

-- ---- the waiter

-- if it is finished, the others stay as they are; if it has to acknowledge its answer, it was sent
-- it once
module _ (w : State) (history : List Action) (c : Bears history w) (now draw at number exchange : ℕ) (v : Waiter) (x : Exchange) (a : Answer) (found : item_at number w.waiters ≡ Some v) (waits : v.state ≡ Waiting exchange) (f : IsServed w history number exchange v x a) where
  abbrev reply : Message
  reply = given_to w now v x.is_get a

  reply-spelled : Spells (spelling reply) reply
  reply-spelled = spelled reply (ending-is w v.kind x.is_get now (next_id w) exchange x.key f.done.ending a v.token v.tags f.done.with f.short)

  abbrev served_action : List (Numbered Waiter) → Action
  served_action left = doing (serves number) (observation_of now draw tick (tells w now number v exchange reply left))

  -- the timer starts with this observation
  sends-first : (left : List (Numbered Waiter)) → sends_by (serves number) (served_action left ∷ history) ≡ (served_action left).observation ∷ []
  sends-first left = sends-grow (serves number) history (served_action left) (same_act-waiter number) refl ∙ ap (λ (es : List Observation). (served_action left).observation ∷ es) f.waits.no_sends

  told-here : (left : List (Numbered Waiter)) → IsDelivering w.setting (served_action left ∷ history) (number, delivered (spelling reply) (next_id w) (started now draw) v) (spelling reply) (next_id w) (started now draw)
  told-here left =
      let e = served_action left in
      record {
        admitted = admitted-later e f.waits.admitted;
        serving = here history e;
        was_served = inl refl;
        is_serving = record { act = refl; outcome = refl };
        only = λ p was s. ⊎_elim (λ (same : here history e ≡ p). sym same) (λ (before : IsPositionOf history p). absurd (Never-at (Serves number) history p f.waits.unserved before s)) was;
        sent = refl;
        answer = reply;
        spells = reply-spelled;
        id_is = refl;
        started = refl;
        timer_is = subst (IsTimer (started now draw)) (sym (sends-first left)) (refl, refl, omega arith, refl);
        bytes_are = subst (AreOfBytes v.client (spelling reply)) (sym (sends-first left)) ((refl, refl), tt);
        short = λ most wide long. ending-fits w v.kind x.is_get now (next_id w) exchange x.key f.done.ending a v.token v.tags most f.done.with f.short wide long;
        token_gone = refl;
        tags_gone = refl;
      }

  -- what is known of the remaining waiters
  record AreServed (left : List (Numbered Waiter)) : Type 0 where
    pub serving : IsServing w number exchange left
    pub seen : map standing_seen left ≡ standing_in (served_action left ∷ history)
    pub each : AllByRecursion (IsWaiterOf w.setting (served_action left ∷ history)) left

  kind-told : is_con_datagram (spelling reply) ≡ is_con v.kind
  kind-told = con-told (spelling reply) reply reply-spelled

  are-served : (left : List (Numbered Waiter)) → IsTold w now draw number reply left → AreServed left
  are-served _ (done_with other) =
      record {
        serving = serving-done w history c number exchange v found waits;
        seen = gone-seen number w.waiters ∙ ap (stages.others_than number) c.whole.waiters ∙ sym (ap (λ (b : Bool). cond b (map (stages.as_delivering number) (standing_in history)) (stages.others_than number (standing_in history))) (kind-told ∙ other));
        each = others-are w history c number (served_action (without number w.waiters)) refl;
      }
  are-served _ (to_acknowledge con) =
      let change = delivered (spelling reply) (next_id w) (started now draw) in
      let left = changed_at number change w.waiters in
      let e = served_action left in
      let there = item-Has number w.waiters v found in
      record {
        serving = serving-told w history c number exchange v found waits (spelling reply) (next_id w) (started now draw);
        seen = delivering-seen number (next_id w) (spelling reply) (started now draw) w.waiters ∙ ap (map (stages.as_delivering number)) c.whole.waiters ∙ sym (ap (λ (b : Bool). cond b (map (stages.as_delivering number) (standing_in history)) (stages.others_than number (standing_in history))) (kind-told ∙ con));
        each =
            All-map (λ u. IsWaiterOf w.setting history u × Has u w.waiters) (IsWaiterOf w.setting (e ∷ history)) (changed number change) w.waiters
            (λ u g.
            changed-cases (IsWaiterOf w.setting (e ∷ history)) number change u
            (λ same. let one = one-item 0 w.waiters (number, v) u c.whole.waiters_rise there g.1 (sym same) in subst (λ (b : Waiter). IsWaiterOf w.setting (e ∷ history) (u.0, change b)) one (subst (λ (k : ℕ). IsWaiterOf w.setting (e ∷ history) (k, change v)) (sym same) (told-here left)))
            (λ other. waiter_frame w.setting history e u (λ same. other (same_serves u.0 number (sym same))) g.0))
            (All-there (IsWaiterOf w.setting history) w.waiters c.waiters);
      }

-- ---- the rule

-- serving a waiter preserves what is carried
pub keeps_delivering : (w : State) (history : List Action) (c : Bears history w) (now draw at number exchange : ℕ) (v : Waiter) (x : Exchange) (a : Answer) (left : List (Numbered Waiter)) → w.last ≤ now → if_due now (item_due w) ≡ Some (OfWaiter at number) → item_at number w.waiters ≡ Some v → v.state ≡ Waiting exchange → item_at exchange w.exchanges ≡ Some x → answer_at x ≡ Some a → IsTold w now draw number (given_to w now v x.is_get a) left
    → Bears (doing (serves number) (observation_of now draw tick (tells w now number v exchange (given_to w now v x.is_get a) left)) ∷ history) (tells w now number v exchange (given_to w now v x.is_get a) left).state
keeps_delivering w history c now draw at number exchange v x a left onward due found waits there answer told =
    let s = tells w now number v exchange (given_to w now v x.is_get a) left in
    let e = doing (serves number) (observation_of now draw tick s) in
    let f = served w history c number exchange v x a found waits there answer in
    let g = f.waits in
    let d = f.done in
    let reply = given_to w now v x.is_get a in
    let spells = reply-spelled w history c now draw at number exchange v x a found waits f in
    let are = are-served w history c now draw at number exchange v x a found waits f left told in
    let r = are.serving in
    let xs = without_idle exchange left w.exchanges in
    let l = is-left w history c number exchange left r in
    let unmoved : (x : ℕ) → e.act ≢ moves x = λ x same. cc in
    let less = r.less in
    let queued = left-count w history c number exchange left r is_queued xs l in
    let within = c.within.ids now onward in
    let remembered = remembered-still w history c e onward (λ k. refl) in
    let first = turn-is w history c now (OfWaiter at number) due in
    let method : x.is_get ≡ is_get g.admitted.request.code = f.is.method ∙ ap (λ (m : Message). is_get m.code) (sym (one-opened refl g.opened f.is.opened).2) ∙ g.method in
    record {
      routes = c.routes;
      clock = clock_frame c.clock onward refl refl;
      numbers = numbers_frame c.numbers (omega arith) (omega arith);
      ids = ids-given history w s.state e c.clock c.ids onward refl refl refl (omega arith) (record { gives = refl; message = reply; spells = spells; id_is = id-same w history c });
      unused = unused_frame w.setting history e (λ x above. unmoved x) (λ u above same. let k = same_serves number u same in let i = admitted-number g.admitted in omega (arith, k, above, i.1)) c.unused;
      schedules = schedules_with history e (subst IsSchedule (sym (sends-first w history c now draw at number exchange v x a found waits f left)) (record { few = omega arith; spaced = tt })) c.schedules;
      whole = record {
        exchanges = left-seen w history c number exchange left r xs l ∙ (λ i. awaited (are.seen i) (c.whole.exchanges i));
        waiters = are.seen;
        rising = left-rising w history c number exchange left r xs l;
        waiters_rise = r.rising;
        awaited = left-awaited w history c number exchange left r xs l;
        waited = left-waited w history c number exchange left r xs l;
        unended = λ x was never. left-number w history c number exchange left r xs l x (λ none same. Never-at (Ends exchange) history d.ending (subst (λ (n : ℕ). Never (Ends n) history) same never.1) d.was_ended d.ends) (c.whole.unended x (opened-before history e x refl was) never.1);
        unserved = λ u x was never. r.numbers u (λ same. never.0 (record { act = ap serves (sym same); outcome = refl })) (c.whole.unserved u x (admitted-before history e u x refl was) never.1);
      };
      exchanges = left-all w history c number exchange left r (IsExchangeOf w.setting (e ∷ history)) xs l (exchanges_frame w.setting history e w.exchanges refl unmoved c.exchanges);
      waiters = are.each;
      store = store-otherwise w.setting history w.store e refl refl c.store;
      con_records = remembered.0;
      non_records = remembered.1;
      within = record {
        exchanges = let few = left-fewer w history c number exchange left r xs l in let h = c.within.exchanges in omega arith;
        waiters = let h = c.within.waiters in let few = r.fewer in omega arith;
        pace = λ to. let few = left-count w history c number exchange left r (is_sent_to to) xs l in let h = c.within.pace to in omega arith;
        ids = λ n after. room-called w.ids now (count is_waiting left + count is_queued xs) (omega arith) n;
      };
      past = (
        record {
          waiter = number;
          act = refl;
          acting = acting w history c now (OfWaiter at number) due e refl refl refl;
          to_serve = to-serve w history c at number exchange v x a f (served-at w history c at number exchange v x a f first.0 found waits there answer);
          later = ended-later w history number exchange v x a f;
          key = x.key;
          verdict = sym g.verdict ∙ ap (verdict_on w.setting) (one-opened refl g.opened f.is.opened).2 ∙ f.is.verdict;
          answer = a;
          ended = subst (λ (n : ℕ). EndsWith w.setting n x.key d.ending a) (sym g.exchange_is) d.with;
          id = next_id w;
          tells = record {
            sent = ap Some g.client_is;
            spells =
                subst (λ (b : Bool). Spells (spelling reply) (shown_as g.admitted.request.kind b now a (next_id w) g.admitted.request.token (tags_of g.admitted.request))) method
                (subst (λ (k : Kind). Spells (spelling reply) (shown_as k x.is_get now a (next_id w) g.admitted.request.token (tags_of g.admitted.request))) g.kind_is
                (subst (λ (ts : List (List ℕ)). Spells (spelling reply) (shown_as v.kind x.is_get now a (next_id w) g.admitted.request.token ts)) g.tags_are
                (subst (λ (t : List ℕ). Spells (spelling reply) (shown_as v.kind x.is_get now a (next_id w) t v.tags)) g.token_is spells)));
          };
        },
        c.past,
      );
    }
