-- Retransmitting a request, and giving up an exchange, preserve what is carried.
use Rattle.std.proofs.Common.{◌≡◌, ◌≢◌, inl, inr, ℕ, ◌+◌, ◌-◌, ◌*◌, ◌^◌, ◌<◌, ◌≤◌, List, [], ◌∷◌, length, map, Bool, true, false, cond, ltb, Option, Some, None, refl, sym, ap, ◌∙◌, subst, arith}
use Rattle.std.proofs.lemmas.Bool.{and_parts, and_from, ltb-true, lt-ltb}
use Rattle.std.proofs.Math.Nat.{mul_assoc, pow-suc}
use Rattle.coap_endpoint.specs.declared.endpoint.Endpoint.{Endpoint}
use Rattle.coap_endpoint.proofs.Lists.{All-weaken}
use Rattle.coap_store.specs.declared.answer.Answer.{Answer}
use Rattle.coap_pending.specs.declared.exchange.Exchange.{Exchange}
use Rattle.coap_pending.specs.declared.exchange.ExchangeState.{ExchangeState}
use Rattle.coap_pending.specs.declared.exchange.ExchangeState.TheVariants.{Queued, Sent, Acked, Done}
use Rattle.coap_pending.specs.declared.exchange.Sending.{Sending}
use Rattle.coap_pending.specs.declared.timer.Timer.{Timer}
use Rattle.coap_pending.specs.declared.timer.Fire.TheVariants.{Again, GiveUp}
use Rattle.coap_pending.specs.Exchanges.{is_queued, is_sent_to, is_blocked, deadline, due_in, answered, fired_sending, fired_option, fired_exchange, fire_of_sending}
use Rattle.coap_pending.specs.Ids.{given_in}
use Rattle.coap_pending.specs.Table.{Numbered, IsRising, item_at, changed_at, count, passes}
use Rattle.coap_pending.specs.Timers.{goes_on, fire_of, fired}
use Rattle.coap_pending.specs.Waiters.{is_waiting}
use Rattle.coap_pending.proofs.Counts.{one_if, count-moved, count-kept}
use Rattle.coap_message.specs.Spelling.{spelling}
use Rattle.coap_forward.specs.Forms.{forwarded, tag_for}
use Rattle.coap_model.specs.declared.deed.Silence.{Silence}
use Rattle.coap_model.specs.Cached.{kept_for}
use Rattle.coap_model.proofs.MarksAndTaints.{told-stays}
use Rattle.coap_forward.specs.Messages.{token_of}
use Rattle.coap_forward.specs.Answers.{own_answer, gateway_timeout}
use Rattle.coap_model.specs.declared.due.DueItem.TheVariants.{OfExchange}
use Rattle.coap_model.specs.Events.{tick}
use Rattle.coap_model.specs.Setting.{Setting}
use Rattle.coap_model.specs.State.{State}
use Rattle.coap_model.specs.Ticks.{resends, gives_up}
use Rattle.coap_model.specs.Runs.{observation_of}
use Rattle.coap_model.specs.History.{Observation, moves, Action, Never, Ends}
use Rattle.coap_model.specs.Standing.{staged, done}
use Rattle.coap_model.specs.Schedules.{oldest, sends_by, IsSchedule, MayGoOn, SaysAsBefore}
use Rattle.coap_model.specs.Justified.{IsGivingUp, overdue, unheard, given_up, request_again}
use Rattle.coap_model.specs.Carries.{IsTimer, AreOfBytes, IsInFlight, IsState, stage_seen, form_id, Bears}
use Rattle.coap_model.proofs.DueByHistory.{due_of, timer-due, acting}
use Rattle.coap_model.proofs.Frames.{same_act-self, sends-quiet, sent_frame, sends-grow, schedules_with, schedules_frame}
use Rattle.coap_model.proofs.GivenIds.{ids-kept}
use Rattle.coap_model.proofs.Lists.{Has, Has-all}
use Rattle.coap_model.proofs.CaseExchangeChanged.{others-quiet, keeps_moving}
use Rattle.coap_model.proofs.Positions.{here, doing, opened-later}
use Rattle.coap_model.proofs.CaseQuiet.{remembered-still, room-still}
use Rattle.coap_model.proofs.Rules as rules
use Rattle.coap_model.proofs.Rules.{IsTurnOf, IsOver}
use Rattle.coap_model.proofs.NumbersAndStages.{staged-seen, unseen}
use Rattle.coap_model.proofs.Sendings.{was-sent}
use Rattle.coap_model.proofs.Stores.{store-otherwise}
use Rattle.coap_model.proofs.Turns.{turn-exchange, turn-due, turn-in_time, turn-ended, turn-stage}

-- ---- timers

-- a timer that continues is that of one more transmission
timer-again : (e before : Observation) (es : List Observation) (t : Timer) → IsTimer t (before ∷ es) → goes_on e.now t ≡ true → IsTimer (fired e.now t) (e ∷ before ∷ es)
timer-again e before es t h on = rw on (let sends = h.0 in omega arith, h.1, doubled, refl)
  where
    doubled : t.timeout * 2 ≡ (2000 + (oldest before es).draw) * 2 ^ length (before ∷ es)
    doubled = ap (λ (n : ℕ). n * 2) h.2 ∙ mul_assoc (2000 + (oldest before es).draw) (2 ^ length es) 2 ∙ ap (λ (k : ℕ). (2000 + (oldest before es).draw) * k) (sym (pow-suc 2 (length es)))

-- the message may be retransmitted
may-go_on : (now : ℕ) (es : List Observation) (t : Timer) → IsTimer t es → goes_on now t ≡ true → MayGoOn now es
may-go_on now [] t h on = absurd h
may-go_on now (e ∷ es) t h on =
    let parts = and_parts (ltb t.transmissions 5) (ltb (now - t.started) 93000) on in
    let few = ltb-true _ _ parts.0 in
    let soon = ltb-true _ _ parts.1 in
    let sends = h.0 in
    let started = h.1 in
    record { few = omega arith; soon = omega arith }

-- otherwise it may not
pub may-not : (now : ℕ) (es : List Observation) (t : Timer) → IsTimer t es → goes_on now t ≡ false → MayGoOn now es → ⊥
may-not now [] t h on m = m
may-not now (e ∷ es) t h off m =
    let sends = h.0 in
    let started = h.1 in
    let few = m.few in
    let soon = m.soon in
    let first = lt-ltb t.transmissions 5 (omega arith) in
    let second = lt-ltb (now - t.started) 93000 (omega arith) in
    absurd (let both : goes_on now t ≡ true = and_from _ _ first second in let f = sym off ∙ both in cc)

-- the schedule continues
schedule-again : (e before : Observation) (es : List Observation) (t : Timer) (to : Endpoint) (bytes : List ℕ) → IsTimer t (before ∷ es) → t.due ≤ e.now → goes_on e.now t ≡ true → AreOfBytes to bytes (before ∷ es) → e.report.send ≡ Some to → e.bytes ≡ bytes → IsSchedule (before ∷ es) → IsSchedule (e ∷ before ∷ es)
schedule-again e before es t to bytes h come on same send is s =
    let m = may-go_on e.now (before ∷ es) t h on in
    let few = m.few in
    let soon = m.soon in
    let due = timer-due t (before ∷ es) h in
    record { few = omega arith; spaced = (omega (arith, come, due), soon, (send ∙ sym same.0.0, is ∙ sym same.0.1), s.spaced) }

-- what a timer says about a retransmission
pub goes-again : (now : ℕ) (t : Timer) → fire_of now t ≡ Again → goes_on now t ≡ true
goes-again now t e = go (goes_on now t) refl e
  where
    go : (b : Bool) → goes_on now t ≡ b → cond b Again GiveUp ≡ Again → b ≡ true
    go true f g = refl
    go false f g = absurd cc

pub goes-no_more : (now : ℕ) (t : Timer) → fire_of now t ≡ GiveUp → goes_on now t ≡ false
goes-no_more now t e = go (goes_on now t) refl e
  where
    go : (b : Bool) → goes_on now t ≡ b → cond b Again GiveUp ≡ GiveUp → b ≡ false
    go true f g = absurd cc
    go false f g = refl

-- what is known of a message whose timer continues, as it is retransmitted
pub record GoesAgain (now : ℕ) (t : Timer) (es : List Observation) (e : Observation) : Type 0 where
  pub timer : IsTimer (fired now t) (e ∷ es)
  pub schedule : IsSchedule (e ∷ es)
  pub may : MayGoOn now es
  pub same : SaysAsBefore es e

pub goes : (now : ℕ) (t : Timer) (es : List Observation) (to : Endpoint) (bytes : List ℕ) (e : Observation) → e.now ≡ now → IsTimer t es → AreOfBytes to bytes es → t.due ≤ now → goes_on now t ≡ true → e.report.send ≡ Some to → e.bytes ≡ bytes → IsSchedule es → GoesAgain now t es e
goes now t [] to bytes e moment timer are come on send is schedule = absurd timer
goes now t (before ∷ es) to bytes e moment timer are come on send is schedule =
    let on_here : goes_on e.now t ≡ true = subst (λ (n : ℕ). goes_on n t ≡ true) (sym moment) on in
    record {
      timer = subst (λ (n : ℕ). IsTimer (fired n t) (e ∷ before ∷ es)) moment (timer-again e before es t timer on_here);
      schedule = schedule-again e before es t to bytes timer (omega (arith, come, moment)) on_here are send is schedule;
      may = may-go_on now (before ∷ es) t timer on;
      same = (send ∙ sym are.0.0, is ∙ sym are.0.1);
    }

-- ---- a request is retransmitted

-- retransmitting a request preserves what is carried
pub keeps_resending : (w : State) (history : List Action) (c : Bears history w) → (now draw at number : ℕ) (x : Exchange) → w.last ≤ now → IsTurnOf w now at number x → x.state ≡ Sent → now < deadline w.setting.limits.exchange_ms x → fire_of_sending now x.sending ≡ Again
    → Bears (doing (moves number) (observation_of now draw tick (resends w now number x)) ∷ history) (resends w now number x).state
keeps_resending w history c now draw at number x onward turn sent early fire =
    let e = doing (moves number) (observation_of now draw tick (resends w now number x)) in
    let f = turn-exchange w history c now at number x turn in
    let flight : IsInFlight w.setting history (number, x) = subst (IsState w.setting history (number, x)) sent f.state in
    let s = flight.sending in
    let a = flight.asked in
    let on = goes-again now s.timer (ap (fire_of_sending now) (sym flight.sending_is) ∙ fire) in
    let ended = turn-ended w history c now at number x turn sent s flight.sending_is early in
    let due = turn-due w history c now at number x turn in
    let come = due.1 in
    let g = goes now s.timer (sends_by (moves number) history) x.key.target.at x.form e.observation refl a.timer a.bytes (omega arith) on refl refl (c.schedules (moves number)) in
    let grown : sends_by (moves number) (e ∷ history) ≡ e.observation ∷ sends_by (moves number) history = sends-grow (moves number) history e (same_act-self number) refl in
    let queued_same = count-kept is_queued number (fired_exchange now) w.exchanges (λ y. refl) in
    let within = c.within.ids in
    let id : form_id (fired_option now x.sending) ≡ form_id x.sending = ap (λ (o : Option Sending). form_id (fired_option now o)) flight.sending_is ∙ sym (ap form_id flight.sending_is) in
    keeps_moving w history c e w.exchanges number x (fired_exchange now) w.ids w.store w.con_records w.non_records
    (record { act = refl; opens = refl; admits = refl; stands = λ standing. refl })
    (others-quiet w history c e number refl refl) turn.found onward
    (record {
      opened = opened-later e f.opened;
      client_is = f.client_is;
      admitted = f.admitted;
      verdict = f.verdict;
      method = f.method;
      former = f.former;
      was_cache = f.was_cache;
      form_is = f.form_is ∙ ap (λ (n : ℕ). spelling (forwarded (token_of w.setting.salt number) x.key.target (tag_for w.setting.limits.datagram x.key.target f.opened.request (kept_for x.key f.former)) f.opened.request n)) (sym id);
      form_short = f.form_short;
      copy_is = f.copy_is;
      state = subst (IsState w.setting (e ∷ history) (number, fired_exchange now x)) (sym sent) (
          record {
            sending = fired_sending now s;
            sending_is = ap (fired_option now) flight.sending_is;
            asked = record {
              asking = a.asking;
              was_asked = inr a.was_asked;
              asks = a.asks;
              asked_key = a.asked_key;
              to = a.to;
              id_is = a.id_is;
              number = a.number;
              timer = subst (IsTimer (fired now s.timer)) (sym grown) g.timer;
              bytes = subst (AreOfBytes x.key.target.at x.form) (sym grown) ((refl, refl), a.bytes);
            };
            method = flight.method;
            former = flight.former;
            was_cache = flight.was_cache;
            copy_is = flight.copy_is;
            told = told-stays x.tainted w.setting x.key.target a.asking history e refl flight.told;
            unended = ((λ h. let k = h.outcome in cc), flight.unended);
          }
          );
    })
    (unseen number (fired_exchange now) w.exchanges (λ y. refl) (λ y. refl))
    (ids-kept history w _ e c.clock c.ids onward refl refl refl)
    (schedules_with history e (subst IsSchedule (sym grown) g.schedule) c.schedules)
    (λ to. let same = count-kept (is_sent_to to) number (fired_exchange now) w.exchanges (λ y. refl) in let pace = c.within.pace to in omega arith)
    (λ n later. let room = room-still w history c now onward n later in omega arith)
    (store-otherwise w.setting history w.store e refl refl c.store)
    (remembered-still w history c e onward (λ k. refl)) (
      record {
        acting = acting w history c now (OfExchange at number) turn.due e refl refl refl;
        again =
            request_again number refl
            (record { to = x.key.target.at; stage = turn-stage w history c now at number x turn sent s flight.sending_is; at_is = ended ∙ timer-due s.timer _ a.timer })
            (turn-in_time w history c now at number x turn early);
        goes_on = g.may;
        same = g.same;
      },
      c.past,
    )

-- ---- an exchange is given up

-- the stage becomes `done`
pub ended-seen : (n : ℕ) (a : Answer) (xs : List (Numbered Exchange)) → map stage_seen (changed_at n (answered a) xs) ≡ staged n done (map stage_seen xs)
ended-seen n a xs = staged-seen n (answered a) done xs (λ y. refl) (All-weaken (λ y. Has y xs) (λ y. y.0 ≡ n → done ≡ done) xs (λ y there same. refl) (Has-all xs))

-- an exchange that has its answer is neither queued nor sent
pub ended-room : (w : State) (history : List Action) (c : Bears history w) (now n : ℕ) (a : Answer) (xs : List (Numbered Exchange)) → IsRising 0 xs → count is_queued xs ≡ count is_queued w.exchanges → w.last ≤ now → (later : ℕ) → now ≤ later → given_in later w.ids + (count is_waiting w.waiters + count is_queued (changed_at n (answered a) xs)) ≤ 32768
ended-room w history c now n a xs rising many onward later after =
    let room = room-still w history c now onward later after in
    let moved = count-moved is_queued n 0 (answered a) xs rising in
    let none = no-more is_queued (item_at n xs) in
    omega arith
  where
    no-more : (t : Exchange → Bool) (o : Option Exchange) → one_if (passes (λ b. is_queued (answered a b)) o) ≡ 0
    no-more t None = refl
    no-more t (Some b) = refl

pub ended-pace : (w : State) (history : List Action) (c : Bears history w) (n : ℕ) (a : Answer) (xs : List (Numbered Exchange)) → IsRising 0 xs → (to : Endpoint) → count (is_sent_to to) xs ≡ count (is_sent_to to) w.exchanges → count (is_sent_to to) (changed_at n (answered a) xs) ≤ w.setting.limits.nstart
ended-pace w history c n a xs rising to many =
    let pace = c.within.pace to in
    let moved = count-moved (is_sent_to to) n 0 (answered a) xs rising in
    let none = no-more (item_at n xs) in
    omega arith
  where
    no-more : (o : Option Exchange) → one_if (passes (λ b. is_sent_to to (answered a b)) o) ≡ 0
    no-more None = refl
    no-more (Some b) = refl

-- an exchange that isn't done hasn't ended
unended-yet : (setting : Setting) (history : List Action) (number : ℕ) (x : Exchange) (s : ExchangeState) → IsState setting history (number, x) s → ((a : Answer) → s ≢ Done a) → Never (Ends number) history
unended-yet setting history number x Queued state other = state.unended
unended-yet setting history number x Sent state other = state.unended
unended-yet setting history number x Acked state other = state.unended
unended-yet setting history number x (Done a) state other = absurd (other a refl)

-- giving up an exchange preserves what is carried
pub keeps_giving_up : (silence : Silence) (w : State) (history : List Action) (c : Bears history w) → (now draw at number : ℕ) (x : Exchange) → w.last ≤ now → IsTurnOf w now at number x → IsOver w now x
    → Bears (doing (moves number) (observation_of now draw tick (gives_up w now number silence)) ∷ history) (gives_up w now number silence).state
keeps_giving_up silence w history c now draw at number x onward turn over =
    let e = doing (moves number) (observation_of now draw tick (gives_up w now number silence)) in
    let a = own_answer now gateway_timeout in
    let f = turn-exchange w history c now at number x turn in
    let unended = unended-yet w.setting history number x x.state f.state (λ b is. not-due b is (turn-due w history c now at number x turn).0) in
    keeps_moving w history c e w.exchanges number x (answered a) w.ids w.store w.con_records w.non_records
    (record { act = refl; opens = refl; admits = refl; stands = λ standing. refl })
    (others-quiet w history c e number refl refl) turn.found onward
    (record {
      opened = opened-later e f.opened;
      client_is = f.client_is;
      admitted = f.admitted;
      verdict = f.verdict;
      method = f.method;
      former = f.former;
      was_cache = f.was_cache;
      form_is = f.form_is;
      form_short = f.form_short;
      copy_is = f.copy_is;
      state = record { ending = here history e; was_ended = inl refl; ends = record { act = refl; outcome = refl }; with = given_up (record { act = refl; outcome = refl }) refl; got = refl; was_sent = sent_frame w.setting history number x.key x.form x.sending e (sends-quiet (moves number) history e refl) (was-sent w.setting history (number, x) x.state f.state) };
    })
    (ended-seen number a w.exchanges)
    (ids-kept history w _ e c.clock c.ids onward refl refl refl)
    (schedules_frame history e refl c.schedules)
    (λ to. ended-pace w history c number a w.exchanges c.whole.rising to refl)
    (λ later after. ended-room w history c now number a w.exchanges c.whole.rising refl onward later after)
    (store-otherwise w.setting history w.store e refl refl c.store)
    (remembered-still w history c e onward (λ k. refl))
    (gives unended over, c.past)
  where
    not-due : (b : Answer) → x.state ≡ Done b → due_of w x ≡ Some at → ⊥
    not-due b is due = absurd (let g = sym (ap (λ (s : ExchangeState). due_in s (is_blocked w.setting.limits.nstart w.exchanges x) w.setting.limits.exchange_ms x) is) ∙ due in cc)

    e : Action
    e = doing (moves number) (observation_of now draw tick (gives_up w now number silence))

    gives : Never (Ends number) history → IsOver w now x → IsGivingUp w.setting history e
    gives unended (rules.overdue late) =
        let f = turn-exchange w history c now at number x turn in
        let admitted = f.admitted in
        overdue number (f.opened.opening.action.observation.now + w.setting.limits.exchange_ms) (acting w history c now (OfExchange at number) turn.due e refl refl refl) refl
        (record { opened = f.opened; unended = unended; at_is = refl }) (omega arith) (record { sent = refl; bytes = refl })
    gives unended (rules.unheard is early fire) =
        let f = turn-exchange w history c now at number x turn in
        let flight : IsInFlight w.setting history (number, x) = subst (IsState w.setting history (number, x)) is f.state in
        let s = flight.sending in
        let off = goes-no_more now s.timer (ap (fire_of_sending now) (sym flight.sending_is) ∙ fire) in
        let ended = turn-ended w history c now at number x turn is s flight.sending_is early in
        let come = (turn-due w history c now at number x turn).1 in
        unheard number at (acting w history c now (OfExchange at number) turn.due e refl refl refl) refl
        (record { to = x.key.target.at; stage = turn-stage w history c now at number x turn is s flight.sending_is; at_is = ended ∙ timer-due s.timer _ flight.asked.timer })
        unended come (may-not now (sends_by (moves number) history) s.timer flight.asked.timer off) (record { sent = refl; bytes = refl })
