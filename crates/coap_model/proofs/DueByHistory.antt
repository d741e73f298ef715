-- What is due according to the tables is what is due according to the history, in the same order.
use Rattle.std.proofs.Common.{◌≡◌, ◌⊎◌, inl, inr, ⊎_elim, ℕ, ◌+◌, ◌<◌, ◌≤◌, min, Bool, true, false, cond, leb, List, [], ◌∷◌, Option, Some, None, refl, sym, ap, ◌∙◌, subst, arith}
use Rattle.std.specs.Prelude.{◌==◌, option_map, find}
use Rattle.std.specs.List.{AllByRecursion}
use Rattle.std.proofs.lemmas.Bool.{leb-true, leb-false, cases_lt}
use Rattle.std.proofs.lemmas.Option.{same_Some}
use Rattle.coap_store.specs.declared.answer.Answer.{Answer}
use Rattle.coap_store.specs.declared.key.CacheKey.{CacheKey}
use Rattle.coap_pending.specs.declared.exchange.Exchange.{Exchange}
use Rattle.coap_pending.specs.declared.exchange.ExchangeState.{ExchangeState}
use Rattle.coap_pending.specs.declared.exchange.ExchangeState.TheVariants.{Queued, Sent, Acked, Done}
use Rattle.coap_pending.specs.declared.exchange.Sending.{Sending}
use Rattle.coap_pending.specs.declared.timer.Timer.{Timer}
use Rattle.coap_pending.specs.declared.waiter.Waiter.{Waiter}
use Rattle.coap_pending.specs.declared.waiter.WaiterState.{WaiterState}
use Rattle.coap_pending.specs.declared.waiter.WaiterState.TheVariants.{Waiting, Delivering}
use Rattle.coap_pending.specs.Exchanges.{is_sent_to, deadline, timer_or, due_in, due_among, is_blocked, answer_in_state, answer_of, answer_in}
use Rattle.coap_pending.specs.Waiters as waiters
use Rattle.coap_pending.specs.Waiters.{due_after, moment_of}
use Rattle.coap_pending.specs.Table.{Numbered, item_at, count}
use Rattle.coap_model.specs.declared.due.DueItem.{DueItem}
use Rattle.coap_model.specs.declared.due.DueItem.TheVariants.{OfExchange, OfWaiter}
use Rattle.coap_model.specs.Events.{tick}
use Rattle.coap_model.specs.Setting.{Setting}
use Rattle.coap_model.specs.Verdicts.{may_ask}
use Rattle.coap_model.specs.State.{State}
use Rattle.coap_model.specs.Ticks as ticks
use Rattle.coap_model.specs.Ticks.{exchange_due, waiter_due, first_item, item_due, if_due, next_due}
use Rattle.coap_model.specs.Standing.{Stage, Open, queued, sent, stage_of, WaiterStanding, Service, delivering, service_of}
use Rattle.coap_model.specs.Schedules.{sends_by, next_send}
use Rattle.coap_model.specs.Due.{IsToSend, IsToRepeat, IsToEnd, IsExchangeDue, to_send, to_repeat, to_end, IsToServe, IsToServeAgain, IsWaiterDue, to_serve, to_serve_again, IsDueAt, ComesBefore, IsSooner, IsNextDue}
use Rattle.coap_model.specs.Justified.{IsActing, verdict_on}
use Rattle.coap_model.specs.History.{Observation, Act, no_item, admits, moves, serves, Action, Position, Never, Ends, Serves}
use Rattle.coap_model.specs.Carries.{HasNumber, HasExchange, stage_at, service_in, IsTimer, IsState, IsExchangeOf, IsWaiterIn, IsWaiterOf, Bears}
use Rattle.coap_model.proofs.FirstDue.{Due, NotBefore, IsNotBefore, first_due-holds, first_due-none, first_due-least}
use Rattle.coap_model.proofs.Lists.{Has, Has-holds, All-there}
use Rattle.coap_model.proofs.Once.{ended-once}
use Rattle.coap_model.proofs.Positions.{Never-at, one-opened, one-admitted}
use Rattle.coap_model.proofs.CountsAndRoom.{sent-count}
use Rattle.coap_model.proofs.NumbersAndStages.{stage-found, found-stage, service-found, found-service}
use Rattle.coap_model.proofs.Tables.{Has-item, Has-number, at-number, item-holds, one-item}

-- the act that an item is in the history
abbrev pub act_of : DueItem → Act
act_of (OfExchange at number) = moves number
act_of (OfWaiter at number) = serves number

-- when an exchange of a proxy is due
abbrev pub due_of : State → Exchange → Option ℕ
due_of w = due_among w.setting.limits.nstart w.setting.limits.exchange_ms w.exchanges

-- ---- small facts

-- a running timeout ends when the message is due to be retransmitted
pub timer-due : (t : Timer) (es : List Observation) → IsTimer t es → t.due ≡ next_send es
timer-due t [] h = absurd h
timer-due t (e ∷ es) h = h.3 ∙ ap (λ (n : ℕ). e.now + n) h.2

-- the lesser of two numbers is one of them
pub min-cases : (a b at : ℕ) → min a b ≡ at → (at ≡ a) ⊎ (at ≡ b)
min-cases a b at e = ⊎_elim (λ (lt : a < b). inl (omega (arith, e, lt))) (λ (le : b ≤ a). inr (omega (arith, e, le))) (cases_lt a b)

-- two requests with equal verdicts have equal keys
one_key : {a b : CacheKey} → may_ask a ≡ may_ask b → a ≡ b
one_key e = cc

-- ---- the stage of an exchange

-- each exchange of the tables has its stage in the history
pub stage-is : (w : State) (history : List Action) → Bears history w → (x : Numbered Exchange) → Has x w.exchanges → stage_of x.0 history ≡ Some (stage_at x.1.key.target.at x.1.state)
stage-is w history c x there = ap (λ (os : List Open). option_map (λ (o : Open). o.stage) (find (λ (o : Open). o.number == x.0) os)) (sym c.whole.exchanges) ∙ stage-found x.0 w.exchanges x.1 (Has-item 0 w.exchanges x c.whole.rising there)

-- if the history has a stage for an exchange, the exchange is in the table
pub staged-there : (w : State) (history : List Action) → Bears history w → (n : ℕ) (stage : Stage) → stage_of n history ≡ Some stage → HasNumber n w.exchanges
staged-there w history c n stage is = found-stage n w.exchanges (λ none. let e = sym none ∙ ap (λ (os : List Open). option_map (λ (o : Open). o.stage) (find (λ (o : Open). o.number == n) os)) c.whole.exchanges ∙ is in cc)

-- each waiter of the tables has its stage in the history
pub service-is : (w : State) (history : List Action) → Bears history w → (v : Numbered Waiter) → Has v w.waiters → service_of v.0 history ≡ Some (service_in v.1.state)
service-is w history c v there = ap (λ (ss : List WaiterStanding). option_map (λ (s : WaiterStanding). s.service) (find (λ (s : WaiterStanding). s.number == v.0) ss)) (sym c.whole.waiters) ∙ service-found v.0 w.waiters v.1 (Has-item 0 w.waiters v c.whole.waiters_rise there)

-- if the history has a stage for a waiter, the waiter is in the table
pub served-there : (w : State) (history : List Action) → Bears history w → (n : ℕ) (service : Service) → service_of n history ≡ Some service → HasNumber n w.waiters
served-there w history c n service is = found-service n w.waiters (λ none. let e = sym none ∙ ap (λ (ss : List WaiterStanding). option_map (λ (s : WaiterStanding). s.service) (find (λ (s : WaiterStanding). s.number == n) ss)) c.whole.waiters ∙ is in cc)

-- ---- what is due according to the tables is due according to the history

-- an exchange that is due is due to be sent, to be retransmitted, or to end
pub exchange-due : (w : State) (history : List Action) → Bears history w → (x : Numbered Exchange) → Has x w.exchanges → IsExchangeOf w.setting history x → (at : ℕ) → due_of w x.1 ≡ Some at → IsDueAt w.setting history (moves x.0) at
exchange-due w history c x there f at due = go x.1.state refl f.state due
  where
    last : ℕ
    last = deadline w.setting.limits.exchange_ms x.1

    blocked : Bool
    blocked = is_blocked w.setting.limits.nstart w.exchanges x.1

    ending : Never (Ends x.0) history → at ≡ last → IsExchangeDue w.setting history x.0 at
    ending unended e = to_end (record { opened = f.opened; unended = unended; at_is = e ∙ ap (λ (n : ℕ). n + w.setting.limits.exchange_ms) f.admitted })

    turn : x.1.state ≡ Queued → Never (Ends x.0) history → (b : Bool) → blocked ≡ b → Some (cond b last x.1.admitted) ≡ Some at → IsExchangeDue w.setting history x.0 at
    turn is unended true t e = ending unended (sym (same_Some last at e))
    turn is unended false t e =
        let free = leb-false _ _ t in
        let as_many = sent-count x.1.key.target.at history w c in
        to_send (record {
          opened = f.opened;
          key = x.1.key;
          verdict = f.verdict;
          stage = stage-is w history c x there ∙ ap (λ (s : ExchangeState). Some (stage_at x.1.key.target.at s)) is;
          free = omega (arith, free, as_many);
          at_is = sym (same_Some x.1.admitted at e) ∙ f.admitted;
        })

    go : (s : ExchangeState) → x.1.state ≡ s → IsState w.setting history x s → due_in s blocked w.setting.limits.exchange_ms x.1 ≡ Some at → IsExchangeDue w.setting history x.0 at
    go Queued is state e = turn is state.unended blocked refl e
    go Sent is state e =
        let s = state.sending in
        let lesser : min s.timer.due last ≡ at = ap (timer_or last) (sym state.sending_is) ∙ same_Some (timer_or last x.1.sending) at e in
        ⊎_elim
        (λ (timer : at ≡ s.timer.due). to_repeat (record { to = x.1.key.target.at; stage = stage-is w history c x there ∙ ap (λ (s : ExchangeState). Some (stage_at x.1.key.target.at s)) is; at_is = timer ∙ timer-due s.timer _ state.asked.timer }))
        (λ (end : at ≡ last). ending state.unended end)
        (min-cases s.timer.due last at lesser)
    go Acked is state e = ending state.unended (sym (same_Some last at e))
    go (Done a) is state e = absurd cc

-- an exchange that has an answer is done, and has the property that all exchanges have
pub answer-of : (P : Numbered Exchange → Type 0) (n : ℕ) (xs : List (Numbered Exchange)) (a : Answer) → AllByRecursion P xs → answer_in n xs ≡ Some a → (x : Exchange) × P (n, x) × (x.state ≡ Done a) × (item_at n xs ≡ Some x)
answer-of P n xs a all e = go (item_at n xs) refl e
  where
    state : (x : Exchange) (s : ExchangeState) → x.state ≡ s → answer_in_state s ≡ Some a → x.state ≡ Done a
    state x Queued is f = absurd cc
    state x Sent is f = absurd cc
    state x Acked is f = absurd cc
    state x (Done b) is f = is ∙ ap Done (same_Some b a f)

    go : (o : Option Exchange) → item_at n xs ≡ o → answer_of o ≡ Some a → (x : Exchange) × P (n, x) × (x.state ≡ Done a) × (item_at n xs ≡ Some x)
    go None is f = absurd cc
    go (Some x) is f = (x, item-holds P n xs x all is, state x x.state refl f, is)

-- a waiter that is due is due to be served, or to be served again
pub waiter-due : (w : State) (history : List Action) → Bears history w → (v : Numbered Waiter) → Has v w.waiters → IsWaiterOf w.setting history v → (at : ℕ) → due_after w.exchanges v.1 ≡ Some at → IsDueAt w.setting history (serves v.0) at
waiter-due w history c v there f at due = go v.1.state refl f due
  where
    moment : (exchange : ℕ) → IsWaiterIn w.setting history v (Waiting exchange) → (o : Option Answer) → answer_in exchange w.exchanges ≡ o → moment_of o ≡ Some at → IsToServe w.setting history v.0 at
    moment exchange g None is e = absurd cc
    moment exchange g (Some a) is e =
        let found = answer-of (IsExchangeOf w.setting history) exchange w.exchanges a c.exchanges is in
        let state = subst (IsState w.setting history (exchange, found.0)) found.2 found.1.state in
        record {
          admitted = g.admitted;
          unserved = g.unserved;
          ending = state.ending;
          was_ended = state.was_ended;
          ends = subst (λ (n : ℕ). Ends n state.ending) (sym g.exchange_is) state.ends;
          at_is = sym (same_Some a.got at e) ∙ state.got;
        }

    go : (s : WaiterState) → v.1.state ≡ s → IsWaiterIn w.setting history v s → waiters.due_in s w.exchanges ≡ Some at → IsWaiterDue w.setting history v.0 at
    go (Waiting exchange) is g e = to_serve (moment exchange g (answer_in exchange w.exchanges) refl e)
    go (Delivering bytes id timer) is g e = to_serve_again (record { service = service-is w history c v there ∙ ap (λ (s : WaiterState). Some (service_in s)) is; at_is = sym (same_Some timer.due at e) ∙ timer-due timer _ g.timer_is })

-- ---- what is due according to the history is due according to the tables, or was due before

pub data IsListed (w : State) (a : Act) (m : ℕ) : Type 0 where
  of_exchange : (x : Numbered Exchange) (k : ℕ) → Has x w.exchanges → moves x.0 ≡ a → due_of w x.1 ≡ Some k → k ≤ m → IsListed w a m
  of_waiter : (v : Numbered Waiter) (k : ℕ) → Has v w.waiters → serves v.0 ≡ a → due_after w.exchanges v.1 ≡ Some k → k ≤ m → IsListed w a m

-- an exchange of the history is in the table, with its stage
record IsThere (w : State) (history : List Action) (x : ℕ) : Type 0 where
  pub y : Numbered Exchange
  pub number : x ≡ y.0
  pub is : IsExchangeOf w.setting history y
  pub there : Has y w.exchanges

is-there : (w : State) (history : List Action) → Bears history w → (x : ℕ) → HasNumber x w.exchanges → IsThere w history x
is-there w history c x has = let f = at-number (IsExchangeOf w.setting history) x w.exchanges has c.exchanges in record { y = f.0; number = f.1; is = f.2; there = f.3 }

-- a request that is due to be sent is due according to the tables
send-listed : (w : State) (history : List Action) → Bears history w → (x at : ℕ) → IsToSend w.setting history x at → IsListed w (moves x) at
send-listed w history c x at d = go y.1.state refl
  where
    t : IsThere w history x
    t = is-there w history c x (staged-there w history c x queued d.stage)

    y : Numbered Exchange
    y = t.y

    stage : Some (stage_at y.1.key.target.at y.1.state) ≡ Some queued
    stage = sym (stage-is w history c y t.there) ∙ ap (λ (n : ℕ). stage_of n history) (sym t.number) ∙ d.stage

    key : d.key ≡ y.1.key
    key = one_key (sym d.verdict ∙ ap (verdict_on w.setting) (one-opened t.number d.opened t.is.opened).2 ∙ t.is.verdict)

    free : is_blocked w.setting.limits.nstart w.exchanges y.1 ≡ false
    free =
        let few = d.free in
        let as_many = sent-count d.key.target.at history w c in
        let less : count (is_sent_to y.1.key.target.at) w.exchanges < w.setting.limits.nstart = subst (λ (k : CacheKey). count (is_sent_to k.target.at) w.exchanges < w.setting.limits.nstart) key (omega (arith, few, as_many)) in
        lt-leb-false _ _ less
      where
        lt-leb-false : (m n : ℕ) → n < m → leb m n ≡ false
        lt-leb-false m n less = go (leb m n) refl
          where
            go : (b : Bool) → leb m n ≡ b → b ≡ false
            go true e = let le = leb-true m n e in absurd (omega (arith, le, less))
            go false e = refl

    moment : y.1.admitted ≡ at
    moment = t.is.admitted ∙ ap (λ (p : Position). p.action.observation.now) (sym (one-opened t.number d.opened t.is.opened).0) ∙ sym d.at_is

    go : (s : ExchangeState) → y.1.state ≡ s → IsListed w (moves x) at
    go Queued is = of_exchange y y.1.admitted t.there (ap moves (sym t.number)) (ap (λ (s : ExchangeState). due_in s (is_blocked w.setting.limits.nstart w.exchanges y.1) w.setting.limits.exchange_ms y.1) is ∙ rw free refl) (let e = moment in omega (arith, e))
    go Sent is = absurd (let e = ap (λ (s : ExchangeState). Some (stage_at y.1.key.target.at s)) (sym is) ∙ stage in cc)
    go Acked is = absurd (let e = ap (λ (s : ExchangeState). Some (stage_at y.1.key.target.at s)) (sym is) ∙ stage in cc)
    go (Done a) is = absurd (let e = ap (λ (s : ExchangeState). Some (stage_at y.1.key.target.at s)) (sym is) ∙ stage in cc)

-- when an exchange that was sent is due: at the end of its running timeout, or at its deadline
sent-due : (w : State) (history : List Action) (y : Numbered Exchange) → y.1.state ≡ Sent → (s : Sending) → y.1.sending ≡ Some s → due_of w y.1 ≡ Some (min s.timer.due (deadline w.setting.limits.exchange_ms y.1))
sent-due w history y is s sending = ap (λ (t : ExchangeState). due_in t (is_blocked w.setting.limits.nstart w.exchanges y.1) w.setting.limits.exchange_ms y.1) is ∙ ap (λ (o : Option Sending). Some (timer_or (deadline w.setting.limits.exchange_ms y.1) o)) sending

-- a request that is due to be retransmitted is due according to the tables
repeat-listed : (w : State) (history : List Action) → Bears history w → (x at : ℕ) → IsToRepeat w.setting history x at → IsListed w (moves x) at
repeat-listed w history c x at d = go y.1.state refl t.is.state
  where
    t : IsThere w history x
    t = is-there w history c x (staged-there w history c x (sent d.to) d.stage)

    y : Numbered Exchange
    y = t.y

    stage : Some (stage_at y.1.key.target.at y.1.state) ≡ Some (sent d.to)
    stage = sym (stage-is w history c y t.there) ∙ ap (λ (n : ℕ). stage_of n history) (sym t.number) ∙ d.stage

    go : (s : ExchangeState) → y.1.state ≡ s → IsState w.setting history y s → IsListed w (moves x) at
    go Queued is state = absurd (let e = ap (λ (s : ExchangeState). Some (stage_at y.1.key.target.at s)) (sym is) ∙ stage in cc)
    go Sent is state =
        let moment : state.sending.timer.due ≡ at = timer-due state.sending.timer _ state.asked.timer ∙ ap (λ (n : ℕ). next_send (sends_by (moves n) history)) (sym t.number) ∙ sym d.at_is in
        of_exchange y _ t.there (ap moves (sym t.number)) (sent-due w history y is state.sending state.sending_is) (omega (arith, moment))
    go Acked is state = absurd (let e = ap (λ (s : ExchangeState). Some (stage_at y.1.key.target.at s)) (sym is) ∙ stage in cc)
    go (Done a) is state = absurd (let e = ap (λ (s : ExchangeState). Some (stage_at y.1.key.target.at s)) (sym is) ∙ stage in cc)

-- and so is an exchange that is due to end
end-listed : (w : State) (history : List Action) → Bears history w → (x at : ℕ) → IsToEnd w.setting history x at → IsListed w (moves x) at
end-listed w history c x at d = go y.1.state refl t.is.state
  where
    t : IsThere w history x
    t = is-there w history c x (c.whole.unended x (record { position = d.opened.opening; is_there = d.opened.was_opened; holds = d.opened.opens }) d.unended)

    y : Numbered Exchange
    y = t.y

    last : deadline w.setting.limits.exchange_ms y.1 ≡ at
    last = ap (λ (n : ℕ). n + w.setting.limits.exchange_ms) (t.is.admitted ∙ ap (λ (p : Position). p.action.observation.now) (sym (one-opened t.number d.opened t.is.opened).0)) ∙ sym d.at_is

    blocked : y.1.state ≡ Queued → (b : Bool) → is_blocked w.setting.limits.nstart w.exchanges y.1 ≡ b → IsListed w (moves x) at
    blocked is true e = of_exchange y (deadline w.setting.limits.exchange_ms y.1) t.there (ap moves (sym t.number)) (ap (λ (s : ExchangeState). due_in s (is_blocked w.setting.limits.nstart w.exchanges y.1) w.setting.limits.exchange_ms y.1) is ∙ rw e refl) (let l = last in omega (arith, l))
    blocked is false e = of_exchange y y.1.admitted t.there (ap moves (sym t.number)) (ap (λ (s : ExchangeState). due_in s (is_blocked w.setting.limits.nstart w.exchanges y.1) w.setting.limits.exchange_ms y.1) is ∙ rw e refl) (let l = last in omega (arith, l))

    go : (s : ExchangeState) → y.1.state ≡ s → IsState w.setting history y s → IsListed w (moves x) at
    go Queued is state = blocked is (is_blocked w.setting.limits.nstart w.exchanges y.1) refl
    go Sent is state = of_exchange y _ t.there (ap moves (sym t.number)) (sent-due w history y is state.sending state.sending_is) (let l = last in omega (arith, l))
    go Acked is state = of_exchange y (deadline w.setting.limits.exchange_ms y.1) t.there (ap moves (sym t.number)) (ap (λ (s : ExchangeState). due_in s (is_blocked w.setting.limits.nstart w.exchanges y.1) w.setting.limits.exchange_ms y.1) is) (let l = last in omega (arith, l))
    go (Done a) is state = absurd (Never-at (Ends x) history state.ending d.unended state.was_ended (subst (λ (n : ℕ). Ends n state.ending) (sym t.number) state.ends))

-- a waiter that is due to be served is due according to the tables
serve-listed : (w : State) (history : List Action) → Bears history w → (v at : ℕ) → IsToServe w.setting history v at → IsListed w (serves v) at
serve-listed w history c v at d = go u.1.state refl t.2
  where
    t : (u : Numbered Waiter) × (v ≡ u.0) × IsWaiterOf w.setting history u × Has u w.waiters
    t = at-number (IsWaiterOf w.setting history) v w.waiters (c.whole.unserved v d.admitted.exchange (record { position = d.admitted.admission; is_there = d.admitted.was_admitted; holds = d.admitted.admits }) d.unserved) c.waiters

    u : Numbered Waiter
    u = t.0

    answered : (exchange : ℕ) → u.1.state ≡ Waiting exchange → IsWaiterIn w.setting history u (Waiting exchange) → HasNumber exchange w.exchanges → IsListed w (serves v) at
    answered exchange waits g has = by_state y.1.state refl there.is.state
      where
        there : IsThere w history exchange
        there = is-there w history c exchange has

        y : Numbered Exchange
        y = there.y

        ends : Ends y.0 d.ending
        ends = subst (λ (n : ℕ). Ends n d.ending) ((one-admitted t.1 d.admitted g.admitted).3 ∙ g.exchange_is ∙ there.number) d.ends

        found : item_at exchange w.exchanges ≡ Some y.1
        found = ap (λ (n : ℕ). item_at n w.exchanges) there.number ∙ Has-item 0 w.exchanges y c.whole.rising there.there

        by_state : (s : ExchangeState) → y.1.state ≡ s → IsState w.setting history y s → IsListed w (serves v) at
        by_state Queued is state = absurd (Never-at (Ends y.0) history d.ending state.unended d.was_ended ends)
        by_state Sent is state = absurd (Never-at (Ends y.0) history d.ending state.unended d.was_ended ends)
        by_state Acked is state = absurd (Never-at (Ends y.0) history d.ending state.unended d.was_ended ends)
        by_state (Done a) is state =
            let position = ended-once w.setting history y.0 state.ending d.ending c.past state.was_ended d.was_ended state.ends ends in
            let answer : answer_in exchange w.exchanges ≡ Some a = ap answer_of found ∙ ap answer_in_state is in
            let moment : a.got ≡ at = state.got ∙ ap (λ (p : Position). p.action.observation.now) position ∙ sym d.at_is in
            of_waiter u a.got t.3 (ap serves (sym t.1)) (ap (λ (s : WaiterState). waiters.due_in s w.exchanges) waits ∙ ap moment_of answer) (omega (arith, moment))

    go : (s : WaiterState) → u.1.state ≡ s → IsWaiterIn w.setting history u s → IsListed w (serves v) at
    go (Waiting exchange) is g =
        let has = (at-number (λ z. HasExchange z.1.state w.exchanges) u.0 w.waiters (Has-number w.waiters u t.3) c.whole.awaited) in
        let same = one-item 0 w.waiters has.0 u c.whole.waiters_rise has.3 t.3 (sym has.1) in
        answered exchange is g (subst (λ (s : WaiterState). HasExchange s w.exchanges) is (subst (λ (a : Waiter). HasExchange a.state w.exchanges) same has.2))
    go (Delivering bytes id timer) is g = absurd (Never-at (Serves v) history g.serving d.unserved g.was_served (subst (λ (n : ℕ). Serves n g.serving) (sym t.1) g.is_serving))

-- a waiter that is due to be served again is due according to the tables
serve-again-listed : (w : State) (history : List Action) → Bears history w → (v at : ℕ) → IsToServeAgain history v at → IsListed w (serves v) at
serve-again-listed w history c v at d = go u.1.state refl t.2
  where
    t : (u : Numbered Waiter) × (v ≡ u.0) × IsWaiterOf w.setting history u × Has u w.waiters
    t = at-number (IsWaiterOf w.setting history) v w.waiters (served-there w history c v delivering d.service) c.waiters

    u : Numbered Waiter
    u = t.0

    service : Some (service_in u.1.state) ≡ Some delivering
    service = sym (service-is w history c u t.3) ∙ ap (λ (n : ℕ). service_of n history) (sym t.1) ∙ d.service

    go : (s : WaiterState) → u.1.state ≡ s → IsWaiterIn w.setting history u s → IsListed w (serves v) at
    go (Waiting exchange) is g = absurd (let e = ap (λ (s : WaiterState). Some (service_in s)) (sym is) ∙ service in cc)
    go (Delivering bytes id timer) is g =
        let moment : timer.due ≡ at = timer-due timer _ g.timer_is ∙ ap (λ (n : ℕ). next_send (sends_by (serves n) history)) (sym t.1) ∙ sym d.at_is in
        of_waiter u timer.due t.3 (ap serves (sym t.1)) (ap (λ (s : WaiterState). waiters.due_in s w.exchanges) is) (omega (arith, moment))

-- everything that is due according to the history is due according to the tables
pub listed : (w : State) (history : List Action) → Bears history w → (a : Act) (at : ℕ) → IsDueAt w.setting history a at → IsListed w a at
listed w history c no_item at d = absurd d
listed w history c (admits v x) at d = absurd d
listed w history c (moves x) at (to_send d) = send-listed w history c x at d
listed w history c (moves x) at (to_repeat d) = repeat-listed w history c x at d
listed w history c (moves x) at (to_end d) = end-listed w history c x at d
listed w history c (serves v) at (to_serve d) = serve-listed w history c v at d
listed w history c (serves v) at (to_serve_again d) = serve-again-listed w history c v at d

-- ---- what is due first

-- which of the two tables has the item that is due first
data IsChosen (o p : Option Due) (i : DueItem) : Type 0 where
  an_exchange : (x : Due) → o ≡ Some x → i ≡ OfExchange x.0 x.1 → ((v : Due) → p ≡ Some v → x.0 ≤ v.0) → IsChosen o p i
  a_waiter : (v : Due) → p ≡ Some v → i ≡ OfWaiter v.0 v.1 → ((x : Due) → o ≡ Some x → v.0 < x.0) → IsChosen o p i

chosen : (o p : Option Due) (i : DueItem) → first_item o p ≡ Some i → IsChosen o p i
chosen None None i e = absurd cc
chosen None (Some v) i e = a_waiter v refl (sym (same_Some (OfWaiter v.0 v.1) i e)) (λ x f. absurd cc)
chosen (Some x) None i e = an_exchange x refl (sym (same_Some (OfExchange x.0 x.1) i e)) (λ v f. absurd cc)
chosen (Some x) (Some v) i e = go (leb x.0 v.0) refl e
  where
    go : (b : Bool) → leb x.0 v.0 ≡ b → cond b (Some (OfExchange x.0 x.1)) (Some (OfWaiter v.0 v.1)) ≡ Some i → IsChosen (Some x) (Some v) i
    go true t f = an_exchange x refl (sym (same_Some (OfExchange x.0 x.1) i f)) (λ u g. subst (λ (z : Due). x.0 ≤ z.0) (same_Some v u g) (leb-true _ _ t))
    go false t f = a_waiter v refl (sym (same_Some (OfWaiter v.0 v.1) i f)) (λ y g. subst (λ (z : Due). v.0 < z.0) (same_Some x y g) (leb-false _ _ t))

-- an item has exactly one moment and one number
exchange_parts : (a b m n : ℕ) → OfExchange a m ≡ OfExchange b n → ◌≡◌ {A = Due} (b, n) (a, m)
exchange_parts a b m n e = let p : a ≡ b = cc in let q : m ≡ n = cc in λ i. (sym p i, sym q i)

waiter_parts : (a b m n : ℕ) → OfWaiter a m ≡ OfWaiter b n → ◌≡◌ {A = Due} (b, n) (a, m)
waiter_parts a b m n e = let p : a ≡ b = cc in let q : m ≡ n = cc in λ i. (sym p i, sym q i)

module _ (w : State) (history : List Action) (c : Bears history w) where
  -- the exchange that is due first is due according to the history
  exchange-first : (d : Due) → exchange_due w ≡ Some d → IsDueAt w.setting history (moves d.1) d.0
  exchange-first d e =
      let f = first_due-holds (λ y. IsExchangeOf w.setting history y × Has y w.exchanges) (due_of w) w.exchanges d (All-there (IsExchangeOf w.setting history) w.exchanges c.exchanges) e in
      subst (λ (n : ℕ). IsDueAt w.setting history (moves n) d.0) f.2 (exchange-due w history c f.0 f.1.1 f.1.0 d.0 f.3)

  waiter-first : (d : Due) → waiter_due w ≡ Some d → IsDueAt w.setting history (serves d.1) d.0
  waiter-first d e =
      let f = first_due-holds (λ u. IsWaiterOf w.setting history u × Has u w.waiters) (due_after w.exchanges) w.waiters d (All-there (IsWaiterOf w.setting history) w.waiters c.waiters) e in
      subst (λ (n : ℕ). IsDueAt w.setting history (serves n) d.0) f.2 (waiter-due w history c f.0 f.1.1 f.1.0 d.0 f.3)

  -- the item that is due first is due according to the history
  pub least-due : (i : DueItem) → item_due w ≡ Some i → IsDueAt w.setting history (act_of i) (ticks.moment_of i)
  least-due i e = go (chosen (exchange_due w) (waiter_due w) i e)
    where
      go : IsChosen (exchange_due w) (waiter_due w) i → IsDueAt w.setting history (act_of i) (ticks.moment_of i)
      go (an_exchange x due is first) = subst (λ (j : DueItem). IsDueAt w.setting history (act_of j) (ticks.moment_of j)) (sym is) (exchange-first x due)
      go (a_waiter v due is first) = subst (λ (j : DueItem). IsDueAt w.setting history (act_of j) (ticks.moment_of j)) (sym is) (waiter-first v due)

  -- the item that is due first of both tables is due first in its table
  pub exchange-turn : (at number : ℕ) → item_due w ≡ Some (OfExchange at number) → exchange_due w ≡ Some (at, number)
  exchange-turn at number e = go (chosen (exchange_due w) (waiter_due w) (OfExchange at number) e)
    where
      go : IsChosen (exchange_due w) (waiter_due w) (OfExchange at number) → exchange_due w ≡ Some (at, number)
      go (an_exchange x due is first) = due ∙ (λ i. Some (exchange_parts at x.0 number x.1 is i))
      go (a_waiter v due is first) = absurd cc

  pub waiter-turn : (at number : ℕ) → item_due w ≡ Some (OfWaiter at number) → waiter_due w ≡ Some (at, number)
  waiter-turn at number e = go (chosen (exchange_due w) (waiter_due w) (OfWaiter at number) e)
    where
      go : IsChosen (exchange_due w) (waiter_due w) (OfWaiter at number) → waiter_due w ≡ Some (at, number)
      go (an_exchange x due is first) = absurd cc
      go (a_waiter v due is first) = due ∙ (λ i. Some (waiter_parts at v.0 number v.1 is i))

  -- no exchange is due before the first of them
  exchange-later : (d : Due) → exchange_due w ≡ Some d → (x : Numbered Exchange) (k : ℕ) → Has x w.exchanges → due_of w x.1 ≡ Some k → NotBefore d (k, x.0)
  exchange-later d e x k there due = Has-holds (IsNotBefore (due_of w) d) w.exchanges x (first_due-least (due_of w) w.exchanges d e) there k due

  waiter-later : (d : Due) → waiter_due w ≡ Some d → (v : Numbered Waiter) (k : ℕ) → Has v w.waiters → due_after w.exchanges v.1 ≡ Some k → NotBefore d (k, v.0)
  waiter-later d e v k there due = Has-holds (IsNotBefore (due_after w.exchanges) d) w.waiters v (first_due-least (due_after w.exchanges) w.waiters d e) there k due

  -- and there is a first one if any is due
  exchange-some : (x : Numbered Exchange) (k : ℕ) → Has x w.exchanges → due_of w x.1 ≡ Some k → (d : Due) × (exchange_due w ≡ Some d)
  exchange-some x k there due = go (exchange_due w) refl
    where
      go : (o : Option Due) → exchange_due w ≡ o → (d : Due) × (exchange_due w ≡ Some d)
      go None e = absurd (let none = Has-holds (λ y. due_of w y.1 ≡ None) w.exchanges x (first_due-none (due_of w) w.exchanges e) there in let f = sym none ∙ due in cc)
      go (Some d) e = (d, e)

  waiter-some : (v : Numbered Waiter) (k : ℕ) → Has v w.waiters → due_after w.exchanges v.1 ≡ Some k → (d : Due) × (waiter_due w ≡ Some d)
  waiter-some v k there due = go (waiter_due w) refl
    where
      go : (o : Option Due) → waiter_due w ≡ o → (d : Due) × (waiter_due w ≡ Some d)
      go None e = absurd (let none = Has-holds (λ y. due_after w.exchanges y.1 ≡ None) w.waiters v (first_due-none (due_after w.exchanges) w.waiters e) there in let f = sym none ∙ due in cc)
      go (Some d) e = (d, e)

  -- nothing is due before what is due first
  pub none-sooner : (i : DueItem) → item_due w ≡ Some i → (a : Act) (m : ℕ) → IsDueAt w.setting history a m → ¬ IsSooner a m (act_of i) (ticks.moment_of i)
  none-sooner i e a m d = go (chosen (exchange_due w) (waiter_due w) i e) (listed w history c a m d)
    where
      exchanges : (x : Due) → exchange_due w ≡ Some x → (y : Numbered Exchange) (k : ℕ) → Has y w.exchanges → due_of w y.1 ≡ Some k → k ≤ m → ¬ IsSooner (moves y.0) m (moves x.1) x.0
      exchanges x due y k there is le sooner =
          let not = exchange-later x due y k there is in
          let later = not.moment in
          let number = not.number in
          ⊎_elim (λ (less : m < x.0). omega (arith, less)) (λ (same : (m ≡ x.0) × ComesBefore (moves y.0) (moves x.1)). let at = same.0 in let lower = same.1 in omega arith) sooner

      clients : (x : Due) → waiter_due w ≡ Some x → (y : Numbered Waiter) (k : ℕ) → Has y w.waiters → due_after w.exchanges y.1 ≡ Some k → k ≤ m → ¬ IsSooner (serves y.0) m (serves x.1) x.0
      clients x due y k there is le sooner =
          let not = waiter-later x due y k there is in
          let later = not.moment in
          let number = not.number in
          ⊎_elim (λ (less : m < x.0). omega (arith, less)) (λ (same : (m ≡ x.0) × ComesBefore (serves y.0) (serves x.1)). let at = same.0 in let lower = same.1 in omega arith) sooner

      waiter-exchange : (x : Due) → ((v : Due) → waiter_due w ≡ Some v → x.0 ≤ v.0) → (y : Numbered Waiter) (k : ℕ) → Has y w.waiters → due_after w.exchanges y.1 ≡ Some k → k ≤ m → ¬ IsSooner (serves y.0) m (moves x.1) x.0
      waiter-exchange x first y k there is le sooner =
          let some = waiter-some y k there is in
          let no_later = first some.0 some.1 in
          let later = (waiter-later some.0 some.1 y k there is).moment in
          ⊎_elim (λ (less : m < x.0). omega (arith, less)) (λ (same : (m ≡ x.0) × ComesBefore (serves y.0) (moves x.1)). same.1) sooner

      exchange-waiter : (v : Due) → ((x : Due) → exchange_due w ≡ Some x → v.0 < x.0) → (y : Numbered Exchange) (k : ℕ) → Has y w.exchanges → due_of w y.1 ≡ Some k → k ≤ m → ¬ IsSooner (moves y.0) m (serves v.1) v.0
      exchange-waiter v first y k there is le sooner =
          let some = exchange-some y k there is in
          let before = first some.0 some.1 in
          let later = (exchange-later some.0 some.1 y k there is).moment in
          ⊎_elim (λ (less : m < v.0). omega (arith, less)) (λ (same : (m ≡ v.0) × ComesBefore (moves y.0) (serves v.1)). let at = same.0 in omega arith) sooner

      go : IsChosen (exchange_due w) (waiter_due w) i → IsListed w a m → ¬ IsSooner a m (act_of i) (ticks.moment_of i)
      go (an_exchange x due is first) (of_exchange y k there act when le) = subst (λ (j : DueItem). ¬ IsSooner a m (act_of j) (ticks.moment_of j)) (sym is) (subst (λ (b : Act). ¬ IsSooner b m (moves x.1) x.0) act (exchanges x due y k there when le))
      go (an_exchange x due is first) (of_waiter y k there act when le) = subst (λ (j : DueItem). ¬ IsSooner a m (act_of j) (ticks.moment_of j)) (sym is) (subst (λ (b : Act). ¬ IsSooner b m (moves x.1) x.0) act (waiter-exchange x first y k there when le))
      go (a_waiter v due is first) (of_exchange y k there act when le) = subst (λ (j : DueItem). ¬ IsSooner a m (act_of j) (ticks.moment_of j)) (sym is) (subst (λ (b : Act). ¬ IsSooner b m (serves v.1) v.0) act (exchange-waiter v first y k there when le))
      go (a_waiter v due is first) (of_waiter y k there act when le) = subst (λ (j : DueItem). ¬ IsSooner a m (act_of j) (ticks.moment_of j)) (sym is) (subst (λ (b : Act). ¬ IsSooner b m (serves v.1) v.0) act (clients v due y k there when le))

  -- if no item is due first, nothing is due
  pub nothing-due : item_due w ≡ None → (a : Act) (m : ℕ) → ¬ IsDueAt w.setting history a m
  nothing-due e a m d = go (listed w history c a m d) (exchange_due w) refl (waiter_due w) refl e
    where
      go : IsListed w a m → (o : Option Due) → exchange_due w ≡ o → (p : Option Due) → waiter_due w ≡ p → first_item o p ≡ None → ⊥
      go (of_exchange y k there act when le) None f p g none = let some = exchange-some y k there when in absurd (let h = sym f ∙ some.1 in cc)
      go (of_waiter y k there act when le) None f None g none = let some = waiter-some y k there when in absurd (let h = sym g ∙ some.1 in cc)
      go l None f (Some v) g none = absurd cc
      go l (Some x) f None g none = absurd cc
      go l (Some x) f (Some v) g none = both (leb x.0 v.0) none
        where
          both : (b : Bool) → cond b (Some (OfExchange x.0 x.1)) (Some (OfWaiter v.0 v.1)) ≡ None → ⊥
          both true h = absurd cc
          both false h = absurd cc

  -- the first item isn't due later than anything
  pub due-no_later : (i : DueItem) → item_due w ≡ Some i → (a : Act) (m : ℕ) → IsDueAt w.setting history a m → ticks.moment_of i ≤ m
  due-no_later i e a m d = go (leb (ticks.moment_of i) m) refl
    where
      go : (b : Bool) → leb (ticks.moment_of i) m ≡ b → ticks.moment_of i ≤ m
      go true t = leb-true _ _ t
      go false t = absurd (none-sooner i e a m d (inl (leb-false _ _ t)))

  -- the item that is done at a moment is the one that is due first, and its moment has come
  pub turn-is : (now : ℕ) (i : DueItem) → if_due now (item_due w) ≡ Some i → (item_due w ≡ Some i) × (ticks.moment_of i ≤ now)
  turn-is now i e = go (item_due w) refl e
    where
      test : (j : DueItem) (b : Bool) → leb (ticks.moment_of j) now ≡ b → cond b (Some j) None ≡ Some i → (j ≡ i) × (ticks.moment_of i ≤ now)
      test j true t f = let same : j ≡ i = same_Some j i f in (same, subst (λ (k : DueItem). ticks.moment_of k ≤ now) same (leb-true _ _ t))
      test j false t f = absurd cc

      go : (o : Option DueItem) → item_due w ≡ o → if_due now o ≡ Some i → (item_due w ≡ Some i) × (ticks.moment_of i ≤ now)
      go None is f = absurd cc
      go (Some j) is f = let h = test j (leb (ticks.moment_of j) now) refl f in (is ∙ ap (λ (k : DueItem). Some k) h.0, h.1)

  -- a tick that acts on an item does what is due first
  abbrev pub acting : (now : ℕ) (i : DueItem) → if_due now (item_due w) ≡ Some i → (d : Action) → d.act ≡ act_of i → d.observation.event ≡ tick → d.observation.now ≡ now → IsActing w.setting history d
  acting now i due d act ticked moment =
      let first = turn-is now i due in
      record {
        ticked = ticked;
        at = ticks.moment_of i;
        due = subst (λ (a : Act). IsDueAt w.setting history a (ticks.moment_of i)) (sym act) (least-due i first.0);
        come = let le = first.1 in omega (arith, le, moment);
        first = λ a m e sooner. none-sooner i first.0 a m e (subst (λ (b : Act). IsSooner a m b (ticks.moment_of i)) act sooner);
      }

  -- if nothing is due yet according to the tables, nothing is due according to the history
  pub idling-due : (now : ℕ) → if_due now (item_due w) ≡ None → (a : Act) (m : ℕ) → IsDueAt w.setting history a m → now < m
  idling-due now nothing a m d = go (item_due w) refl nothing
    where
      later : (i : DueItem) (b : Bool) → leb (ticks.moment_of i) now ≡ b → cond b (Some i) None ≡ None → now < ticks.moment_of i
      later i true t f = absurd cc
      later i false t f = leb-false _ _ t

      go : (o : Option DueItem) → item_due w ≡ o → if_due now o ≡ None → now < m
      go None is f = absurd (nothing-due is a m d)
      go (Some i) is f = let lt = later i (leb (ticks.moment_of i) now) refl f in let le = due-no_later i is a m d in omega (arith, lt, le)

  -- the next moment is the least at which something is due
  pub next-is : (at : ℕ) → next_due w ≡ Some at → IsNextDue w.setting history at
  next-is at e = go (item_due w) refl e
    where
      go : (o : Option DueItem) → item_due w ≡ o → option_map ticks.moment_of o ≡ Some at → IsNextDue w.setting history at
      go None is f = absurd cc
      go (Some i) is f =
          let same : ticks.moment_of i ≡ at = same_Some (ticks.moment_of i) at f in
          record {
            act = act_of i;
            due = subst (λ (n : ℕ). IsDueAt w.setting history (act_of i) n) same (least-due i is);
            least = λ a m d. subst (λ (n : ℕ). n ≤ m) same (due-no_later i is a m d);
          }

  -- if no tick is needed, nothing is due
  pub no-next : next_due w ≡ None → (a : Act) (m : ℕ) → ¬ IsDueAt w.setting history a m
  no-next e a m d = go (item_due w) refl e
    where
      go : (o : Option DueItem) → item_due w ≡ o → option_map ticks.moment_of o ≡ None → ⊥
      go None is f = nothing-due is a m d
      go (Some i) is f = absurd cc

-- the moment at which something is due first is unique
pub one-next : (setting : Setting) (past : List Action) (a b : ℕ) → IsNextDue setting past a → IsNextDue setting past b → a ≡ b
one-next setting past a b p q = let below = p.least q.act b q.due in let above = q.least p.act a p.due in omega (arith, below, above)
