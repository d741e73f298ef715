-- What a tick finds due, and what is so of the exchange that it is about.
use Rattle.std.proofs.Common.{◌≡◌, ℕ, ◌+◌, ◌-◌, ◌<◌, ◌≤◌, Bool, true, false, cond, eqb, leb, List, [], ◌∷◌, Option, Some, None, refl, sym, ap, ◌∙◌, subst, arith}
use Rattle.std.specs.Prelude.{not, nat_le}
use Rattle.std.specs.List.{AllByRecursion}
use Rattle.std.proofs.lemmas.Bool.{eqb-true, eqb-false, eq-eqb, ne_eqb, leb-true, leb-false, le-leb}
use Rattle.std.proofs.lemmas.Option.{same_Some}
use Rattle.coap_pending.specs.declared.exchange.Exchange.{Exchange}
use Rattle.coap_pending.specs.declared.exchange.ExchangeState.{ExchangeState}
use Rattle.coap_pending.specs.declared.exchange.ExchangeState.TheVariants.{Queued, Sent, Acked, Done}
use Rattle.coap_pending.specs.declared.exchange.Sending.{Sending}
use Rattle.coap_pending.specs.declared.timer.Fire.TheVariants.{Again, GiveUp}
use Rattle.coap_pending.specs.declared.timer.Timer.{Timer}
use Rattle.coap_pending.specs.Due.{first_due}
use Rattle.coap_pending.specs.Exchanges.{sent, answer_in_state, is_missing, is_done, deadline, due_in, due_among, timer_or, is_blocked, fire_of_sending, fired_option, fired_exchange, HasEnded, IsDue}
use Rattle.coap_pending.specs.Ids.{called}
use Rattle.coap_pending.specs.Table.{Numbered, IsRising, item_at, changed_at}
use Rattle.coap_pending.specs.Timers.{started, goes_on, sent_again}
use Rattle.coap_pending.specs.Waiters.{due_after}
use Rattle.coap_pending.proofs.Changes.{changed_at-below}
use Rattle.coap_model.specs.declared.deed.Silence.TheVariants.{NotAcknowledged}
use Rattle.coap_model.specs.declared.due.DueItem.{DueItem}
use Rattle.coap_model.specs.declared.due.DueItem.TheVariants.{OfExchange, OfWaiter}
use Rattle.coap_model.specs.State.{State, later, next_id}
use Rattle.coap_model.specs.Ticks.{exchange_due, waiter_due, first_item, item_due, if_due, sends, resends, gives_up, on_request_timeout, on_item, on_tick}
use Rattle.coap_model.proofs.FirstDue.{first_due-holds}
use Rattle.coap_core.specs.Dues.{HasCome, IsWaiterDue, IsExchangeDue, exchange_at, waiter_at, sending_at, request_timeout_at, form_at}
use Rattle.coap_core.specs.Needs.{IsFound}
use Rattle.coap_core.specs.declared.timing.Timing.{Timing}

-- ---- items of a table

-- each item is found under its number
items-found : {A : Type 0} (least : ℕ) (xs : List (Numbered A)) → IsRising least xs → AllByRecursion (λ x. item_at x.0 xs ≡ Some x.1) xs
items-found {A} least [] r = tt
items-found {A} least (x ∷ xs) r =
    let here : eqb x.0 x.0 ≡ true = eq-eqb x.0 x.0 refl in
    (rw here refl, behind x.0 xs r.1 (items-found x.0 xs r.1) (omega arith))
  where
    behind : (low : ℕ) (ys : List (Numbered A)) → IsRising low ys → AllByRecursion (λ y. item_at y.0 xs ≡ Some y.1) ys → x.0 ≤ low → AllByRecursion (λ y. item_at y.0 (x ∷ xs) ≡ Some y.1) ys
    behind low [] rising all le = tt
    behind low (y ∷ ys) rising all le =
        let other : eqb y.0 x.0 ≡ false = ne_eqb y.0 x.0 (λ e. let above = rising.0 in omega arith) in
        (rw other all.0, behind y.0 ys rising.1 all.1 (omega (arith, rising.0)))

module _ {A : Type 0} (n : ℕ) (f : A → A) where
  -- the item of a number that is changed is found changed
  pub changed-found : (xs : List (Numbered A)) (x : A) → item_at n xs ≡ Some x → item_at n (changed_at n f xs) ≡ Some (f x)
  changed-found [] x e = absurd cc
  changed-found (y ∷ ys) x e = go (eqb y.0 n) refl (λ g. changed-found ys x g)
    where
      go : (b : Bool) → eqb y.0 n ≡ b → (item_at n ys ≡ Some x → item_at n (changed_at n f ys) ≡ Some (f x)) → item_at n (cond b (y.0, f y.1) y ∷ changed_at n f ys) ≡ Some (f x)
      go true t rest =
          let turned : eqb n y.0 ≡ true = eq-eqb n y.0 (sym (eqb-true y.0 n t)) in
          let found : Some y.1 ≡ Some x = rw turned at e in
          rw turned (ap (λ (a : A). Some (f a)) (same_Some y.1 x found))
      go false t rest =
          let turned : eqb n y.0 ≡ false = ne_eqb n y.0 (λ g. eqb-false y.0 n t (sym g)) in
          let found : item_at n ys ≡ Some x = rw turned at e in
          rw turned (rest found)

  -- where it stays the same, so does the table
  pub changed-same : (least : ℕ) (xs : List (Numbered A)) (x : A) → IsRising least xs → item_at n xs ≡ Some x → f x ≡ x → changed_at n f xs ≡ xs
  changed-same least [] x r e same = absurd cc
  changed-same least (y ∷ ys) x r e same = go (eqb y.0 n) refl (λ g. changed-same y.0 ys x r.1 g same)
    where
      go : (b : Bool) → eqb y.0 n ≡ b → (item_at n ys ≡ Some x → changed_at n f ys ≡ ys) → cond b (y.0, f y.1) y ∷ changed_at n f ys ≡ y ∷ ys
      go true t rest =
          let number : y.0 ≡ n = eqb-true y.0 n t in
          let turned : eqb n y.0 ≡ true = eq-eqb n y.0 (sym number) in
          let found : Some y.1 ≡ Some x = rw turned at e in
          let stays : f y.1 ≡ y.1 = subst (λ (a : A). f a ≡ a) (sym (same_Some y.1 x found)) same in
          rw (changed_at-below n f y.0 ys (omega arith) r.1) (ap (λ (a : A). (y.0, a) ∷ ys) stays)
      go false t rest =
          let turned : eqb n y.0 ≡ false = ne_eqb n y.0 (λ g. eqb-false y.0 n t (sym g)) in
          let found : item_at n ys ≡ Some x = rw turned at e in
          ap (λ (l : List (Numbered A)). y ∷ l) (rest found)

-- ---- what is due first

one-first : (x : ℕ × ℕ) (at number : ℕ) → Some (OfExchange x.0 x.1) ≡ Some (OfExchange at number) → Some x ≡ Some (at, number)
one-first x at number e = let p : x.0 ≡ at = cc in let q : x.1 ≡ number = cc in λ i. Some (p i, q i)

-- it is an exchange: that is what is due first of the exchanges
exchange-first : (a b : Option (ℕ × ℕ)) (at number : ℕ) → first_item a b ≡ Some (OfExchange at number) → a ≡ Some (at, number)
exchange-first None None at number e = absurd cc
exchange-first None (Some v) at number e = absurd cc
exchange-first (Some x) None at number e = one-first x at number e
exchange-first (Some x) (Some v) at number e = go (nat_le x.0 v.0) e
  where
    go : (b : Bool) → cond b (Some (OfExchange x.0 x.1)) (Some (OfWaiter v.0 v.1)) ≡ Some (OfExchange at number) → Some x ≡ Some (at, number)
    go true f = one-first x at number f
    go false f = absurd cc

second-first : (v : ℕ × ℕ) (at number : ℕ) → Some (OfWaiter v.0 v.1) ≡ Some (OfWaiter at number) → Some v ≡ Some (at, number)
second-first v at number e = let p : v.0 ≡ at = cc in let q : v.1 ≡ number = cc in λ i. Some (p i, q i)

-- it is a client: that is what is due first of the clients
waiter-first : (a b : Option (ℕ × ℕ)) (at number : ℕ) → first_item a b ≡ Some (OfWaiter at number) → b ≡ Some (at, number)
waiter-first None None at number e = absurd cc
waiter-first None (Some v) at number e = second-first v at number e
waiter-first (Some x) None at number e = absurd cc
waiter-first (Some x) (Some v) at number e = go (nat_le x.0 v.0) e
  where
    go : (b : Bool) → cond b (Some (OfExchange x.0 x.1)) (Some (OfWaiter v.0 v.1)) ≡ Some (OfWaiter at number) → Some v ≡ Some (at, number)
    go true f = absurd cc
    go false f = second-first v at number f

module _ (w : State) (t : Timing) where
  -- an exchange is due
  pub of-exchange : (at number : ℕ) → Some (OfExchange at number) ≡ item_due w → at ≤ t.now → on_tick w t.now t.draw ≡ exchange_at w t number
  of-exchange at number e le =
      let due : leb at t.now ≡ true = le-leb _ _ le in
      ap (λ (o : Option DueItem). on_item w t.now t.draw (if_due t.now o)) (sym e) ∙ rw due refl

  -- a client is due
  pub of-waiter : (at number : ℕ) → Some (OfWaiter at number) ≡ item_due w → at ≤ t.now → on_tick w t.now t.draw ≡ waiter_at w t number
  of-waiter at number e le =
      let due : leb at t.now ≡ true = le-leb _ _ le in
      ap (λ (o : Option DueItem). on_item w t.now t.draw (if_due t.now o)) (sym e) ∙ rw due refl

-- the item of a table that is due first is due
first-due-at : {A : Type 0} (due : A → Option ℕ) (items : List (Numbered A)) (now at number : ℕ) → IsRising 0 items → first_due due items ≡ Some (at, number) → at ≤ now → IsFound (λ (a : A). HasCome (due a) now) number items
first-due-at {A} due items now at number rising first le =
    let found = first_due-holds (λ (x : Numbered A). item_at x.0 items ≡ Some x.1) due items (at, number) (items-found 0 items rising) first in
    let a = found.0.1 in
    let here : item_at number items ≡ Some a = subst (λ (n : ℕ). item_at n items ≡ Some a) found.2 found.1 in
    record { item = a; found = here; holds = record { at = at; due = found.3; past = le } }

-- so is the exchange that is due first
pub due-at : (w : State) (now at number : ℕ) → IsRising 0 w.exchanges → Some (OfExchange at number) ≡ item_due w → at ≤ now → IsFound (λ x. IsExchangeDue w now x) number w.exchanges
due-at w now at number rising e le =
    first-due-at (due_among w.setting.limits.nstart w.setting.limits.exchange_ms w.exchanges) w.exchanges now at number rising (exchange-first (exchange_due w) (waiter_due w) at number (sym e)) le

-- and the client
pub client-due-at : (w : State) (now at number : ℕ) → IsRising 0 w.waiters → Some (OfWaiter at number) ≡ item_due w → at ≤ now → IsFound (λ v. IsWaiterDue w now v) number w.waiters
client-due-at w now at number rising e le =
    first-due-at (due_after w.exchanges) w.waiters now at number rising (waiter-first (exchange_due w) (waiter_due w) at number (sym e)) le

-- ---- an exchange that is due

-- where it isn't late by the time that passed, its deadline hasn't come
pub late-is : (a ms now : ℕ) → 0 < ms → nat_le ms (now - a) ≡ nat_le (a + ms) now
late-is a ms now some = go (leb ms (now - a)) refl (leb (a + ms) now) refl
  where
    go : (b : Bool) → leb ms (now - a) ≡ b → (d : Bool) → leb (a + ms) now ≡ d → b ≡ d
    go true e true f = refl
    go true e false f = absurd (let p = leb-true _ _ e in let q = leb-false _ _ f in omega arith)
    go false e true f = absurd (let p = leb-false _ _ e in let q = leb-true _ _ f in omega arith)
    go false e false f = refl

module _ (w : State) (now : ℕ) (x : Exchange) (due : IsExchangeDue w now x) where
  abbrev ms : ℕ
  ms = w.setting.limits.exchange_ms

  -- its answer hasn't come
  pub is-open : is_done x ≡ false
  is-open = go x.state due.due
    where
      go : (s : ExchangeState) → due_in s (is_blocked w.setting.limits.nstart w.exchanges x) ms x ≡ Some due.at → not (is_missing (answer_in_state s)) ≡ false
      go Queued e = refl
      go Sent e = refl
      go Acked e = refl
      go (Done a) e = absurd cc

  -- where it was sent, and its deadline hasn't come, the timeout has ended
  pub has-ended : x.state ≡ Sent → nat_le (deadline ms x) now ≡ false → IsDue now x
  has-ended sent early = (rw sent refl, go x.sending (same_Some _ _ (subst (λ (s : ExchangeState). due_in s (is_blocked w.setting.limits.nstart w.exchanges x) ms x ≡ Some due.at) sent due.due)))
    where
      go : (o : Option Sending) → timer_or (deadline ms x) o ≡ due.at → HasEnded now o
      go None e = absurd (let p = leb-false _ _ early in let q = due.past in omega arith)
      go (Some s) e = let p = leb-false _ _ early in let q = due.past in omega arith

-- ---- timers

-- a timer that doesn't go on stays as it is
pub fired-same : (now : ℕ) (x : Exchange) → GiveUp ≡ fire_of_sending now x.sending → fired_exchange now x ≡ x
fired-same now x e = let p = sending x.sending e in λ i. record x { sending = p i }
  where
    timer : (t : Timer) (b : Bool) → GiveUp ≡ cond b Again GiveUp → cond b (sent_again now t) t ≡ t
    timer t true f = absurd cc
    timer t false f = refl

    sending : (o : Option Sending) → GiveUp ≡ fire_of_sending now o → fired_option now o ≡ o
    sending None f = refl
    sending (Some s) f = ap (λ (t : Timer). Some (record s { timer = t })) (timer s.timer (goes_on now s.timer) f)

-- ---- the step of what is due, by how far it has come

module _ (w : State) (t : Timing) (number : ℕ) (x : Exchange) (found : item_at number w.exchanges ≡ Some x) where
  pub queued-step : nat_le (deadline w.setting.limits.exchange_ms x) t.now ≡ false → x.state ≡ Queued → exchange_at w t number ≡ sending_at w t number
  queued-step early state = rw (found, early, state) refl

  pub sent-step : nat_le (deadline w.setting.limits.exchange_ms x) t.now ≡ false → x.state ≡ Sent → exchange_at w t number ≡ request_timeout_at w t.now number
  sent-step early state = rw (found, early, state) refl

-- ---- the bytes that are sent

-- the form of a request that was sent is what the step sends
pub sent-form : (w : State) (t : Timing) (number : ℕ) (s : Sending) (x : Exchange) → item_at number w.exchanges ≡ Some x → s.id ≡ next_id w → form_at number (changed_at number (sent s) w.exchanges) ≡ (sending_at w t number).bytes
sent-form w t number s x found id = rw (changed-found number (sent s) w.exchanges x found, found, id) refl

-- ---- what is done where a timeout has ended

-- the request is sent again
pub again-step : (w : State) (now number : ℕ) (x : Exchange) → item_at number w.exchanges ≡ Some x → Again ≡ fire_of_sending now x.sending → request_timeout_at w now number ≡ resends w now number x
again-step w now number x found again = rw found (ap (on_request_timeout w now number x) (sym again))

-- it is given up
pub over-step : (w : State) (now number : ℕ) (x : Exchange) → item_at number w.exchanges ≡ Some x → GiveUp ≡ fire_of_sending now x.sending → request_timeout_at w now number ≡ gives_up w now number NotAcknowledged
over-step w now number x found over = rw found (ap (on_request_timeout w now number x) (sym over))

-- ---- the tables after a request was sent

pub sent-state : (w v : State) (now draw number : ℕ) (s : Sending) (x : Exchange) → item_at number w.exchanges ≡ Some x → v ≡ record w { ids = called now w.ids } → s ≡ record { asked = w.events; id = next_id w; timer = started now draw }
    → later (record v { exchanges = changed_at number (sent s) v.exchanges }) now ≡ (sends w now draw number x).state
sent-state w v now draw number s x found vs ss = rw (vs, ss) refl
