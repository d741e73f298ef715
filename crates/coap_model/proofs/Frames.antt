-- What stays as the history grows by an observation.
use Rattle.std.proofs.Common.{◌≡◌, ◌≢◌, ⊎_elim, inr, ℕ, ◌+◌, ◌<◌, ◌≤◌, Bool, true, false, cond, List, [], ◌∷◌, length, Option, Some, None, refl, sym, ap, ◌∙◌, subst, arith}
use Rattle.std.specs.Prelude.{◌&&◌, ◌||◌, map}
use Rattle.coap_endpoint.specs.declared.target.Target.{Target}
use Rattle.coap_endpoint.specs.Equality.{same_target}
use Rattle.coap_pending.specs.Exchanges.{is_sent_state, is_acked_state, tainted_by}
use Rattle.coap_pending.specs.Table.{all_changed, Numbered}
use Rattle.coap_forward.specs.Changes.{changed_by, concerns}
use Rattle.coap_model.specs.Answers.{tainted_all}
use Rattle.coap_model.specs.Changed.{key_asked, IsTold}
use Rattle.coap_model.proofs.MarksAndTaints.{told-stays, told-on}
use Rattle.std.specs.List.{AllByRecursion}
use Rattle.std.proofs.lemmas.Bool.{eqb-true, eq-eqb}
use Rattle.coap_endpoint.proofs.Lists.{All-weaken}
use Rattle.coap_store.specs.declared.key.CacheKey.{CacheKey}
use Rattle.coap_pending.specs.declared.exchange.ExchangeState.{ExchangeState}
use Rattle.coap_pending.specs.declared.exchange.ExchangeState.TheVariants.{Queued, Sent, Acked, Done}
use Rattle.coap_pending.specs.declared.exchange.Exchange.{Exchange}
use Rattle.coap_pending.specs.declared.exchange.Sending.{Sending}
use Rattle.coap_pending.specs.declared.waiter.Waiter.{Waiter}
use Rattle.coap_pending.specs.declared.waiter.WaiterState.{WaiterState}
use Rattle.coap_pending.specs.declared.waiter.WaiterState.TheVariants.{Waiting, Delivering}
use Rattle.coap_model.specs.declared.report.Outcome.{Outcome}
use Rattle.coap_model.specs.declared.report.Outcome.TheVariants.{Opened}
use Rattle.coap_model.specs.Setting.{Setting}
use Rattle.coap_model.specs.State.{State}
use Rattle.coap_model.specs.History.{Act, no_item, admits, moves, serves, Action, Position, IsPositionOf, Somewhere, opens_one, admits_one, accepts_answer, Gets, opened_in, admitted_in, Opens, Admits}
use Rattle.coap_model.specs.Schedules.{same_act, is_sending, sends_for, sends_by, IsSchedule}
use Rattle.coap_model.specs.Carries.{Clock, Numbers, IsTimer, AreOfBytes, WasAsked, WasSent, IsInFlight, IsState, IsExchangeOf, IsWaiterIn, IsWaiterOf, AreUnused, AreSchedules}
use Rattle.coap_model.proofs.Positions.{here, index_below, opened-later, admitted-later}

-- ---- the clock and the numbers

-- the clock advances by an observation
pub clock_frame : {history : List Action} {w v : State} {e : Action} → Clock history w → w.last ≤ e.observation.now → v.events ≡ w.events + 1 → v.last ≡ e.observation.now → Clock (e ∷ history) v
clock_frame c onward events last = record { events = let h = c.events in omega arith; last = last; in_order = (let h = c.last in omega arith, c.in_order) }

-- the numbers count what an observation does
pub numbers_frame : {history : List Action} {w v : State} {e : Action} → Numbers history w → v.opened ≡ w.opened + opens_one e.observation.report.outcome → v.admitted ≡ w.admitted + admits_one e.observation.report.outcome → Numbers (e ∷ history) v
numbers_frame n opened admitted = record { opened = let h = n.opened in omega arith; admitted = let h = n.admitted in omega arith }

-- no more exchanges were opened than there are actions
pub opened-few : (history : List Action) → opened_in history ≤ length history
opened-few [] = omega arith
opened-few (e ∷ past) = let i = opened-few past in let one = at_most_one e.observation.report.outcome in omega arith
  where
    at_most_one : (o : Outcome) → opens_one o ≤ 1
    at_most_one Opened = omega arith
    at_most_one _ = omega arith

-- and no more waiters were admitted
pub admitted-few : (history : List Action) → admitted_in history ≤ length history
admitted-few [] = omega arith
admitted-few (e ∷ past) = let i = admitted-few past in let one = at_most_one e.observation.report.outcome in omega arith
  where
    at_most_one : (o : Outcome) → admits_one o ≤ 1
    at_most_one Opened = omega arith
    at_most_one _ = omega arith

-- ---- acts

-- an act is the same only as itself
pub same_act-true : (a b : Act) → same_act a b ≡ true → a ≡ b
same_act-true (moves x) (moves y) e = ap moves (eqb-true x y e)
same_act-true (serves v) (serves u) e = ap serves (eqb-true v u e)
same_act-true (moves x) no_item e = absurd cc
same_act-true (moves x) (admits v y) e = absurd cc
same_act-true (moves x) (serves v) e = absurd cc
same_act-true (serves v) no_item e = absurd cc
same_act-true (serves v) (admits u y) e = absurd cc
same_act-true (serves v) (moves y) e = absurd cc
same_act-true no_item b e = absurd cc
same_act-true (admits v x) b e = absurd cc

-- an act on an exchange is the same as itself
pub same_act-self : (x : ℕ) → same_act (moves x) (moves x) ≡ true
same_act-self x = eq-eqb x x refl

-- and so is one on a waiter
pub same_act-waiter : (v : ℕ) → same_act (serves v) (serves v) ≡ true
same_act-waiter v = eq-eqb v v refl

-- an observation with another act sends nothing for this act
not-for : (a : Act) (d : Action) → d.act ≢ a → sends_for a d ≡ false
not-for a d other = go (same_act a d.act) refl
  where
    go : (b : Bool) → same_act a d.act ≡ b → (b && is_sending d.observation.report.outcome) ≡ false
    go true t = absurd (other (sym (same_act-true a d.act t)))
    go false t = refl

-- so the transmissions stay the same
pub sends-stay : (a : Act) (history : List Action) (d : Action) → d.act ≢ a → sends_by a (d ∷ history) ≡ sends_by a history
sends-stay a history d other = rw (not-for a d other) refl

-- as they do if nothing is sent
pub sends-quiet : (a : Act) (history : List Action) (d : Action) → is_sending d.observation.report.outcome ≡ false → sends_by a (d ∷ history) ≡ sends_by a history
sends-quiet a history d quiet = let none : sends_for a d ≡ false = go (same_act a d.act) in rw none refl
  where
    go : (b : Bool) → (b && is_sending d.observation.report.outcome) ≡ false
    go true = quiet
    go false = refl

-- and they grow if the observation has this act and sends something
pub sends-grow : (a : Act) (history : List Action) (d : Action) → same_act a d.act ≡ true → is_sending d.observation.report.outcome ≡ true → sends_by a (d ∷ history) ≡ d.observation ∷ sends_by a history
sends-grow a history d same sending = let one : sends_for a d ≡ true = rw (same, sending) refl in rw one refl

-- ---- exchanges

-- a request that was sent stays so at an observation that sends nothing for it
abbrev pub asked_frame : {setting : Setting} {history : List Action} {x : ℕ} {key : CacheKey} {form : List ℕ} {s : Sending} (e : Action) → sends_by (moves x) (e ∷ history) ≡ sends_by (moves x) history → WasAsked setting history x key form s → WasAsked setting (e ∷ history) x key form s
asked_frame {key = key} {form = form} {s = s} e same a =
    record {
      asking = a.asking;
      was_asked = inr a.was_asked;
      asks = a.asks;
      asked_key = a.asked_key;
      to = a.to;
      id_is = a.id_is;
      number = a.number;
      timer = subst (IsTimer s.timer) (sym same) a.timer;
      bytes = subst (AreOfBytes key.target.at form) (sym same) a.bytes;
    }

-- so does an exchange whose request was sent, or never was
pub sent_frame : (setting : Setting) (history : List Action) (x : ℕ) (key : CacheKey) (form : List ℕ) (o : Option Sending) (e : Action) → sends_by (moves x) (e ∷ history) ≡ sends_by (moves x) history → WasSent setting history x key form o → WasSent setting (e ∷ history) x key form o
sent_frame setting history x key form None e same a = tt
sent_frame setting history x key form (Some s) e same a = asked_frame e same a

-- what a change does to an exchange: one in flight is tainted, if its target is changed
abbrev pub is_flying : ExchangeState → Bool
is_flying s = is_sent_state s || is_acked_state s

-- an exchange with a taint
abbrev pub with_taint : Bool → Numbered Exchange → Numbered Exchange
with_taint b x = (x.0, record x.1 { tainted = b })

-- what is known of a taint after an observation: if the exchange is in flight, it says whether the
-- target was changed, and otherwise it stays as before
pub record IsTaint (setting : Setting) (history : List Action) (e : Action) (x : Numbered Exchange) (b : Bool) : Type 0 where
  pub flying : is_flying x.1.state ≡ true → (since : Position) → IsPositionOf history since → IsTold x.1.tainted setting x.1.key.target since history → IsTold b setting x.1.key.target since (e ∷ history)
  pub resting : is_flying x.1.state ≡ false → b ≡ x.1.tainted

-- an exchange in flight stays so at an observation that acts on another one
flight_frame : (setting : Setting) (history : List Action) (e : Action) (x : Numbered Exchange) (b : Bool) → e.act ≢ moves x.0 → is_flying x.1.state ≡ true → IsTaint setting history e x b → IsInFlight setting history x → IsInFlight setting (e ∷ history) (with_taint b x)
flight_frame setting history e x b other flying taint s =
    record {
      sending = s.sending;
      sending_is = s.sending_is;
      asked = asked_frame e (sends-stay (moves x.0) history e other) s.asked;
      method = s.method;
      former = s.former;
      was_cache = s.was_cache;
      copy_is = s.copy_is;
      told = taint.flying flying s.asked.asking s.asked.was_asked s.told;
      unended = ((λ h. other h.act), s.unended);
    }

-- its state stays right at an observation that acts on another one
state_frame : (setting : Setting) (history : List Action) (e : Action) (x : Numbered Exchange) (b : Bool) (s : ExchangeState) → x.1.state ≡ s → e.act ≢ moves x.0 → IsTaint setting history e x b → IsState setting history x s → IsState setting (e ∷ history) (with_taint b x) s
state_frame setting history e x b Queued is other taint s =
    record {
      unsent = s.unsent;
      untainted = taint.resting (ap is_flying is) ∙ s.untainted;
      never_sent = ((λ h. other h.act), s.never_sent);
      no_sends = sends-stay (moves x.0) history e other ∙ s.no_sends;
      unended = ((λ h. other h.act), s.unended);
    }
state_frame setting history e x b Sent is other taint s = flight_frame setting history e x b other (ap is_flying is) taint s
state_frame setting history e x b Acked is other taint s = flight_frame setting history e x b other (ap is_flying is) taint s
state_frame setting history e x b (Done answer) is other taint s =
    record {
      ending = s.ending;
      was_ended = inr s.was_ended;
      ends = s.ends;
      with = s.with;
      got = s.got;
      was_sent = sent_frame setting history x.0 x.1.key x.1.form x.1.sending e (sends-stay (moves x.0) history e other) s.was_sent;
    }

-- an exchange stays right at an observation that acts on another one
pub exchange_tainted : (setting : Setting) (history : List Action) (e : Action) (x : Numbered Exchange) (b : Bool) → e.act ≢ moves x.0 → IsTaint setting history e x b → IsExchangeOf setting history x → IsExchangeOf setting (e ∷ history) (with_taint b x)
exchange_tainted setting history e x b other taint f =
    record {
      opened = opened-later e f.opened;
      client_is = f.client_is;
      admitted = f.admitted;
      verdict = f.verdict;
      method = f.method;
      former = f.former;
      was_cache = f.was_cache;
      form_is = f.form_is;
      form_short = f.form_short;
      copy_is = f.copy_is;
      state = state_frame setting history e x b x.1.state refl other taint f.state;
    }

-- so it stays right without a taint if no answer is accepted
pub exchange_frame : (setting : Setting) (history : List Action) (e : Action) (x : Numbered Exchange) → accepts_answer e.observation.report.outcome ≡ false → e.act ≢ moves x.0 → IsExchangeOf setting history x → IsExchangeOf setting (e ∷ history) x
exchange_frame setting history e x none other f =
    exchange_tainted setting history e x x.1.tainted other (record { flying = λ flying since at told. told-stays x.1.tainted setting x.1.key.target since history e none told; resting = λ resting. refl }) f

-- all exchanges stay right at an observation that accepts no answer and acts on none of them
pub exchanges_frame : (setting : Setting) (history : List Action) (e : Action) (xs : List (Numbered Exchange)) → accepts_answer e.observation.report.outcome ≡ false → ((x : ℕ) → e.act ≢ moves x)
    → AllByRecursion (IsExchangeOf setting history) xs → AllByRecursion (IsExchangeOf setting (e ∷ history)) xs
exchanges_frame setting history e xs none other all =
    All-weaken (IsExchangeOf setting history) (IsExchangeOf setting (e ∷ history)) xs (λ x f. exchange_frame setting history e x none (other x.0) f) all

-- ---- changes

-- an exchange after an answer that changes these targets
abbrev pub tainted_here : List Target → Numbered Exchange → Numbered Exchange
tainted_here changed x = with_taint (x.1.tainted || (is_flying x.1.state && concerns changed x.1.key.target)) x

-- another exchange is tainted exactly if its target was changed
pub exchange_changed : {setting : Setting} {n : ℕ} (history : List Action) (e : Action) (x : Numbered Exchange) (gets : Gets setting n (here history e)) → e.act ≢ moves x.0 → IsExchangeOf setting history x → IsExchangeOf setting (e ∷ history) (tainted_here (changed_by (key_asked gets).target gets.meets.message) x)
exchange_changed {setting} history e x gets other f =
    exchange_tainted setting history e x _ other (
    record {
      flying = λ flying since at told.
          subst (λ (b : Bool). IsTold (x.1.tainted || (b && concerns changed x.1.key.target)) setting x.1.key.target since (e ∷ history)) (sym flying)
          (told-on x.1.tainted x.1.key.target since gets (index_below history since at) told);
      resting = λ resting. still (is_flying x.1.state) x.1.tainted resting;
    }
    ) f
  where
    changed : List Target
    changed = changed_by (key_asked gets).target gets.meets.message

    still : (b t : Bool) → b ≡ false → (t || (b && concerns changed x.1.key.target)) ≡ t
    still true t e = absurd cc
    still false true e = refl
    still false false e = refl

-- one change after the other taints it the same
tainted-one : (t : Target) (changed : List Target) (x : Numbered Exchange) → tainted_here changed (x.0, tainted_by t x.1) ≡ tainted_here (t ∷ changed) x
tainted-one t changed x = go (is_flying x.1.state) refl (same_target x.1.key.target t)
  where
    or-true : (m : Bool) → true ≡ (m || true)
    or-true true = refl
    or-true false = refl

    go : (f : Bool) → is_flying x.1.state ≡ f → (b : Bool) → tainted_here changed (x.0, cond (f && b) (record x.1 { tainted = true }) x.1) ≡ with_taint (x.1.tainted || (f && (b || concerns changed x.1.key.target))) x
    go true is true = ap (λ (m : Bool). with_taint m x) (or-true x.1.tainted)
    go true is false = ap (λ (f : Bool). with_taint (x.1.tainted || (f && concerns changed x.1.key.target)) x) is
    go false is b = ap (λ (f : Bool). with_taint (x.1.tainted || (f && concerns changed x.1.key.target)) x) is

-- so all are tainted
pub tainted-all : (changed : List Target) (xs : List (Numbered Exchange)) → tainted_all changed xs ≡ map (tainted_here changed) xs
tainted-all [] xs = sym (plain xs)
  where
    none : (f m : Bool) → (m || (f && false)) ≡ m
    none true true = refl
    none true false = refl
    none false true = refl
    none false false = refl

    plain : (ys : List (Numbered Exchange)) → map (tainted_here []) ys ≡ ys
    plain [] = refl
    plain (y ∷ ys) = λ i. (y.0, record y.1 { tainted = none (is_flying y.1.state) y.1.tainted i }) ∷ plain ys i
tainted-all (t ∷ changed) xs = tainted-all changed (all_changed (tainted_by t) xs) ∙ both xs
  where
    both : (ys : List (Numbered Exchange)) → map (tainted_here changed) (all_changed (tainted_by t) ys) ≡ map (tainted_here (t ∷ changed)) ys
    both [] = refl
    both (y ∷ ys) = λ i. tainted-one t changed y i ∷ both ys i

-- ---- waiters

-- a waiter stays right at an observation that doesn't serve it
pub waiter_frame : (setting : Setting) (history : List Action) (e : Action) (v : Numbered Waiter) → e.act ≢ serves v.0 → IsWaiterOf setting history v → IsWaiterOf setting (e ∷ history) v
waiter_frame setting history e v other f = go v.1.state f
  where
    go : (s : WaiterState) → IsWaiterIn setting history v s → IsWaiterIn setting (e ∷ history) v s
    go (Waiting exchange) g =
        record {
          admitted = admitted-later e g.admitted;
          exchange_is = g.exchange_is;
          client_is = g.client_is;
          kind_is = g.kind_is;
          token_is = g.token_is;
          tags_are = g.tags_are;
          unended = g.unended;
          unserved = ((λ h. other h.act), g.unserved);
          no_sends = sends-stay (serves v.0) history e other ∙ g.no_sends;
          opened = opened-later e g.opened;
          method = g.method;
          verdict = g.verdict;
        }
    go (Delivering bytes id timer) g =
        let stay = sends-stay (serves v.0) history e other in
        record {
          admitted = admitted-later e g.admitted;
          serving = g.serving;
          was_served = inr g.was_served;
          is_serving = g.is_serving;
          only = λ p at s. ⊎_elim (λ (same : here history e ≡ p). absurd (other (subst (λ (q : Position). q.action.act ≡ serves v.0) (sym same) s.act))) (λ (there : IsPositionOf history p). g.only p there s) at;
          sent = g.sent;
          answer = g.answer;
          spells = g.spells;
          id_is = g.id_is;
          started = g.started;
          timer_is = subst (IsTimer timer) (sym stay) g.timer_is;
          bytes_are = subst (AreOfBytes v.1.client bytes) (sym stay) g.bytes_are;
          short = g.short;
          token_gone = g.token_gone;
          tags_gone = g.tags_gone;
        }

-- all waiters stay right at an observation that serves none of them
pub waiters_frame : (setting : Setting) (history : List Action) (e : Action) (vs : List (Numbered Waiter)) → ((v : ℕ) → e.act ≢ serves v) → AllByRecursion (IsWaiterOf setting history) vs → AllByRecursion (IsWaiterOf setting (e ∷ history)) vs
waiters_frame setting history e vs other all =
    All-weaken (IsWaiterOf setting history) (IsWaiterOf setting (e ∷ history)) vs (λ v f. waiter_frame setting history e v (other v.0) f) all

-- ---- numbers that aren't used yet

-- unused numbers stay unused at an observation that doesn't act on them
pub unused_frame : (setting : Setting) (history : List Action) (e : Action) → ((x : ℕ) → opened_in history < x → e.act ≢ moves x) → ((v : ℕ) → admitted_in history < v → e.act ≢ serves v) → AreUnused setting history → AreUnused setting (e ∷ history)
unused_frame setting history e exchanges clients u =
    record {
      exchanges = λ x above.
          let below : opened_in history < x = omega arith in
          let other = exchanges x below in
          let f = u.exchanges x below in
          (((λ h. other h.act), f.0), ((λ h. other h.act), f.1));
      sends = λ x above. let below : opened_in history < x = omega arith in sends-stay (moves x) history e (exchanges x below) ∙ u.sends x below;
      waiters = λ v above. let below : admitted_in history < v = omega arith in let other = clients v below in ((λ h. other h.act), u.waiters v below);
      deliveries = λ v above. let below : admitted_in history < v = omega arith in sends-stay (serves v) history e (clients v below) ∙ u.deliveries v below;
    }

-- ---- schedules

-- schedules stay if nothing is sent
pub schedules_frame : (history : List Action) (e : Action) → is_sending e.observation.report.outcome ≡ false → AreSchedules history → AreSchedules (e ∷ history)
schedules_frame history e quiet s act = subst IsSchedule (sym (sends-quiet act history e quiet)) (s act)

-- and if the schedule of what is sent continues
pub schedules_with : (history : List Action) (e : Action) → IsSchedule (sends_by e.act (e ∷ history)) → AreSchedules history → AreSchedules (e ∷ history)
schedules_with history e grown s act = go (same_act act e.act) refl
  where
    go : (b : Bool) → same_act act e.act ≡ b → IsSchedule (sends_by act (e ∷ history))
    go true t = subst (λ (a : Act). IsSchedule (sends_by a (e ∷ history))) (sym (same_act-true act e.act t)) grown
    go false t = let none : sends_for act e ≡ false = rw t refl in rw none (s act)

-- ---- what was opened and what was admitted

-- an exchange was opened before an observation that opens nothing
pub opened-before : (history : List Action) (e : Action) (x : ℕ) → opens_one e.observation.report.outcome ≡ 0 → Somewhere (Opens x) (e ∷ history) → Somewhere (Opens x) history
opened-before history e x none s =
    ⊎_elim
    (λ (same : here history e ≡ s.position). let h = subst (Opens x) (sym same) s.holds in let one = ap opens_one h.0 in absurd (omega arith))
    (λ there. record { position = s.position; is_there = there; holds = s.holds })
    s.is_there

-- a waiter was admitted before an observation that admits nobody
pub admitted-before : (history : List Action) (e : Action) (v x : ℕ) → admits_one e.observation.report.outcome ≡ 0 → Somewhere (Admits v x) (e ∷ history) → Somewhere (Admits v x) history
admitted-before history e v x none s =
    ⊎_elim
    (λ (same : here history e ≡ s.position). let h = subst (Admits v x) (sym same) s.holds in let one = h.outcome in absurd (omega arith))
    (λ there. record { position = s.position; is_there = there; holds = s.holds })
    s.is_there
