-- What becomes of an answer: what the store makes of it, the step says.
use Rattle.std.proofs.Common.{◌≡◌, ◌⊎◌, inl, inr, ℕ, ◌≤◌, Bool, true, false, cond, eqb, List, [], ◌∷◌, length, Option, Some, None, refl, sym, ap, ◌∙◌, subst, arith}
use Rattle.std.specs.Prelude.{◌&&◌, ◌||◌, not, IfSome, option_map, nat_le}
use Rattle.std.proofs.lemmas.Bool.{le-leb, lt-leb, eqb-true}
use Rattle.std.proofs.lemmas.Option.{same_Some}
use Rattle.coap_message.specs.declared.kind.Kind.{Kind}
use Rattle.coap_message.specs.declared.kind.Kind.TheVariants.{Con, Non, Ack, Rst}
use Rattle.coap_message.specs.Datagram.{Datagram, holding}
use Rattle.coap_message.specs.Message.{Message}
use Rattle.coap_message.specs.Spelling.{spelling}
use Rattle.coap_message.proofs.Spellings.{spelling-length}
use Rattle.coap_endpoint.specs.declared.endpoint.Endpoint.{Endpoint}
use Rattle.coap_endpoint.specs.declared.target.Target.{Target}
use Rattle.coap_store.specs.Entries.{Entry, entry_key, entry_size}
use Rattle.coap_store.specs.Lists.{of_key, others}
use Rattle.coap_store.specs.declared.answer.Answer.{Answer}
use Rattle.coap_pending.specs.declared.exchange.Exchange.{Exchange}
use Rattle.coap_pending.specs.Exchanges.{answered, is_done, is_sent, is_changed_with, tainted_by}
use Rattle.coap_pending.specs.Table.{Numbered, IsRising, all_changed, item_at, changed_at}
use Rattle.coap_forward.specs.Messages.{is_con, is_ack, is_rst, is_empty, is_bare, acknowledgement}
use Rattle.coap_forward.specs.Answers.{answer_of, bad_gateway, own_answer}
use Rattle.coap_forward.specs.Changes.{changed_by}
use Rattle.coap_model.specs.declared.report.Outcome.TheVariants as outcomes
use Rattle.coap_model.specs.declared.deed.Deed.{Deed}
use Rattle.coap_model.specs.declared.deed.Deed.TheVariants.{Answered}
use Rattle.coap_model.specs.declared.deed.Did.{Did}
use Rattle.coap_model.specs.Deeds.{outcome_of}
use Rattle.coap_model.specs.declared.report.Storing.{Storing}
use Rattle.coap_model.specs.declared.report.Storing.TheVariants.{Kept, TooLarge, NoMemory, NotStored}
use Rattle.coap_model.specs.History.{grown_of}
use Rattle.coap_model.specs.Memory.{takes_memory}
use Rattle.coap_model.specs.Answers.{Arrived, answer_for, entry_made, may_store, tainted_all, with_changed, keeps, keeps_if, stores, answers_so, answers_with, answers}
use Rattle.coap_model.specs.State.{State, Step, later, silent, says, accepts, has_record_room, remembers, with_record}
use Rattle.coap_model.specs.Empties.{on_exchange}
use Rattle.coap_model.specs.Responses.{awaiting, on_not_confirmable, on_new_confirmable}
use Rattle.coap_core.proofs.Awaiting.{awaited}
use Rattle.coap_core.specs.Done.{DoesSo, resets, wants_memory}
use Rattle.coap_core.specs.Needs.{IsUnansweredAt}
use Rattle.coap_core.specs.Storing.{IsKept, IsPut, answering, answering_at, not_confirmable_step, new_confirmable_step, if_storable, accepted, accepted_bytes, accepted_to}

-- the choice of a test that is known
pick-true : {A : Type 0} (b : Bool) (x y : A) → b ≡ true → cond b x y ≡ x
pick-true b x y e = rw e refl

pick-false : {A : Type 0} (b : Bool) (x y : A) → b ≡ false → cond b x y ≡ y
pick-false b x y e = rw e refl

-- ---- what a response changes

-- what is remembered stands beside what is changed
changes-taken : (changed : List Target) (now : ℕ) (source : Endpoint) (m : Message) (w : State) → with_changed changed (accepted now source m w) ≡ accepted now source m (with_changed changed w)
changes-taken changed now source m w = go (is_con m.kind)
  where
    go : (b : Bool) → with_changed changed (cond b (with_record now source m (spelling (acknowledgement m.id)) w) w) ≡ cond b (with_record now source m (spelling (acknowledgement m.id)) (with_changed changed w)) (with_changed changed w)
    go true = refl
    go false = refl

-- an exchange that is tainted has no answer by that
still-open : (t : Target) (x : Exchange) → is_done x ≡ false → is_done (tainted_by t x) ≡ false
still-open t x e = go (is_changed_with t x)
  where
    go : (b : Bool) → is_done (cond b (record x { tainted = true }) x) ≡ false
    go true = e
    go false = e

-- no answer has come for the exchange of this number, if there is one
abbrev IsNotDone : ℕ → List (Numbered Exchange) → Type 0
IsNotDone number xs = IfSome (item_at number xs) (λ x. is_done x ≡ false)

open-tainted : (number : ℕ) (t : Target) (xs : List (Numbered Exchange)) → IsNotDone number xs → IsNotDone number (all_changed (tainted_by t) xs)
open-tainted number t [] e = e
open-tainted number t (x ∷ xs) e = go (eqb number x.0) e (open-tainted number t xs)
  where
    go : (b : Bool) → IfSome (cond b (Some x.1) (item_at number xs)) (λ y. is_done y ≡ false) → (IsNotDone number xs → IsNotDone number (all_changed (tainted_by t) xs))
        → IfSome (cond b (Some (tainted_by t x.1)) (item_at number (all_changed (tainted_by t) xs))) (λ y. is_done y ≡ false)
    go true f rest = still-open t x.1 f
    go false f rest = rest f

-- so the exchange of a number is open where it was, whatever is changed
open-changed : (number : ℕ) (changed : List Target) (xs : List (Numbered Exchange)) → IsNotDone number xs → IsNotDone number (tainted_all changed xs)
open-changed number [] xs e = e
open-changed number (t ∷ changed) xs e = open-changed number changed (all_changed (tainted_by t) xs) (open-tainted number t xs e)

-- the exchange of this number has its answer, with the store of these tables
abbrev pub answered_in : State → ℕ → ℕ → Answer → State
answered_in v now number a = later (record v { exchanges = changed_at number (answered a) v.exchanges }) now

module _ (w v : State) (now : ℕ) (a : Arrived) where
  abbrev made : Entry
  made = entry_made w now a.exchange.1 a.answer

  abbrev left : Storing → Step
  left storing = accepts (Answered a.exchange.0 storing) a.source a.message (answered_in v now a.exchange.0 a.answer)

  -- memory for one more isn't asked for where it is there
  keeps-grown : (o : Option Entry) → keeps_if w now true a o ≡ keeps w now a
  keeps-grown None = refl
  keeps-grown (Some entry) = refl

  -- what the store did with it, the step says
  put-is : (storing : Storing) → IsPut w made storing v → stores w now (grown_of (outcomes.Answered storing)) a ≡ left storing
  put-is Kept k = rw (le-leb _ _ k.1, k.0) (keeps-grown (of_key entry_key a.exchange.1.key w.store))
  put-is TooLarge k = rw (lt-leb _ _ k.1, k.0) refl
  put-is NoMemory k = rw (le-leb _ _ k.1, k.2, k.0) refl
  put-is NotStored k = absurd k

  -- the same of an answer that may be one that isn't stored
  pub kept-is : (storing : Storing) → IsKept w (if_storable w now a.exchange.1 a.answer) storing v → answers_with w now (grown_of (outcomes.Answered storing)) a ≡ left storing
  kept-is storing k = go (may_store a.exchange.1 a.answer) k
    where
      go : (b : Bool) → IsKept w (cond b (Some made) None) storing v → cond b (stores w now (grown_of (outcomes.Answered storing)) a) (answers_so w now a NotStored w.store) ≡ left storing
      go true e = put-is storing e
      go false e = rw (e.0, e.1) refl

-- ---- what is remembered stands beside the store

module _ (w v : State) (now : ℕ) (source : Endpoint) (m : Message) (bytes : List ℕ) where
  abbrev remembering : State
  remembering = with_record now source m bytes w

  -- the tables without what is remembered
  abbrev before : State
  before = record w { store = v.store }

  put-before : (entry : Entry) (storing : Storing) → IsPut remembering entry storing v → IsPut w entry storing before × (v ≡ with_record now source m bytes before)
  put-before entry Kept k = let s = ap (λ (x : State). x.store) k.0 in ((rw s refl, k.1), rw k.0 refl)
  put-before entry TooLarge k = let s = ap (λ (x : State). x.store) k.0 in ((rw s refl, k.1), rw k.0 refl)
  put-before entry NoMemory k = let s = ap (λ (x : State). x.store) k.0 in ((rw s refl, k.1, k.2), rw k.0 refl)
  put-before entry NotStored k = absurd k

  -- what was done with the store was done to those
  kept-before : (entry : Option Entry) (storing : Storing) → IsKept remembering entry storing v → IsKept w entry storing before × (v ≡ with_record now source m bytes before)
  kept-before None storing k = let s = ap (λ (x : State). x.store) k.1 in ((k.0, rw s refl), rw k.1 refl)
  kept-before (Some entry) storing k = put-before entry storing k

-- ---- the step of an answer

module _ (w v : State) (now : ℕ) (source : Endpoint) (m : Message) (x : Numbered Exchange) (storing : Storing) where
  abbrev a : Answer
  a = answer_for w now m x.1

  -- the tables in which what it changes is marked and tainted
  abbrev u : State
  u = with_changed (changed_by x.1.key.target m) w

  abbrev arrived : Arrived
  arrived = record { source = source; message = m; exchange = x; answer = a }

  abbrev step_left : Step
  step_left =
      record {
        deed = Answered x.0 storing;
        report = record { send = accepted_to source m; outcome = outcomes.Answered storing };
        bytes = accepted_bytes m;
        state = answered_in v now x.0 a;
      }

  -- a response that isn't confirmable
  other-is : is_con m.kind ≡ false → IsKept u (if_storable w now x.1 a) storing v → answers w now (grown_of (outcomes.Answered storing)) source m x ≡ step_left
  other-is other k = kept-is u v now arrived storing k ∙ rw other refl

  -- a confirmable one, which is remembered
  con-is : is_con m.kind ≡ true → IsKept (with_record now source m (spelling (acknowledgement m.id)) u) (if_storable w now x.1 a) storing v → remembers now source m (answers w now (grown_of (outcomes.Answered storing)) source m x) ≡ step_left
  con-is con k =
      let parts = kept-before u v now source m (spelling (acknowledgement m.id)) (if_storable w now x.1 a) storing k in
      let is = kept-is u (record u { store = v.store }) now arrived storing parts.0 in
      ap (remembers now source m) is ∙ said parts.1
    where
      said : v ≡ with_record now source m (spelling (acknowledgement m.id)) (record u { store = v.store }) → remembers now source m (accepts (Answered x.0 storing) source m (answered_in (record u { store = v.store }) now x.0 a)) ≡ step_left
      said e =
          let states : with_record now source m (spelling (acknowledgement m.id)) (answered_in (record u { store = v.store }) now x.0 a) ≡ answered_in v now x.0 a = sym (ap (λ (z : State). answered_in z now x.0 a) e) in
          let turned = rw con at states in
          rw con (λ i. record { deed = Answered x.0 storing; report = record { send = Some source; outcome = outcomes.Answered storing }; bytes = spelling (acknowledgement m.id); state = turned i })

  -- either
  pub answering-is : IsKept (accepted now source m u) (if_storable w now x.1 a) storing v → answering w now (grown_of (outcomes.Answered storing)) source m x ≡ step_left
  answering-is k = go (is_con m.kind) refl k
    where
      go : (b : Bool) → is_con m.kind ≡ b → IsKept (cond b (with_record now source m (spelling (acknowledgement m.id)) u) u) (if_storable w now x.1 a) storing v
          → cond b (remembers now source m (answers w now (grown_of (outcomes.Answered storing)) source m x)) (answers w now (grown_of (outcomes.Answered storing)) source m x) ≡ step_left
      go true e f = con-is e f
      go false e f = other-is e f

-- ---- the tables beside the store

-- what is done with the store leaves the other tables
store-alone : (w v : State) (entry : Option Entry) (storing : Storing) → IsKept w entry storing v → v ≡ record w { store = v.store }
store-alone w v None storing k = rw k.1 refl
store-alone w v (Some entry) Kept k = rw k.0 refl
store-alone w v (Some entry) TooLarge k = rw k.0 refl
store-alone w v (Some entry) NoMemory k = rw k.0 refl
store-alone w v (Some entry) NotStored k = absurd k

module _ (w v : State) (now number : ℕ) (source : Endpoint) (m : Message) (changed : List Target) (entry : Option Entry) (storing : Storing) (kept : IsKept (with_changed changed (accepted now source m w)) entry storing v) where
  beside : v ≡ record (accepted now source m (with_changed changed w)) { store = v.store }
  beside = subst (λ (u : State). v ≡ record u { store = v.store }) (changes-taken changed now source m w) (store-alone (with_changed changed (accepted now source m w)) v entry storing kept)

  exchanges-taken : (b : Bool) → (cond b (with_record now source m (spelling (acknowledgement m.id)) (with_changed changed w)) (with_changed changed w)).exchanges ≡ tainted_all changed w.exchanges
  exchanges-taken true = refl
  exchanges-taken false = refl

  events-taken : (b : Bool) → (cond b (with_record now source m (spelling (acknowledgement m.id)) (with_changed changed w)) (with_changed changed w)).events ≡ w.events
  events-taken true = refl
  events-taken false = refl

  -- the exchange that has its answer then was open
  pub left-open : IsUnansweredAt number w.exchanges → IfSome (item_at number v.exchanges) (λ x. is_done x ≡ false)
  left-open was = subst (IsNotDone number) (sym (ap (λ (u : State). u.exchanges) beside ∙ exchanges-taken (is_con m.kind))) (open-changed number changed w.exchanges (rw was.found was.holds))

  -- no event was counted yet
  pub left-events : v.events ≡ w.events
  left-events = ap (λ (u : State). u.events) beside ∙ events-taken (is_con m.kind)

-- what is done for the exchange of a number
pub answer-does : (w v : State) (now number : ℕ) (source : Endpoint) (m : Message) (entry : Option Entry) (changed : List Target) (storing : Storing) (report : Did) (old new : Datagram) (after : State) (a : Answer)
    → Some a ≡ option_map (answer_for w now m) (item_at number w.exchanges)
    → IfSome (item_at number w.exchanges) (λ x. entry ≡ if_storable w now x a)
    → IfSome (item_at number w.exchanges) (λ x. changed ≡ changed_by x.key.target m)
    → IsKept (with_changed changed (accepted now source m w)) entry storing v
    → report ≡ record { send = accepted_to source m; deed = Answered number storing } → new ≡ holding old (accepted_bytes m) → after ≡ answered_in v now number a
    → IfSome (answering_at w now (grown_of (outcome_of report.deed)) source m number) (λ step. DoesSo step report old new after)
answer-does w v now number source m entry changed storing report old new after a is made marked kept told said left = go (item_at number w.exchanges) is made marked
  where
    go : (o : Option Exchange) → Some a ≡ option_map (answer_for w now m) o → IfSome o (λ x. entry ≡ if_storable w now x a) → IfSome o (λ x. changed ≡ changed_by x.key.target m)
        → IfSome (option_map (λ x. answering w now (grown_of (outcome_of report.deed)) source m (number, x)) o) (λ step. DoesSo step report old new after)
    go None i e t = tt
    go (Some x) i e t =
        let same : a ≡ answer_for w now m x = same_Some a (answer_for w now m x) i in
        let beside = subst (λ (u : State). IsKept u entry storing v) (changes-taken changed now source m w) kept in
        let k : IsKept (accepted now source m (with_changed (changed_by x.key.target m) w)) (if_storable w now x (answer_for w now m x)) storing v = rw (t, e, same) at beside in
        let step = answering-is w v now source m (number, x) storing k in
        rw (told, step) (refl, said, left ∙ ap (answered_in v now number) same)

-- ---- the exchange that awaits a response

module _ (w : State) (now : ℕ) (grown : Bool) (source : Endpoint) (m : Message) (number : ℕ) (P : Step → Type 0) (rising : IsRising 0 w.exchanges) (found : Some number ≡ option_map (λ x. x.0) (awaiting w source m)) where
  -- what holds of the step of an answer for that number holds of the step of a response that isn't confirmable
  pub awaited-does : is_con m.kind ≡ false → IfSome (answering_at w now grown source m number) P → P (not_confirmable_step w now grown source m)
  awaited-does other each = awaited w source m number (λ o. P (on_not_confirmable w now grown source m o)) rising found (λ x at. plain x (rw at at each))
    where
      plain : (x : Exchange) → P (answering w now grown source m (number, x)) → P (answers w now grown source m (number, x))
      plain x p = subst P (pick-false (is_con m.kind) _ _ other) p

  -- so it holds of one that is new, where there is room to remember it
  pub new_confirmable-does : is_con m.kind ≡ true → has_record_room w now source m.kind ≡ true → IfSome (answering_at w now grown source m number) P → P (new_confirmable_step w now grown source m)
  new_confirmable-does con room each = awaited w source m number (λ o. P (on_new_confirmable w now grown source m o)) rising found (λ x at. kept x (rw at at each))
    where
      kept : (x : Exchange) → P (answering w now grown source m (number, x)) → P (on_new_confirmable w now grown source m (Some (number, x)))
      kept x p = subst P (pick-true (is_con m.kind) _ _ con ∙ sym (pick-true (has_record_room w now source m.kind) _ _ room)) p

-- ---- memory

-- whether it is acknowledged or not, what is taken up wants memory where its outcome does
pub taken-takes : (deed : Deed) (source : Endpoint) (m : Message) (w : State) → ((bytes : List ℕ) → takes_memory (outcome_of deed) bytes ≡ true) → wants_memory (accepts deed source m w) ≡ true
taken-takes deed source m w takes = go (is_con m.kind)
  where
    go : (b : Bool) → wants_memory (cond b (says deed source (acknowledgement m.id) w) (silent deed w)) ≡ true
    go true = takes (spelling (acknowledgement m.id))
    go false = takes []

module _ (w : State) (now : ℕ) (grown : Bool) (a : Arrived) where
  so-takes : (storing : Storing) (store : List Entry) → wants_memory (answers_so w now a storing store) ≡ true
  so-takes storing store = taken-takes (Answered a.exchange.0 storing) a.source a.message _ (λ bytes. refl)

  keeps-takes : wants_memory (keeps w now a) ≡ true
  keeps-takes = taken-takes (Answered a.exchange.0 Kept) a.source a.message _ (λ bytes. refl)

  -- an answer that is kept takes memory, or wants it
  kept-takes : (g : Bool) (o : Option Entry) → wants_memory (keeps_if w now g a o) ≡ true
  kept-takes true None = keeps-takes
  kept-takes false None = so-takes NoMemory w.store
  kept-takes g (Some entry) = keeps-takes

  -- whatever becomes of an answer takes memory
  with-takes : wants_memory (answers_with w now grown a) ≡ true
  with-takes = storable (may_store a.exchange.1 a.answer) refl
    where
      short : (b : Bool) → nat_le (entry_size (entry_made w now a.exchange.1 a.answer)) w.setting.limits.cache_bytes ≡ b → wants_memory (stores w now grown a) ≡ true
      short true e = rw e (kept-takes grown (of_key entry_key a.exchange.1.key w.store))
      short false e = rw e (so-takes TooLarge (others entry_key a.exchange.1.key w.store))

      storable : (b : Bool) → may_store a.exchange.1 a.answer ≡ b → wants_memory (answers_with w now grown a) ≡ true
      storable true e = rw e (short (nat_le (entry_size (entry_made w now a.exchange.1 a.answer)) w.setting.limits.cache_bytes) refl)
      storable false e = rw e (so-takes NotStored w.store)

-- an answer takes memory
pub answer-takes : (w : State) (now : ℕ) (grown : Bool) (source : Endpoint) (m : Message) (x : Numbered Exchange) → wants_memory (answers w now grown source m x) ≡ true
answer-takes w now grown source m x = with-takes (with_changed (changed_by x.1.key.target m) w) now grown (record { source = source; message = m; exchange = x; answer = answer_for w now m x.1 })

-- ---- a Reset

-- what is bare and no acknowledgement is a Reset
rst-of_bare : (m : Message) → is_bare m ≡ true → is_ack m.kind ≡ false → is_rst m.kind ≡ true
rst-of_bare m bare other = go (is_empty m.code) (is_ack m.kind) (is_rst m.kind) bare other
  where
    go : (e a r : Bool) → (e && (a || r)) ≡ true → a ≡ false → r ≡ true
    go e a true f g = refl
    go true true false f g = absurd cc
    go true false false f g = absurd cc
    go false a false f g = absurd cc

-- nor is what is of another type an acknowledgement
pub no-ack : (k : Kind) → (k ≡ Con) ⊎ ((k ≡ Non) ⊎ (k ≡ Rst)) → is_ack k ≡ false
no-ack k (inl e) = rw e refl
no-ack k (inr (inl e)) = rw e refl
no-ack k (inr (inr e)) = rw e refl

-- it isn't confirmable
rst-alone : (k : Kind) → is_rst k ≡ true → is_con k ≡ false
rst-alone Con e = absurd cc
rst-alone Non e = absurd cc
rst-alone Ack e = absurd cc
rst-alone Rst e = refl

-- a Reset gives an answer of the proxy's own
reset-answer : (most : ℕ) (to_get : Bool) (copy : Option Message) (now : ℕ) (m : Message) → is_rst m.kind ≡ true → answer_of most to_get copy now m ≡ own_answer now bad_gateway
unfolding answer_of
reset-answer most to_get copy now m rst = rw rst refl

-- what is bare says of no change
bare-changes : (t : Target) (m : Message) → is_bare m ≡ true → changed_by t m ≡ []
unfolding changed_by
bare-changes t m bare = let code : m.code.0 ≡ 0 = eqb-true m.code.0 0 (empty (is_empty m.code) (is_ack m.kind || is_rst m.kind) bare) in rw code refl
  where
    empty : (a b : Bool) → (a && b) ≡ true → a ≡ true
    empty true b e = refl
    empty false b e = absurd cc

-- which isn't stored
never-stored : (x : Exchange) (now : ℕ) → may_store x (own_answer now bad_gateway) ≡ false
never-stored x now = go x.is_get (not x.tainted)
  where
    go : (a b : Bool) → (a && (b && false)) ≡ false
    go true true = refl
    go true false = refl
    go false b = refl

-- and changes nothing
pub reset-is : (w : State) (now : ℕ) (grown : Bool) (source : Endpoint) (m : Message) (number : ℕ) (x : Exchange) → is_bare m ≡ true → is_rst m.kind ≡ true → answers w now grown source m (number, x) ≡ resets w now number
reset-is w now grown source m number x bare rst =
    rw (bare-changes x.key.target m bare, reset-answer w.setting.limits.datagram x.is_get (option_map (λ s. s.response) x.copy) now m rst, never-stored x now, rst-alone m.kind rst) refl

-- so it is the step of what was sent
pub reset-step : (w : State) (now : ℕ) (grown : Bool) (source : Endpoint) (m : Message) (number : ℕ) (x : Exchange) → item_at number w.exchanges ≡ Some x → is_sent x ≡ true → is_bare m ≡ true → is_ack m.kind ≡ false
    → on_exchange w now grown source m number (item_at number w.exchanges) ≡ resets w now number
reset-step w now grown source m number x found sent bare other =
    ap (on_exchange w now grown source m number) found ∙ (pick-true (is_sent x) _ _ sent ∙ (pick-false (is_ack m.kind) _ _ other ∙ reset-is w now grown source m number x bare (rst-of_bare m bare other)))

-- ---- what is taken up

-- what goes out at once is short
pub taken-fits : (m : Message) (room : ℕ) → 128 ≤ room → length (accepted_bytes m) ≤ room
taken-fits m room wide = go (is_con m.kind)
  where
    go : (b : Bool) → length (cond b (spelling (acknowledgement m.id)) []) ≤ room
    go true = omega (arith, spelling-length (acknowledgement m.id), wide)
    go false = omega arith
