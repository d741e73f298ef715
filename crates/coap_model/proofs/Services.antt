-- The stages of waiters: a waiter that hasn't acknowledged its answer yet was sent it.
use Rattle.std.proofs.Common.{◌≡◌, ◌≢◌, inl, inr, ℕ, Bool, true, false, List, [], ◌∷◌, map, Option, Some, None, refl, sym, ap, ◌∙◌, subst}
use Rattle.std.specs.Prelude.{◌==◌, find, not, option_map, if◌then◌else◌}
use Rattle.std.specs.List.{AllByRecursion}
use Rattle.std.proofs.lemmas.Bool.{eqb-true, eqb-false}
use Rattle.coap_endpoint.proofs.Lists.{All-append, All-weaken}
use Rattle.coap_model.specs.declared.report.Outcome.{Outcome}
use Rattle.coap_model.specs.declared.report.Outcome.TheVariants.{Joined, Opened, Acked, GaveUp, Delivered}
use Rattle.coap_model.specs.Setting.{Setting}
use Rattle.coap_endpoint.specs.declared.endpoint.Endpoint.{Endpoint}
use Rattle.coap_model.specs.Events.{Event, arrival, tick}
use Rattle.coap_model.specs.History.{Act, no_item, admits, moves, serves, Action, Somewhere, Serves, admits_one, finishes, is_con_datagram}
use Rattle.coap_model.specs.Standing.{Service, WaiterStanding, waits, delivering, others_than, as_delivering, waiting_since, admitted, served, closed, standing_by, standing_in, service_of}
use Rattle.coap_model.specs.Due.{IsToServe, IsToServeAgain}
use Rattle.coap_model.proofs.Lists.{find-holds, All-map, All-filter}
use Rattle.coap_model.proofs.Positions.{here, same_serves, Never-at}

-- ---- what holds of the waiters that are there

-- What held of each waiter holds, as it changes, of each one after an action: of one that
-- is admitted, of one that is sent its answer, and of each one that the action leaves as it is.
pub All-standing : (P Q : WaiterStanding → Type 0) (o : Outcome) (act : Act) (event : Event) (bytes : List ℕ) (xs : List WaiterStanding)
    → ((client : Endpoint) (came : List ℕ) (v x : ℕ) → event ≡ arrival client came → admits_one o ≡ 1 → act ≡ admits v x → Q (record { number = v; client = client; service = waits x }))
    → ((v : ℕ) → o ≡ Delivered → is_con_datagram bytes ≡ true → act ≡ serves v → (s : WaiterStanding) → P s → s.number ≡ v → Q (record s { service = delivering }))
    → ((s : WaiterStanding) → P s → (finishes o bytes ≡ true → act ≢ serves s.number) → Q s)
    → AllByRecursion P xs → AllByRecursion Q (standing_by o act event bytes xs)
All-standing P Q o act event bytes xs new this others all = by_outcome o refl
  where
    -- no waiter is finished
    kept : (finishes o bytes ≡ false) → AllByRecursion Q xs
    kept stays = All-weaken P Q xs (λ s h. others s h (λ gone same. let e = sym stays ∙ gone in cc)) all

    -- nor is one if the action isn't of a waiter
    apart : ((v : ℕ) → act ≢ serves v) → AllByRecursion Q xs
    apart other = All-weaken P Q xs (λ s h. others s h (λ gone same. other s.number same)) all

    -- one is finished, and the others stay
    left : (v : ℕ) → act ≡ serves v → AllByRecursion Q (others_than v xs)
    left v is = All-weaken (λ s. P s × (not (s.number == v) ≡ true)) Q (others_than v xs) (λ s h. others s h.0 (λ gone same. apart_from s (s.number == v) refl h.1 (same_serves s.number v (sym same ∙ is)))) (All-filter P (λ s. not (s.number == v)) xs all)
      where
        apart_from : (s : WaiterStanding) (b : Bool) → (s.number == v) ≡ b → not (s.number == v) ≡ true → s.number ≡ v → ⊥
        apart_from s true e passes same = let f : false ≡ true = ap not (sym e) ∙ passes in absurd cc
        apart_from s false e passes same = eqb-false s.number v e same

    coming : admits_one o ≡ 1 → finishes o bytes ≡ false → (a : Act) → act ≡ a → AllByRecursion Q (admitted a event xs)
    coming one stays no_item is = kept stays
    coming one stays (admits v x) is = All-append Q xs (waiting_since event v x) (kept stays) (since event refl)
      where
        since : (f : Event) → event ≡ f → AllByRecursion Q (waiting_since f v x)
        since (arrival source came) brings = (new source came v x brings one is, tt)
        since tick brings = tt
    coming one stays (moves x) is = kept stays
    coming one stays (serves v) is = kept stays

    going : (a : Act) → act ≡ a → AllByRecursion Q (closed a xs)
    going no_item is = apart (λ v same. let e = sym is ∙ same in cc)
    going (admits u x) is = apart (λ v same. let e = sym is ∙ same in cc)
    going (moves x) is = apart (λ v same. let e = sym is ∙ same in cc)
    going (serves v) is = left v is

    given_one : (v : ℕ) → o ≡ Delivered → act ≡ serves v → (b : Bool) → is_con_datagram bytes ≡ b → AllByRecursion Q (if b then map (as_delivering v) xs else others_than v xs)
    given_one v is to false con = left v to
    given_one v is to true con = All-map P Q (as_delivering v) xs one all
      where
        one : (s : WaiterStanding) → P s → Q (as_delivering v s)
        one s h = go (s.number == v) refl
          where
            go : (b : Bool) → (s.number == v) ≡ b → Q (if b then record s { service = delivering } else s)
            go true e = this v is con to s h (eqb-true s.number v e)
            go false e = others s h (λ gone same. eqb-false s.number v e (same_serves s.number v (sym same ∙ to)))

    serving : o ≡ Delivered → (a : Act) → act ≡ a → AllByRecursion Q (served a bytes xs)
    serving is no_item to = apart (λ v same. let e = sym to ∙ same in cc)
    serving is (admits u x) to = apart (λ v same. let e = sym to ∙ same in cc)
    serving is (moves x) to = apart (λ v same. let e = sym to ∙ same in cc)
    serving is (serves v) to = given_one v is to (is_con_datagram bytes) refl

    by_outcome : (p : Outcome) → o ≡ p → AllByRecursion Q (standing_by p act event bytes xs)
    by_outcome Joined is = coming (ap admits_one is) (ap (λ (q : Outcome). finishes q bytes) is) act refl
    by_outcome Opened is = coming (ap admits_one is) (ap (λ (q : Outcome). finishes q bytes) is) act refl
    by_outcome Acked is = going act refl
    by_outcome GaveUp is = going act refl
    by_outcome Delivered is = serving is act refl
    by_outcome _ is = kept (ap (λ (q : Outcome). finishes q bytes) is)

-- what holds of each waiter that is there holds of the one that is found by its number
pub standing-holds : (P : WaiterStanding → Type 0) (v : ℕ) (service : Service) (history : List Action) → AllByRecursion P (standing_in history) → service_of v history ≡ Some service → (s : WaiterStanding) × P s × (s.number ≡ v) × (s.service ≡ service)
standing-holds P v service history all e = go (find (λ (s : WaiterStanding). s.number == v) (standing_in history)) refl e
  where
    go : (f : Option WaiterStanding) → find (λ (s : WaiterStanding). s.number == v) (standing_in history) ≡ f → option_map (λ (s : WaiterStanding). s.service) f ≡ Some service → (s : WaiterStanding) × P s × (s.number ≡ v) × (s.service ≡ service)
    go None found is = absurd cc
    go (Some s) found is = let h = find-holds P (λ (t : WaiterStanding). t.number == v) (standing_in history) s all found in (s, h.0, eqb-true s.number v h.1, cc)

-- ---- which waiters were served

-- a waiter that was served stays so as the history grows
served-later : {v : ℕ} {history : List Action} (d : Action) → Somewhere (Serves v) history → Somewhere (Serves v) (d ∷ history)
served-later d s = record { position = s.position; is_there = inr s.is_there; holds = s.holds }

-- each waiter that hasn't acknowledged its answer yet was served
all-served : (history : List Action) → AllByRecursion (λ s. s.service ≡ delivering → Somewhere (Serves s.number) history) (standing_in history)
all-served [] = tt
all-served (d ∷ past) =
    All-standing (λ s. s.service ≡ delivering → Somewhere (Serves s.number) past) (λ s. s.service ≡ delivering → Somewhere (Serves s.number) (d ∷ past)) d.observation.report.outcome d.act d.observation.event d.observation.bytes (standing_in past)
    (λ client came v x brings one is e. absurd cc)
    (λ v is con act s h same e. record { position = here past d; is_there = inl refl; holds = record { act = act ∙ ap serves (sym same); outcome = is } })
    (λ s h stays e. served-later d (h e))
    (all-served past)

-- a waiter that hasn't acknowledged its answer yet was served
pub delivering-served : (v : ℕ) (history : List Action) → service_of v history ≡ Some delivering → Somewhere (Serves v) history
delivering-served v history e =
    let h = standing-holds (λ s. s.service ≡ delivering → Somewhere (Serves s.number) history) v delivering history (all-served history) e in
    subst (λ (n : ℕ). Somewhere (Serves n) history) h.2 (h.1 h.3)

-- so a waiter that is due to be served again isn't due to be served first
pub serves-apart : {A : Type 0} {setting : Setting} {past : List Action} {v u m n : ℕ} → v ≡ u → IsToServeAgain past v m → IsToServe setting past u n → A
serves-apart {past = past} {v = v} {u = u} same again first =
    absurd (let s = delivering-served u past (ap (λ (k : ℕ). service_of k past) (sym same) ∙ again.service) in Never-at (Serves u) past s.position first.unserved s.is_there s.holds)
