-- What one turn does, by the contracts of its calls.
use Rattle.std.proofs.Common.{◌≡◌, ◌+◌, ◌≤◌, ℕ, Bool, true, false, List, [], ◌∷◌, Option, Some, None, option_map, is_some, refl, sym, ap, ◌∙◌, subst, arith}
use Rattle.coap_core.specs.Done.{CarriesOn, did_of, DoesSo, observation_told, wants_memory}
use Rattle.coap_message.specs.Datagram.{Datagram}
use Rattle.coap_model.proofs.Runs.{clock_after}
use Rattle.coap_model.specs.Carries.{Carries}
use Rattle.coap_model.specs.Events.{Event, IsEvent, event_given}
use Rattle.coap_model.specs.History.{Observation, grown_of}
use Rattle.coap_model.specs.Runs.{Turn}
use Rattle.coap_model.specs.Step.{step_of}
use Rattle.coap_model.specs.Ticks.{next_due}
use Rattle.coap_model.specs.State.{Step, State}
use Rattle.coap_model.specs.Deeds.{outcome_of, report_of}
use Rattle.coap_model.specs.declared.deed.Did.{Did}
use Rattle.coap_model.specs.declared.report.Outcome.{Outcome}
use Rattle.coap_model.specs.declared.report.Report.{Report}
use Rattle.coap_model.proofs.DeedOutcomes.{deed-outcome}
use Rattle.coap_endpoint.specs.declared.endpoint.Endpoint.{Endpoint}
use Rattle.coap_core.specs.Told.{Told}
use Rattle.coap_port.specs.Driven.{DidWatched, HandsOver, datagram_of, is_arrival, wait_for}
use Rattle.coap_port.specs.Stats.{with_turn}
use Rattle.coap_port.specs.declared.stats.Stats.{Stats}

-- a datagram came exactly if there is a source
pub arrival-is : (o : Option Endpoint) (bytes : List ℕ) → is_some o ≡ is_arrival (event_given o bytes)
arrival-is None bytes = refl
arrival-is (Some e) bytes = refl

-- a mapped option holds something exactly if the option does
is_some-map : {A B : Type 0} (f : A → B) (o : Option A) → is_some (option_map f o) ≡ is_some o
is_some-map f None = refl
is_some-map f (Some x) = refl

-- what is sent, with its bytes
abbrev pub told : Did → List ℕ → Option (Endpoint × List ℕ)
told did bytes = option_map (λ e. (e, bytes)) did.send

-- what is told of a turn at this moment, which was done or was lost
abbrev pub told_done : Turn → Event → Did → List ℕ → Bool → State → Told
told_done t event did bytes went w = record { turn = record { now = t.now; draw = t.draw; event = event }; did = Some did; bytes = bytes; went = went; state = w }

abbrev pub told_lost : Turn → Event → State → Told
told_lost t event w = record { turn = record { now = t.now; draw = t.draw; event = event }; did = None; bytes = []; went = false; state = w }

module _ {P W : Type 0} (gives : P → ℕ → Turn → P → Type 0) (takes : P → Endpoint → List ℕ → Bool → P → Type 0) (sees : W → Told → W → Type 0) (clock failures : P → ℕ)
    (came : Bool) (v : State) (p : P) (a b : W) (s : Stats) (wait : ℕ) (t : Turn) (m : P) (arrived : Bool)
    (asked : wait ≡ wait_for came (clock p) (next_due v)) (gave : gives p wait t m) (arrives : arrived ≡ is_arrival t.event) (moment : clock m ≡ t.now) where
  -- a step was done, and what it sent was handed over
  pub did-step : (v' : State) (q : P) (s' : Stats) (event : Event) (did : Did) (out out' : Datagram) (went : Bool) → event ≡ t.event → IsEvent t.event
      → DoesSo (step_of v t.now t.draw (grown_of (outcome_of did.deed)) event) did out out' v' → CarriesOn v (observation_told t.now t.draw event (report_of did) out'.bytes) v'
      → HandsOver takes m (told did out'.bytes) went q → clock q ≡ clock m → failures q ≡ failures p
      → s' ≡ with_turn false (is_some did.send) went s → sees a (told_done t event did out'.bytes went v') b
      → DidWatched gives takes sees clock failures came v p a s v' q b s' arrived
  did-step v' q s' event did out out' went same bytes does carries handed still-now still counted seen = record {
    did = record {
      given = record { wait = wait; turn = t; lost = false; grown = grown_of (outcome_of did.deed); went = went };
      does = (m, gave, subst (λ (d : Option (Endpoint × List ℕ)). HandsOver takes m d went q) sent handed);
      asked = asked;
      lost = λ (h : false ≡ true). absurd cc;
      state = done.2;
      carries = λ history c. subst (λ (e : Observation). Carries (e ∷ history) v') entry (on history c);
      counted = counted ∙ ap (λ (b : Bool). with_turn false b went s) (sym (is_some-map (λ to. (to, out'.bytes)) did.send) ∙ ap (λ (d : Option (Endpoint × List ℕ)). is_some d) sent);
      told = arrives;
      moment = still-now ∙ moment;
      onward = omega (arith, ap (λ (w : State). w.last) done.2, clock-is.0, still-now, moment);
      events = omega (arith, ap (λ (w : State). w.events) done.2, clock-is.1);
      still = still;
    };
    told = subst (λ (u : Told). sees a u b) told-is seen;
  }
    where
      step : Step
      step = step_of v t.now t.draw (grown_of (outcome_of did.deed)) t.event

      done : DoesSo step did out out' v'
      done = subst (λ (e : Event). DoesSo (step_of v t.now t.draw (grown_of (outcome_of did.deed)) e) did out out' v') same does

      on : CarriesOn v (observation_told t.now t.draw t.event (report_of did) out'.bytes) v'
      on = subst (λ (e : Event). CarriesOn v (observation_told t.now t.draw e (report_of did) out'.bytes) v') same carries

      said : report_of (did_of step) ≡ step.report
      said = ap (λ (o : Outcome). record { send = step.report.send; outcome = o }) (deed-outcome v t.now t.draw (grown_of (outcome_of did.deed)) t.event bytes)

      spelled : out'.bytes ≡ step.bytes
      spelled = ap (λ (d : Datagram). d.bytes) done.1

      sent : told did out'.bytes ≡ datagram_of step
      sent = ap (told did) spelled ∙ ap (λ (r : Did). told r step.bytes) done.0

      entry : observation_told t.now t.draw t.event (report_of did) out'.bytes ≡ observation_told t.now t.draw t.event step.report step.bytes
      entry = ap (observation_told t.now t.draw t.event (report_of did)) spelled ∙ ap (λ (r : Report). observation_told t.now t.draw t.event r step.bytes) (ap report_of done.0 ∙ said)

      told-is : told_done t event did out'.bytes went v' ≡ told_done t t.event (did_of step) step.bytes went step.state
      told-is =
          ap (λ (e : Event). told_done t e did out'.bytes went v') same
          ∙ ap (λ (r : Did). told_done t t.event r out'.bytes went v') done.0
          ∙ ap (λ (bs : List ℕ). told_done t t.event (did_of step) bs went v') spelled
          ∙ ap (told_done t t.event (did_of step) step.bytes went) done.2

      clock-is : (step.state.last ≡ t.now) × (step.state.events ≡ v.events + 1)
      clock-is = clock_after v t.now t.draw (grown_of (outcome_of did.deed)) t.event bytes

  -- a step ran out of memory
  pub did-nothing : (v' : State) (s' : Stats) (event : Event) → event ≡ t.event → v' ≡ v → wants_memory (step_of v t.now t.draw true event) ≡ true
      → v.last ≤ t.now → failures m ≡ failures p → s' ≡ with_turn true false false s → sees a (told_lost t event v') b
      → DidWatched gives takes sees clock failures came v p a s v' m b s' arrived
  did-nothing v' s' event same nothing memory onward still counted seen = record {
    did = record {
      given = record { wait = wait; turn = t; lost = true; grown = true; went = false };
      does = (m, gave, refl);
      asked = asked;
      lost = λ h. subst (λ (e : Event). wants_memory (step_of v t.now t.draw true e) ≡ true) same memory;
      state = nothing;
      carries = λ history c. subst (λ (w : State). Carries history w) (sym nothing) c;
      counted = counted;
      told = arrives;
      moment = moment;
      onward = omega (arith, ap (λ (w : State). w.last) nothing, onward, moment);
      events = omega (arith, ap (λ (w : State). w.events) nothing);
      still = still;
    };
    told = subst (λ (u : Told). sees a u b) (ap (λ (e : Event). told_lost t e v') same ∙ ap (told_lost t t.event) nothing) seen;
  }
