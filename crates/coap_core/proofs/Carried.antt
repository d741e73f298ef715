-- What a proxy that carries a history can do: it can go on.
use Rattle.std.proofs.Common.{◌∙◌, ◌≡◌, ℕ, ◌<◌, ◌≤◌, ◌^◌, Bool, ◌+◌, List, [], ◌∷◌, length, Option, Some, None, Result, Ok, Err, refl, sym, ap, subst, arith}
use Rattle.std.specs.Prelude.{IfOk, IfSome, IsOk, OnErr}
use Rattle.coap_message.specs.declared.error.OutOfMemory.{OutOfMemory}
use Rattle.coap_message.specs.Datagram.{Datagram, holding}
use Rattle.coap_model.specs.Deeds.{outcome_of, report_of}
use Rattle.coap_model.specs.declared.deed.Did.{Did}
use Rattle.coap_model.specs.declared.report.Outcome.{Outcome}
use Rattle.coap_model.specs.declared.report.Report.{Report}
use Rattle.coap_model.proofs.DeedOutcomes.{deed-outcome}
use Rattle.coap_model.specs.State.{State, Step}
use Rattle.coap_model.specs.Events.{Event, IsEvent}
use Rattle.coap_model.specs.Step.{step_of}
use Rattle.coap_dedup.specs.declared.record.Record.{Record}
use Rattle.coap_dedup.specs.Lists.{AreUpTo}
use Rattle.coap_model.specs.History.{Observation, Action, last_of, grown_of}
use Rattle.coap_model.specs.Runs.{observation_of}
use Rattle.coap_limits.specs.Limits.{AreLimits}
use Rattle.coap_model.specs.Carries.{Carries}
use Rattle.coap_model.specs.Ranges.{AreInRange}
use Rattle.coap_model.specs.Ticks.{next_due}
use Rattle.coap_model.proofs.DueBound.{next-bounded}
use Rattle.coap_model.proofs.AllCases.{keeps_step}
use Rattle.coap_model.proofs.Frames.{opened-few, admitted-few}
use Rattle.coap_model.proofs.Runs.{setting_stays}
use Rattle.coap_core.specs.Done.{did_of, DoesSo, Does, in_short, observation_told}
use Rattle.coap_core.specs.Needs.{CanGoOn}

-- what is remembered came at the last moment, or before
until : (w : State) (actions : List Action) → w.last ≡ last_of actions → (rs : List Record) → AreUpTo (last_of actions) rs → AreUpTo w.last rs
until w actions last rs all = subst (λ (n : ℕ). AreUpTo n rs) (sym last) all

-- what is carried is what a step needs
pub can_go_on : (history : List Observation) (w : State) → Carries history w → w.events < 2 ^ 63 → CanGoOn w
can_go_on history w c few =
    let b = c.bears in
    let opened = opened-few c.actions in
    let admitted = admitted-few c.actions in
    let events = b.clock.events in
    record {
      routes = b.routes;
      exchanges = b.whole.rising;
      waiters = b.whole.waiters_rise;
      events = few;
      opened = omega (arith, opened, b.numbers.opened);
      admitted = omega (arith, admitted, b.numbers.admitted);
      ids = b.within.ids;
      con_records = b.con_records.are;
      con_until = until w c.actions b.clock.last w.con_records.items b.con_records.until;
      non_records = b.non_records.are;
      non_until = until w c.actions b.clock.last w.non_records.items b.non_records.until;
    }

-- ---- what the step in code leaves

-- the setting is the same, and some history is carried, within the ranges
pub record IsLeft (w v : State) : Type 0 where
  pub setting : v.setting ≡ w.setting
  pub history : List Observation
  pub carries : Carries history v
  pub in_range : AreInRange history

-- what a step did in full is what it did in short
pub told : (w v : State) (now draw : ℕ) (grown : Bool) (event : Event) (did : Did) (old new : Datagram) → IsEvent event → DoesSo (step_of w now draw grown event) did old new v → Does (step_of w now draw grown event) (report_of did) old new v
told w v now draw grown event did old new fits does =
    let s = step_of w now draw grown event in
    let said : report_of (did_of s) ≡ s.report = ap (λ (o : Outcome). record { send = s.report.send; outcome = o }) (deed-outcome w now draw grown event fits) in
    (ap report_of does.0 ∙ said, does.1, does.2)

-- what holds of what was done in full holds of it in short
pub short-ok : (r : Result Did OutOfMemory) (P : Report → Type 0) → IfOk r (λ did. P (report_of did)) → IfOk (in_short r) P
short-ok (Ok did) P holds = holds
short-ok (Err e) P holds = tt

pub short-err : (r : Result Did OutOfMemory) (P : Type 0) → OnErr r P → OnErr (in_short r) P
short-err (Ok did) P holds = tt
short-err (Err e) P holds = holds

pub short-is : (r : Result Did OutOfMemory) → IsOk r → IsOk (in_short r)
short-is (Ok did) is = is
short-is (Err e) is = is

-- so a step that did its deed has its report
pub short-exact : (w : State) (now draw : ℕ) (event : Event) → IsEvent event → (r : Result Did OutOfMemory) (old new : Datagram) (v : State)
    → IfOk r (λ did. DoesSo (step_of w now draw (grown_of (outcome_of did.deed)) event) did old new v)
    → IfOk (in_short r) (λ report. Does (step_of w now draw (grown_of report.outcome) event) report old new v)
short-exact w now draw event fits (Ok did) old new v does = told w v now draw (grown_of (outcome_of did.deed)) event did old new fits does
short-exact w now draw event fits (Err e) old new v does = tt

-- what a step leaves: the setting, the limits, and a history that is carried
pub is-left : (w : State) (now draw : ℕ) (event : Event) (history : List Observation) → Carries history w → AreInRange history → now ≤ 2 ^ 62 → draw ≤ 1000 → w.last ≤ now → IsEvent event → (r : Result Did OutOfMemory) (old new : Datagram) (v : State)
    → IfOk r (λ did. DoesSo (step_of w now draw (grown_of (outcome_of did.deed)) event) did old new v) → OnErr r (v ≡ w) → IsLeft w v
is-left w now draw event history c ranges moment drawn onward fits (Ok did) old new v does same =
    let grown = grown_of (outcome_of did.deed) in
    let stays = setting_stays w now draw grown event fits in
    record {
      setting = rw does.2 stays;
      history = observation_of now draw event (step_of w now draw grown event) ∷ history;
      carries = rw does.2 (keeps_step w history now draw grown event c onward fits);
      in_range = ((moment, drawn), ranges);
    }
is-left w now draw event history c ranges moment drawn onward fits (Err e) old new v does same = record { setting = rw same refl; history = history; carries = rw same c; in_range = ranges }

-- what is due next isn't far ahead
pub is-bounded : (w : State) (history : List Observation) → AreLimits w.setting.limits → Carries history w → AreInRange history → (due : Option ℕ) → due ≡ next_due w → IfSome due (λ at. at ≤ 2 ^ 62 + 600000)
is-bounded w history limits c ranges None is = tt
is-bounded w history limits c ranges (Some at) is = next-bounded w history at c ranges limits (sym is)

-- what is sent isn't too long, and where memory is missing nothing is sent
pub is-short : (r : Result Did OutOfMemory) (s : Bool → Step) (old new : Datagram) (v : State) (most : ℕ) → ((grown : Bool) → length (s grown).bytes ≤ most) → IfOk r (λ did. DoesSo (s (grown_of (outcome_of did.deed))) did old new v) → OnErr r (new ≡ holding old []) → length new.bytes ≤ most
is-short (Ok did) s old new v most short does none = omega (arith, short (grown_of (outcome_of did.deed)), ap (λ (d : Datagram). length d.bytes) does.1)
is-short (Err e) s old new v most short does none = omega (arith, ap (λ (d : Datagram). length d.bytes) none)

-- what holds of whatever is carried holds with the observation of a step in front
pub holds-on : (P : List Observation → State → Type 0) → ((history : List Observation) (w : State) → Carries history w → P history w) → (w : State) (now draw : ℕ) (event : Event) → w.last ≤ now → IsEvent event → (r : Result Did OutOfMemory) (old new : Datagram) (v : State) → IfOk r (λ did. DoesSo (step_of w now draw (grown_of (outcome_of did.deed)) event) did old new v)
    → IfOk r (λ did. (history : List Observation) → Carries history w → P (observation_told now draw event (report_of did) new.bytes ∷ history) v)
holds-on P holds w now draw event onward fits (Ok did) old new v does = λ history c.
    let s = step_of w now draw (grown_of (outcome_of did.deed)) event in
    let bytes : new.bytes ≡ s.bytes = ap (λ (d : Datagram). d.bytes) does.1 in
    let said : observation_told now draw event (report_of did) new.bytes ≡ observation_of now draw event s = λ i. observation_told now draw event ((told w v now draw (grown_of (outcome_of did.deed)) event did old new fits does).0 i) (bytes i) in
    let on = keeps_step w history now draw (grown_of (outcome_of did.deed)) event c onward fits in
    subst (λ (e : Observation). P (e ∷ history) v) (sym said) (subst (λ (x : State). P (observation_of now draw event s ∷ history) x) (sym does.2) (holds (observation_of now draw event s ∷ history) s.state on))
holds-on P holds w now draw event onward fits (Err e) old new v does = tt
