-- What may follow the actions of a proxy at a turn is the observation of its step.
use Rattle.std.proofs.Common.{◌≡◌, Bool, ◌<◌, ◌≤◌, List, ◌∷◌, refl, ap, subst, arith}
use Rattle.std.specs.Prelude.{◌^◌}
use Rattle.coap_model.specs.Setting.{Setting}
use Rattle.coap_model.specs.Events.{IsEvent}
use Rattle.coap_model.specs.State.{State}
use Rattle.coap_model.specs.Step.{step_of}
use Rattle.coap_model.specs.History.{Observation, Action, AreIds}
use Rattle.coap_model.specs.Justified.{HaveOneMemory, AllJustified, MayFollow}
use Rattle.coap_model.specs.Runs.{observation_of}
use Rattle.coap_model.specs.Carries.{Carries}
use Rattle.coap_model.proofs.Positions.{doing}
use Rattle.coap_model.proofs.AllCases.{keeps_actions}
use Rattle.coap_model.proofs.Runs.{setting_stays}
use Rattle.coap_model.proofs.OneAnswer.{one-answer}

-- what may follow is the observation of the step, with the same memory
pub step-answer : (w : State) (history : List Observation) (c : Carries history w) (d : Action) (grown : Bool) → w.last ≤ d.observation.now → w.opened < 2 ^ 64 → IsEvent d.observation.event → MayFollow w.setting c.actions d → HaveOneMemory d.observation.report.outcome (step_of w d.observation.now d.observation.draw grown d.observation.event).report.outcome → d.observation ≡ observation_of d.observation.now d.observation.draw d.observation.event (step_of w d.observation.now d.observation.draw grown d.observation.event)
step-answer w history c d grown onward few fits f memory =
    let now = d.observation.now in
    let draw = d.observation.draw in
    let event = d.observation.event in
    let s = step_of w now draw grown event in
    let k = keeps_actions w c.actions now draw grown event c.bears onward fits in
    let kept = setting_stays w now draw grown event fits in
    let ids = subst (λ (t : Setting). AreIds t.first_id (doing k.act (observation_of now draw event s) ∷ c.actions)) kept k.bears.ids.are_ids in
    let past = subst (λ (t : Setting). AllJustified t (doing k.act (observation_of now draw event s) ∷ c.actions)) kept k.bears.past in
    let last = c.bears.clock.last in
    let opened = c.bears.numbers.opened in
    ap (λ (e : Action). e.observation) (one-answer w.setting c.actions d (doing k.act (observation_of now draw event s)) c.bears.past (omega arith) f (record { not_before = omega arith; justified = past.0; id = ids.0 }) (record { now = refl; draw = refl; event = refl; memory = memory }))
