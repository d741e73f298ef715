-- Runs of any length preserve what is carried, and no step changes the setting.
use Rattle.std.proofs.Common.{◌≡◌, ℕ, Bool, ◌+◌, List, [], ◌∷◌, refl, sym, ◌∙◌, subst, Option, Some, None}
use Rattle.coap_target.specs.Routes.{AreRoutes}
use Rattle.coap_model.specs.Setting.{Setting}
use Rattle.coap_model.specs.Events.{Event, IsEvent}
use Rattle.coap_model.specs.State.{State, Step, repeats}
use Rattle.coap_model.specs.Step.{step_of}
use Rattle.coap_model.specs.Carries.{Carries}
use Rattle.coap_model.specs.Promised.{Promised}
use Rattle.coap_model.specs.Runs.{Taken, turns_of, AreTurns, Run, new_run, one_turn, run_of}
use Rattle.coap_model.proofs.Rules.{Rule, refusing, lacking, overloading, hitting, joining, opening, repeating, dropping, answering, answering_con, acknowledging, closing, rejecting, ignoring, forwarding, resending, giving_up, delivering, redelivering, abandoning, idling, stuck, rule_of}
use Rattle.coap_model.proofs.AllCases.{keeps_step, starts}
use Rattle.coap_model.proofs.PromisesHold.{promises}

-- no case of a step changes the setting
rule_setting : {w : State} {now draw : ℕ} {grown : Bool} {event : Event} {s : Step} → Rule w now draw grown event s → s.state.setting ≡ w.setting
rule_setting (refusing client bytes m code first denied free) = refl
rule_setting (lacking client bytes m first free) = refl
rule_setting (overloading client bytes m key first verdict lacks free) = refl
rule_setting (hitting client bytes m key entry first get verdict found usable free) = refl
rule_setting (joining client bytes m key exchange send told first get verdict none found room up) = refl
rule_setting (opening client bytes m key send told first verdict none short room up) = refl
rule_setting {w = w} {now = now} (repeating client bytes m known fits asked found) = repeated known.reply
  where
    repeated : (o : Option (List ℕ)) → (repeats w now client o).state.setting ≡ w.setting
    repeated None = refl
    repeated (Some reply) = refl
rule_setting (dropping source bytes m fits recorded wanted unknown full) = refl
rule_setting (answering source bytes m x storing store fits read for other stored) = refl
rule_setting (answering_con source bytes m x storing store fits recorded for con unknown room stored) = refl
rule_setting (acknowledging source bytes m x fits read about ack) = refl
rule_setting (closing source bytes m number fits read of_answer) = refl
rule_setting (rejecting source bytes head is con none) = refl
rule_setting (ignoring source bytes quiet none) = refl
rule_setting (forwarding at number x turn is early) = refl
rule_setting (resending at number x turn is early fire) = refl
rule_setting (giving_up at number x turn over) = refl
rule_setting (delivering at number exchange v x a left due found waits there answer told) = refl
rule_setting (redelivering at number v bytes id timer turn fire) = refl
rule_setting (abandoning at number v bytes id timer turn fire) = refl
rule_setting (idling nothing) = refl
rule_setting (stuck s) = refl

-- so no step does
pub setting_stays : (w : State) (now draw : ℕ) (grown : Bool) (event : Event) → IsEvent event → (step_of w now draw grown event).state.setting ≡ w.setting
setting_stays w now draw grown event fits = rule_setting (rule_of w now draw grown event fits)

-- the clock advances to the moment of the step, and by one event
abbrev IsOneOn : State → ℕ → State → Type 0
IsOneOn w now v = (v.last ≡ now) × (v.events ≡ w.events + 1)

-- in each case the clock advances by one event
rule_clock : {w : State} {now draw : ℕ} {grown : Bool} {event : Event} {s : Step} → Rule w now draw grown event s → IsOneOn w now s.state
rule_clock (refusing client bytes m code first denied free) = (refl, refl)
rule_clock (lacking client bytes m first free) = (refl, refl)
rule_clock (overloading client bytes m key first verdict lacks free) = (refl, refl)
rule_clock (hitting client bytes m key entry first get verdict found usable free) = (refl, refl)
rule_clock (joining client bytes m key exchange send told first get verdict none found room up) = (refl, refl)
rule_clock (opening client bytes m key send told first verdict none short room up) = (refl, refl)
rule_clock {w = w} {now = now} (repeating client bytes m known fits asked found) = repeated known.reply
  where
    repeated : (o : Option (List ℕ)) → IsOneOn w now (repeats w now client o).state
    repeated None = (refl, refl)
    repeated (Some reply) = (refl, refl)
rule_clock (dropping source bytes m fits recorded wanted unknown full) = (refl, refl)
rule_clock (answering source bytes m x storing store fits read for other stored) = (refl, refl)
rule_clock (answering_con source bytes m x storing store fits recorded for con unknown room stored) = (refl, refl)
rule_clock (acknowledging source bytes m x fits read about ack) = (refl, refl)
rule_clock (closing source bytes m number fits read of_answer) = (refl, refl)
rule_clock (rejecting source bytes head is con none) = (refl, refl)
rule_clock (ignoring source bytes quiet none) = (refl, refl)
rule_clock (forwarding at number x turn is early) = (refl, refl)
rule_clock (resending at number x turn is early fire) = (refl, refl)
rule_clock (giving_up at number x turn over) = (refl, refl)
rule_clock (delivering at number exchange v x a left due found waits there answer told) = (refl, refl)
rule_clock (redelivering at number v bytes id timer turn fire) = (refl, refl)
rule_clock (abandoning at number v bytes id timer turn fire) = (refl, refl)
rule_clock (idling nothing) = (refl, refl)
rule_clock (stuck s) = (refl, refl)

-- so it does in each step
pub clock_after : (w : State) (now draw : ℕ) (grown : Bool) (event : Event) → IsEvent event → ((step_of w now draw grown event).state.last ≡ now) × ((step_of w now draw grown event).state.events ≡ w.events + 1)
clock_after w now draw grown event fits = rule_clock (rule_of w now draw grown event fits)

-- runs preserve what is carried
pub runs_carry : (r : Run) (turns : List Taken) → Carries r.history r.state → AreTurns r.state.last (turns_of turns) → Carries (run_of r turns).history (run_of r turns).state
runs_carry r [] c are = c
runs_carry r (t ∷ turns) c are =
    let next = keeps_step r.state r.history t.turn.now t.turn.draw t.grown t.turn.event c are.0 are.1 in
    runs_carry (one_turn r t) turns next (subst (λ (last : ℕ). AreTurns last (turns_of turns)) (sym (clock_after r.state t.turn.now t.turn.draw t.grown t.turn.event are.1).0) are.2)

-- and the setting
setting_after : (r : Run) (turns : List Taken) → AreTurns r.state.last (turns_of turns) → Carries r.history r.state → (run_of r turns).state.setting ≡ r.state.setting
setting_after r [] are c = refl
setting_after r (t ∷ turns) are c =
    let next = keeps_step r.state r.history t.turn.now t.turn.draw t.grown t.turn.event c are.0 are.1 in
    setting_after (one_turn r t) turns (subst (λ (last : ℕ). AreTurns last (turns_of turns)) (sym (clock_after r.state t.turn.now t.turn.draw t.grown t.turn.event are.1).0) are.2) next ∙ setting_stays r.state t.turn.now t.turn.draw t.grown t.turn.event are.1

-- so a run of a new proxy keeps its setting
pub runs_keep_setting : (setting : Setting) (turns : List Taken) → AreRoutes setting.routes → AreTurns 0 (turns_of turns) → (run_of (new_run setting) turns).state.setting ≡ setting
runs_keep_setting setting turns routes are = setting_after (new_run setting) turns are (starts setting routes)

-- and it is promised
pub runs_promise : (setting : Setting) (turns : List Taken) → AreRoutes setting.routes → AreTurns 0 (turns_of turns) → Promised (run_of (new_run setting) turns).history (run_of (new_run setting) turns).state
runs_promise setting turns routes are = promises _ _ (runs_carry (new_run setting) turns (starts setting routes) are)
