-- Each step of a proxy that carries a history leaves one that carries the history with the step's
-- observation in front.
use Rattle.std.proofs.Common.{◌≡◌, ℕ, Bool, true, false, cond, eqb, ◌+◌, ◌≤◌, List, [], ◌∷◌, refl, ap, arith}
use Rattle.std.specs.Prelude.{◌/◌}
use Rattle.coap_target.specs.Routes.{AreRoutes}
use Rattle.coap_model.specs.Setting.{Setting}
use Rattle.coap_model.specs.Events.{Event, IsEvent}
use Rattle.coap_model.specs.State.{State, Step, new_state}
use Rattle.coap_model.specs.Step.{step_of}
use Rattle.coap_model.specs.History.{Observation, Act, no_item, admits, moves, serves, Action, opened_in, admitted_in}
use Rattle.coap_model.specs.Runs.{observation_of}
use Rattle.coap_model.specs.Carries.{Ids, Bears, Carries}
use Rattle.coap_model.proofs.Rules.{Rule, refusing, lacking, overloading, hitting, joining, opening, repeating, dropping, answering, answering_con, acknowledging, closing, rejecting, ignoring, forwarding, resending, giving_up, delivering, redelivering, abandoning, idling, stuck, rule_of}
use Rattle.coap_model.proofs.CaseReplied.{keeps_refusing, keeps_overloading, keeps_lacking, keeps_repeating, keeps_dropping, keeps_rejecting, keeps_ignoring}
use Rattle.coap_model.proofs.Positions.{doing}
use Rattle.coap_model.proofs.CaseIdle.{keeps_idling, not-stuck}
use Rattle.coap_model.proofs.CaseResentOrGivenUp.{keeps_resending, keeps_giving_up}
use Rattle.coap_model.proofs.CaseOpenOrJoin.{keeps_joining, keeps_opening}
use Rattle.coap_model.proofs.CaseHit.{keeps_hitting}
use Rattle.coap_model.proofs.Stores.{store-empty}
use Rattle.coap_model.proofs.CaseSent.{keeps_forwarding}
use Rattle.coap_model.proofs.CaseAnswered.{keeps_answering, keeps_answering_con, keeps_acknowledging}
use Rattle.coap_model.proofs.CaseDelivered.{keeps_delivering}
use Rattle.coap_model.proofs.CaseWaiterChanged.{keeps_closing, keeps_redelivering, keeps_abandoning}

-- the tables after an observation agree with its action in front of the actions before it
pub record IsKept (history : List Action) (e : Observation) (w : State) : Type 0 where
  pub act : Act
  pub bears : Bears (doing act e ∷ history) w

-- each case of a step preserves what is carried
keeps_rule : {w : State} {now draw : ℕ} {grown : Bool} {event : Event} {s : Step} (history : List Action) → Bears history w → w.last ≤ now → Rule w now draw grown event s → IsKept history (observation_of now draw event s) s.state
keeps_rule {w = w} {now = now} {draw = draw} history c onward (refusing client bytes m code first denied free) = record { act = no_item; bears = keeps_refusing w history c now draw client bytes m onward first code denied free }
keeps_rule {w = w} {now = now} {draw = draw} history c onward (lacking client bytes m first free) = record { act = no_item; bears = keeps_lacking w history c now draw client bytes m onward first free }
keeps_rule {w = w} {now = now} {draw = draw} history c onward (overloading {lacks = few} client bytes m key first verdict lacks free) = record { act = no_item; bears = keeps_overloading w history c now draw client bytes m onward first few key verdict lacks free }
keeps_rule {w = w} {now = now} {draw = draw} history c onward (hitting client bytes m key entry first get verdict found usable free) = record { act = no_item; bears = keeps_hitting w history c now draw client bytes m key entry onward first get verdict found usable free }
keeps_rule {w = w} {now = now} {draw = draw} history c onward (joining client bytes m key exchange send told first get verdict none found room up) = record { act = admits (admitted_in history + 1) exchange; bears = keeps_joining w history c now draw client bytes m key exchange send told onward first get verdict none found room up }
keeps_rule {w = w} {now = now} {draw = draw} history c onward (opening client bytes m key send told first verdict none short room up) = record { act = admits (admitted_in history + 1) (opened_in history + 1); bears = keeps_opening w history c now draw client bytes m key send told onward first verdict none short room up }
keeps_rule {w = w} {now = now} {draw = draw} history c onward (repeating client bytes m known fits asked found) = record { act = no_item; bears = keeps_repeating w history c now draw client bytes m known onward fits asked found }
keeps_rule {w = w} {now = now} {draw = draw} history c onward (dropping source bytes m fits recorded wanted unknown full) = record { act = no_item; bears = keeps_dropping w history c now draw source bytes m onward fits recorded wanted unknown full }
keeps_rule {w = w} {now = now} {draw = draw} {grown = grown} history c onward (answering source bytes m x storing store fits read for other stored) = record { act = moves x.0; bears = keeps_answering w history c now draw source bytes grown m x storing store onward fits read for other stored }
keeps_rule {w = w} {now = now} {draw = draw} {grown = grown} history c onward (answering_con source bytes m x storing store fits recorded for con unknown room stored) = record { act = moves x.0; bears = keeps_answering_con w history c now draw source bytes grown m x storing store onward fits recorded for con unknown room stored }
keeps_rule {w = w} {now = now} {draw = draw} history c onward (acknowledging source bytes m x fits read about ack) = record { act = moves x.0; bears = keeps_acknowledging w history c now draw source bytes m x onward fits read about ack }
keeps_rule {w = w} {now = now} {draw = draw} history c onward (closing source bytes m number fits read of_answer) = record { act = serves number; bears = keeps_closing w history c now draw source bytes m number onward fits read of_answer }
keeps_rule {w = w} {now = now} {draw = draw} history c onward (rejecting {why = why} source bytes head is con none) = record { act = no_item; bears = keeps_rejecting why w history c now draw source bytes head onward is con none }
keeps_rule {w = w} {now = now} {draw = draw} history c onward (ignoring {why = why} source bytes quiet none) = record { act = no_item; bears = keeps_ignoring why w history c now draw source bytes onward quiet none }
keeps_rule {w = w} {now = now} {draw = draw} history c onward (forwarding at number x turn is early) = record { act = moves number; bears = keeps_forwarding w history c now draw at number x onward turn is early }
keeps_rule {w = w} {now = now} {draw = draw} history c onward (resending at number x turn is early fire) = record { act = moves number; bears = keeps_resending w history c now draw at number x onward turn is early fire }
keeps_rule {w = w} {now = now} {draw = draw} history c onward (giving_up {silence = silence} at number x turn over) = record { act = moves number; bears = keeps_giving_up silence w history c now draw at number x onward turn over }
keeps_rule {w = w} {now = now} {draw = draw} history c onward (delivering at number exchange v x a left due found waits there answer told) = record { act = serves number; bears = keeps_delivering w history c now draw at number exchange v x a left onward due found waits there answer told }
keeps_rule {w = w} {now = now} {draw = draw} history c onward (redelivering at number v bytes id timer turn fire) = record { act = serves number; bears = keeps_redelivering w history c now draw at number v bytes id timer onward turn fire }
keeps_rule {w = w} {now = now} {draw = draw} history c onward (abandoning at number v bytes id timer turn fire) = record { act = serves number; bears = keeps_abandoning w history c now draw at number v bytes id timer onward turn fire }
keeps_rule {w = w} {now = now} {draw = draw} history c onward (idling nothing) = record { act = no_item; bears = keeps_idling w history c now draw onward nothing }
keeps_rule {w = w} {now = now} {draw = draw} history c onward (stuck s) = not-stuck w history c now s

-- a step continues the actions before it
pub keeps_actions : (w : State) (history : List Action) (now draw : ℕ) (grown : Bool) (event : Event) → Bears history w → w.last ≤ now → IsEvent event → IsKept history (observation_of now draw event (step_of w now draw grown event)) (step_of w now draw grown event).state
keeps_actions w history now draw grown event c onward fits = keeps_rule history c onward (rule_of w now draw grown event fits)

-- so each step preserves what is carried
pub keeps_step : (w : State) (history : List Observation) (now draw : ℕ) (grown : Bool) (event : Event) → Carries history w → w.last ≤ now → IsEvent event → Carries (observation_of now draw event (step_of w now draw grown event) ∷ history) (step_of w now draw grown event).state
keeps_step w history now draw grown event c onward fits =
    let e = observation_of now draw event (step_of w now draw grown event) in
    let k = keeps_actions w c.actions now draw grown event c.bears onward fits in
    record { actions = doing k.act e ∷ c.actions; told = ap (λ (past : List Observation). e ∷ past) c.told; bears = k.bears }

-- a new proxy has given out no ids
new_ids-are : (setting : Setting) → Ids [] (new_state setting)
new_ids-are setting = record { following = omega arith; given = λ now later. none (eqb 0 (now / 247000)); windows = λ v. omega arith; are_ids = tt }
  where
    none : (b : Bool) → ◌≡◌ {A = ℕ} (cond b 0 0) 0
    none true = refl
    none false = refl

-- a new proxy carries the empty history
pub starts : (setting : Setting) → AreRoutes setting.routes → Carries [] (new_state setting)
starts setting are =
    record {
      actions = [];
      told = refl;
      bears = record {
        routes = are;
        clock = record { events = refl; last = refl; in_order = tt };
        numbers = record { opened = refl; admitted = refl };
        ids = new_ids-are setting;
        unused = record { exchanges = λ x above. (tt, tt); sends = λ x above. refl; waiters = λ v above. tt; deliveries = λ v above. refl };
        schedules = λ act. record { few = omega arith; spaced = tt };
        whole = record { exchanges = refl; waiters = refl; rising = tt; waiters_rise = tt; awaited = tt; waited = tt; unended = λ x was never. absurd was.is_there; unserved = λ v x was never. absurd was.is_there };
        exchanges = tt;
        waiters = tt;
        store = store-empty setting;
        con_records = record { same = λ now later. refl; limit = refl; per_client = refl; lifetime = refl; are = record { within = omega arith; within_each = λ from. omega arith; in_order = tt; apart = tt }; until = tt; short = λ most wide long. tt };
        non_records = record { same = λ now later. refl; limit = refl; per_client = refl; lifetime = refl; are = record { within = omega arith; within_each = λ from. omega arith; in_order = tt; apart = tt }; until = tt; short = λ most wide long. tt };
        within = record { exchanges = omega arith; waiters = omega arith; pace = λ to. omega arith; ids = λ now later. let none = (new_ids-are setting).given now later in omega arith };
        past = tt;
      };
    }
