-- A tick is idle exactly if nothing is due.
use Rattle.std.proofs.Common.{◌≡◌, ◌≢◌, ℕ, ◌<◌, ◌≤◌, Bool, true, false, leb, List, Option, Some, None, refl, arith}
use Rattle.std.specs.Prelude.{option_map}
use Rattle.std.proofs.lemmas.Bool.{lt-leb, le-leb}
use Rattle.std.proofs.lemmas.Option.{same_Some}
use Rattle.coap_model.specs.declared.due.DueItem.{DueItem}
use Rattle.coap_model.specs.declared.report.Outcome.TheVariants.{Idle}
use Rattle.coap_model.specs.Events.{Event, tick}
use Rattle.coap_model.specs.State.{State, Step}
use Rattle.coap_model.specs.Step.{step_of}
use Rattle.coap_model.specs.Ticks.{moment_of, next_due, item_due, if_due, on_item}
use Rattle.coap_model.specs.History.{Observation, Action}
use Rattle.coap_model.specs.Carries.{Bears, Carries}
use Rattle.coap_model.proofs.CaseIdle.{not-stuck}
use Rattle.coap_model.proofs.Rules.{Rule, refusing, lacking, overloading, hitting, joining, opening, repeating, dropping, answering, answering_con, acknowledging, closing, rejecting, ignoring, forwarding, resending, giving_up, delivering, redelivering, abandoning, idling, stuck, rule_of}

-- if no tick is needed, a tick is idle
pub idle-none : (w : State) (now draw : ℕ) (grown : Bool) → next_due w ≡ None → (step_of w now draw grown tick).report.outcome ≡ Idle
idle-none w now draw grown e = go (item_due w) e
  where
    go : (o : Option DueItem) → option_map moment_of o ≡ None → (on_item w now draw (if_due now o)).report.outcome ≡ Idle
    go None f = refl
    go (Some i) f = absurd cc

-- so is a tick before the moment at which something is due
pub idle-later : (w : State) (now draw at : ℕ) (grown : Bool) → next_due w ≡ Some at → now < at → (step_of w now draw grown tick).report.outcome ≡ Idle
idle-later w now draw at grown e later = go (item_due w) e
  where
    go : (o : Option DueItem) → option_map moment_of o ≡ Some at → (on_item w now draw (if_due now o)).report.outcome ≡ Idle
    go None f = absurd cc
    go (Some i) f = let early : leb (moment_of i) now ≡ false = lt-leb _ _ (let same = same_Some (moment_of i) at f in omega (arith, same, later)) in rw early refl

-- a tick with something due does something
acts : {w : State} {now draw : ℕ} {grown : Bool} {event : Event} {s : Step} (history : List Action) → Bears history w → Rule w now draw grown event s → event ≡ tick → if_due now (item_due w) ≢ None → s.report.outcome ≢ Idle
acts history c (refusing client bytes m code first denied free) ticked due = λ o. cc
acts history c (lacking client bytes m first free) ticked due = λ o. cc
acts history c (overloading client bytes m key first verdict lacks free) ticked due = λ o. cc
acts history c (hitting client bytes m key entry first get verdict found usable free) ticked due = λ o. cc
acts history c (joining client bytes m key exchange send told first get verdict none found room taken) ticked due = λ o. cc
acts history c (opening client bytes m key send told first verdict none short room taken) ticked due = λ o. cc
acts history c (repeating source bytes m known fits recorded found) ticked due = λ o. absurd cc
acts history c (dropping source bytes m fits recorded wanted unknown full) ticked due = λ o. cc
acts history c (answering source bytes m x storing store fits read answer con stored) ticked due = λ o. cc
acts history c (answering_con source bytes m x storing store fits recorded answer con unknown room stored) ticked due = λ o. cc
acts history c (acknowledging source bytes m x fits read about ack) ticked due = λ o. cc
acts history c (closing source bytes m number fits read about) ticked due = λ o. cc
acts history c (rejecting source bytes head is con none) ticked due = λ o. cc
acts history c (ignoring source bytes quiet none) ticked due = λ o. cc
acts history c (forwarding at number x turn is early) ticked due = λ o. cc
acts history c (resending at number x turn is early fire) ticked due = λ o. cc
acts history c (giving_up at number x turn over) ticked due = λ o. cc
acts history c (delivering at number exchange v x a left is found waits there answer left_so) ticked due = λ o. cc
acts history c (redelivering at number v bytes id timer turn fire) ticked due = λ o. cc
acts history c (abandoning at number v bytes id timer turn fire) ticked due = λ o. cc
acts history c (idling nothing) ticked due = λ o. due nothing
acts {w = w} {now = now} history c (stuck s) ticked due = λ o. not-stuck w history c now s

pub acts-due : (w : State) (history : List Observation) (now draw at : ℕ) (grown : Bool) → Carries history w → next_due w ≡ Some at → at ≤ now → (step_of w now draw grown tick).report.outcome ≢ Idle
acts-due w history now draw at grown c e come = acts c.actions c.bears (rule_of w now draw grown tick tt) refl (some (item_due w) e)
  where
    some : (o : Option DueItem) → option_map moment_of o ≡ Some at → if_due now o ≢ None
    some None f none = absurd cc
    some (Some i) f none = let late : leb (moment_of i) now ≡ true = le-leb _ _ (let same = same_Some (moment_of i) at f in omega (arith, same, come)) in let g : Some i ≡ None = rw late at none in cc
