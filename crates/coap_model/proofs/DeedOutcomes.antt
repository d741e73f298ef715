-- What a step did in full, its deed, is what it did in short, its outcome.
use Rattle.std.proofs.Common.{◌≡◌, ℕ, Bool, List, refl, Option, Some, None}
use Rattle.coap_model.specs.Deeds.{outcome_of}
use Rattle.coap_model.specs.Events.{Event, IsEvent}
use Rattle.coap_model.specs.State.{State, Step, repeats}
use Rattle.coap_model.specs.Step.{step_of}
use Rattle.coap_model.proofs.Rules.{Rule, refusing, lacking, overloading, hitting, joining, opening, repeating, dropping, answering, answering_con, acknowledging, closing, rejecting, ignoring, forwarding, resending, giving_up, delivering, redelivering, abandoning, idling, stuck, rule_of}

-- in each case what a step did in full is what it did in short
rule_deed : {w : State} {now draw : ℕ} {grown : Bool} {event : Event} {s : Step} → Rule w now draw grown event s → outcome_of s.deed ≡ s.report.outcome
rule_deed (refusing client bytes m code first denied free) = refl
rule_deed (lacking client bytes m first free) = refl
rule_deed (overloading client bytes m key first verdict lacks free) = refl
rule_deed (hitting client bytes m key entry first get verdict found usable free) = refl
rule_deed (joining client bytes m key exchange send told first get verdict none found room up) = refl
rule_deed (opening client bytes m key send told first verdict none short room up) = refl
rule_deed {w = w} {now = now} (repeating client bytes m known fits asked found) = repeated known.reply
  where
    repeated : (o : Option (List ℕ)) → outcome_of (repeats w now client o).deed ≡ (repeats w now client o).report.outcome
    repeated None = refl
    repeated (Some reply) = refl
rule_deed (dropping source bytes m fits recorded wanted unknown full) = refl
rule_deed (answering source bytes m x storing store fits read for other stored) = refl
rule_deed (answering_con source bytes m x storing store fits recorded for con unknown room stored) = refl
rule_deed (acknowledging source bytes m x fits read about ack) = refl
rule_deed (closing source bytes m number fits read of_answer) = refl
rule_deed (rejecting source bytes head is con none) = refl
rule_deed (ignoring source bytes quiet none) = refl
rule_deed (forwarding at number x turn is early) = refl
rule_deed (resending at number x turn is early fire) = refl
rule_deed (giving_up at number x turn over) = refl
rule_deed (delivering at number exchange v x a left due found waits there answer told) = refl
rule_deed (redelivering at number v bytes id timer turn fire) = refl
rule_deed (abandoning at number v bytes id timer turn fire) = refl
rule_deed (idling nothing) = refl
rule_deed (stuck s) = refl

-- so it is in each step
pub deed-outcome : (w : State) (now draw : ℕ) (grown : Bool) (event : Event) → IsEvent event → outcome_of (step_of w now draw grown event).deed ≡ (step_of w now draw grown event).report.outcome
deed-outcome w now draw grown event fits = rule_deed (rule_of w now draw grown event fits)
