-- No datagram that a proxy sends is longer than the limit.
use Rattle.std.proofs.Common.{◌≡◌, ℕ, Bool, ◌≤◌, true, List, length, Option, Some, None, refl, subst, arith}
use Rattle.coap_message.specs.Spelling.{spelling}
use Rattle.coap_message.proofs.Spellings.{spelling-length}
use Rattle.coap_forward.proofs.Forms.{length-with_id}
use Rattle.coap_limits.specs.declared.limits.Limit.TheVariants.{Datagram}
use Rattle.coap_limits.specs.Limits.{AreLimits}
use Rattle.coap_model.specs.Deeds.{code_of}
use Rattle.coap_model.specs.Events.{Event, IsEvent}
use Rattle.coap_forward.specs.Messages.{reset}
use Rattle.coap_model.specs.State.{State, Step, repeats, next_id, records_of}
use Rattle.coap_model.specs.Step.{step_of}
use Rattle.coap_model.specs.History.{Observation, Action}
use Rattle.coap_model.specs.Carries.{Bears, Carries}
use Rattle.coap_model.proofs.Encodings.{acknowledgement-short}
use Rattle.coap_model.proofs.Rules.{Rule, refusing, lacking, overloading, hitting, joining, opening, repeating, dropping, answering, answering_con, acknowledging, closing, rejecting, ignoring, forwarding, resending, giving_up, delivering, redelivering, abandoning, idling, stuck, rule_of}
use Rattle.coap_model.proofs.Turns.{turn-exchange}
use Rattle.coap_model.proofs.CaseReplied.{request-came}
use Rattle.coap_model.proofs.CaseDelivered.{served, ending-fits}
use Rattle.coap_model.proofs.CaseWaiterChanged.{delivering-is}
use Rattle.coap_model.proofs.Acceptances.{taken-short}
use Rattle.coap_model.proofs.OwnReplies.{own-short, overload-short}
use Rattle.coap_model.proofs.CaseHit.{hit-fits}
use Rattle.coap_model.proofs.Lists.{find-holds, All-filter}
use Rattle.coap_endpoint.proofs.Lists.{All-weaken}
use Rattle.coap_message.specs.declared.kind.Kind.{Kind}
use Rattle.coap_message.specs.declared.kind.Kind.TheVariants.{Con, Non, Ack, Rst}
use Rattle.coap_dedup.specs.Lists.{is_of, is_living, record_of, reply_bytes}
use Rattle.coap_dedup.specs.Records.{Records, living_at}
use Rattle.std.specs.List.{AllByRecursion}
use Rattle.std.specs.Option.{option_map_or}
use Rattle.coap_option.specs.Selection.{tags_of}

-- ---- the proxy's own replies

-- a Reset is short
reset-short : (id : ℕ) → length (spelling (reset id)) ≤ 128
reset-short id = omega (arith, spelling-length (reset id))

-- ---- each case

-- in each case of a step, its datagram fits
rule_fits : {w : State} {now draw : ℕ} {grown : Bool} {event : Event} {s : Step} (history : List Action) → Bears history w → AreLimits w.setting.limits → Rule w now draw grown event s → length s.bytes ≤ w.setting.limits.datagram
rule_fits {w = w} history c are (refusing client bytes m why first denied free) = let came = request-came w client bytes m first.fits first.asked in omega (arith, (are Datagram).0, own-short m (code_of why) (next_id w) m.token came.brings.spells.message.token)
rule_fits {w = w} history c are (lacking client bytes m first free) = omega arith
rule_fits {w = w} history c are (overloading client bytes m key first verdict lacks free) = let came = request-came w client bytes m first.fits first.asked in omega (arith, (are Datagram).0, overload-short m w.setting.limits.retry_s (next_id w) m.token came.brings.spells.message.token)
rule_fits {w = w} {now = now} history c are (hitting client bytes m key entry first get verdict found usable free) = let came = request-came w client bytes m first.fits first.asked in hit-fits w history c key entry found w.setting.limits.datagram now m (next_id w) m.token (tags_of m) (are Datagram).0 (omega arith) came.brings.spells.message.token
rule_fits {w = w} history c are (joining client bytes m key exchange send told first get verdict none found room up) = taken-short client m send told up w.setting.limits.datagram (are Datagram).0
rule_fits {w = w} history c are (opening client bytes m key send told first verdict none short room up) = taken-short client m send told up w.setting.limits.datagram (are Datagram).0
rule_fits {w = w} {now = now} history c are (repeating client bytes m known fits asked found) = go m.kind refl
  where
    most : ℕ
    most = w.setting.limits.datagram

    short : (t : Records) → AllByRecursion (λ r. reply_bytes r ≤ most) t.items → record_of client m.id (living_at now t) ≡ Some known → reply_bytes known ≤ most
    short t all is = (find-holds (λ r. reply_bytes r ≤ most) (is_of client m.id) (living_at now t) known (All-weaken (λ r. (reply_bytes r ≤ most) × (is_living t.lifetime now r ≡ true)) (λ r. reply_bytes r ≤ most) (living_at now t) (λ r h. h.0) (All-filter (λ r. reply_bytes r ≤ most) (is_living t.lifetime now) t.items all)) is).0

    told : (o : Option (List ℕ)) → option_map_or (λ reply. length reply) o 0 ≤ most → length (repeats w now client o).bytes ≤ most
    told None le = omega arith
    told (Some reply) le = le

    go : (k : Kind) → m.kind ≡ k → length (repeats w now client known.reply).bytes ≤ most
    go Con is = told known.reply (short w.con_records (c.con_records.short most (are Datagram).0 (omega arith)) (subst (λ (k : Kind). record_of client m.id (living_at now (records_of k w)) ≡ Some known) is found))
    go Non is = told known.reply (short w.non_records (c.non_records.short most (are Datagram).0 (omega arith)) (subst (λ (k : Kind). record_of client m.id (living_at now (records_of k w)) ≡ Some known) is found))
    go Ack is = told known.reply (short w.non_records (c.non_records.short most (are Datagram).0 (omega arith)) (subst (λ (k : Kind). record_of client m.id (living_at now (records_of k w)) ≡ Some known) is found))
    go Rst is = told known.reply (short w.non_records (c.non_records.short most (are Datagram).0 (omega arith)) (subst (λ (k : Kind). record_of client m.id (living_at now (records_of k w)) ≡ Some known) is found))
rule_fits {w = w} history c are (dropping source bytes m fits recorded wanted unknown full) = omega arith
rule_fits {w = w} history c are (answering source bytes m x storing store fit read for other stored) = omega arith
rule_fits {w = w} history c are (answering_con source bytes m x storing store fit recorded for con unknown room stored) = omega (arith, (are Datagram).0, acknowledgement-short m.id)
rule_fits {w = w} history c are (acknowledging source bytes m x fit read about ack) = omega arith
rule_fits {w = w} history c are (closing source bytes m number fit read of_answer) = omega arith
rule_fits {w = w} history c are (rejecting source bytes head is con none) = omega (arith, (are Datagram).0, reset-short head.id)
rule_fits {w = w} history c are (ignoring source bytes quiet none) = omega arith
rule_fits {w = w} {now = now} history c are (forwarding at number x turn is early) = omega (arith, length-with_id (next_id w) x.form, (turn-exchange w history c now at number x turn).form_short)
rule_fits {w = w} {now = now} history c are (resending at number x turn is early fire) = (turn-exchange w history c now at number x turn).form_short
rule_fits {w = w} history c are (giving_up at number x turn over) = omega arith
rule_fits {w = w} {now = now} history c are (delivering at number exchange v x a left due found waits there answer told) =
    let s = served w history c number exchange v x a found waits there answer in
    ending-fits w v.kind x.is_get now (next_id w) exchange x.key s.done.ending a v.token v.tags w.setting.limits.datagram s.done.with s.short (are Datagram).0 (omega arith)
rule_fits {w = w} {now = now} history c are (redelivering at number v bytes id timer turn fire) = (delivering-is w history c number id v bytes timer turn.found turn.state).short w.setting.limits.datagram (are Datagram).0 (omega arith)
rule_fits {w = w} history c are (abandoning at number v bytes id timer turn fire) = omega arith
rule_fits {w = w} history c are (idling nothing) = omega arith
rule_fits {w = w} history c are (stuck s) = omega arith

-- so each datagram fits
pub datagrams_fit : (w : State) (history : List Observation) (now draw : ℕ) (grown : Bool) (event : Event) → Carries history w → AreLimits w.setting.limits → IsEvent event → length (step_of w now draw grown event).bytes ≤ w.setting.limits.datagram
datagrams_fit w history now draw grown event c are fits = rule_fits c.actions c.bears are (rule_of w now draw grown event fits)
