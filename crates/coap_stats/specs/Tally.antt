-- Counts of what turns did.
use Rattle.std.specs.Prelude.{Bool, true, false, not, List, [], ◌∷◌, Option, Some, None, is_some, if◌then◌else◌}
pub use Rattle.coap_counts.specs.Requests.{capped, more, is_again, is_hit, is_joined, is_opened, is_overloaded, is_refused, lacks_id, lacks_record_room, no_refusals, no_requests, refusals_with, requests_with, with_refusal, with_request}
use Rattle.coap_model.specs.declared.report.Outcome.{Outcome}
use Rattle.coap_model.specs.declared.report.Outcome.TheVariants.{Answered, Resent, GaveUp}
use Rattle.coap_model.specs.declared.report.Report.{Report}
use Rattle.coap_model.specs.declared.report.Storing.{Storing}
use Rattle.coap_model.specs.declared.report.Storing.TheVariants.{Kept, TooLarge, NoMemory, NotStored}
use Rattle.coap_model.specs.Events.{Event, arrival, tick}
use Rattle.coap_core.specs.Told.{Told, report_told}
use Rattle.coap_stats.specs.declared.tally.AnswerCounts.{AnswerCounts}
use Rattle.coap_stats.specs.declared.tally.Tally.{Tally}

-- ---- what an outcome is

abbrev pub is_resent : Outcome → Bool
is_resent Resent = true
is_resent _ = false

abbrev pub is_given_up : Outcome → Bool
is_given_up GaveUp = true
is_given_up _ = false

abbrev pub is_kept : Storing → Bool
is_kept Kept = true
is_kept _ = false

abbrev pub is_too_large : Storing → Bool
is_too_large TooLarge = true
is_too_large _ = false

abbrev pub lacks_memory : Storing → Bool
lacks_memory NoMemory = true
lacks_memory _ = false

abbrev pub is_not_stored : Storing → Bool
is_not_stored NotStored = true
is_not_stored _ = false

-- an answer came, with which the cache did this
abbrev pub is_answered : (Storing → Bool) → Outcome → Bool
is_answered stores (Answered storing) = stores storing
is_answered stores _ = false

-- ---- what was told

abbrev pub is_datagram : Event → Bool
is_datagram (arrival source bytes) = true
is_datagram tick = false

abbrev pub came : Told → Bool
came t = is_datagram t.turn.event

-- a step was done, with such an outcome
abbrev pub did_by : (Outcome → Bool) → Option Report → Bool
did_by is None = false
did_by is (Some report) = is report.outcome

abbrev pub did : (Outcome → Bool) → Told → Bool
did is t = did_by is (report_told t)

-- a datagram was sent, and was taken or not
abbrev pub sent_by : Option Report → Bool
sent_by None = false
sent_by (Some report) = is_some report.send

abbrev pub was_taken : Told → Bool
was_taken t = if sent_by (report_told t) then t.went else false

abbrev pub was_not_taken : Told → Bool
was_not_taken t = if sent_by (report_told t) then not t.went else false

-- memory ran out
abbrev pub was_lost : Told → Bool
was_lost t = not (is_some (report_told t))

-- ---- counts

abbrev pub no_answers : AnswerCounts
no_answers = record { kept = 0; too_large = 0; no_memory = 0; not_stored = 0 }

abbrev pub no_tally : Tally
no_tally = record {
  last = 0;
  received = 0;
  sent = 0;
  send_faults = 0;
  lost = 0;
  requests = no_requests;
  answers = no_answers;
  resent = 0;
  gave_up = 0;
}

-- the counts with one more outcome, if there is one: each count is of outcomes that pass its test
module _ (did : (Outcome → Bool) → Bool) where
  abbrev pub answers_with : AnswerCounts → AnswerCounts
  answers_with n = record {
    kept = more (did (is_answered is_kept)) n.kept;
    too_large = more (did (is_answered is_too_large)) n.too_large;
    no_memory = more (did (is_answered lacks_memory)) n.no_memory;
    not_stored = more (did (is_answered is_not_stored)) n.not_stored;
  }

abbrev pub with_answer : Storing → AnswerCounts → AnswerCounts
with_answer storing n = answers_with (λ is. is (Answered storing)) n

abbrev pub with_outcome : Outcome → Tally → Tally
with_outcome outcome n = record n {
  requests = with_request outcome n.requests;
  answers = answers_with (λ is. is outcome) n.answers;
  resent = more (is_resent outcome) n.resent;
  gave_up = more (is_given_up outcome) n.gave_up;
}

abbrev pub with_sent : Bool → Tally → Tally
with_sent went n =
    record n { sent = more went n.sent; send_faults = more (not went) n.send_faults }

-- the counts with one more turn
abbrev pub with_told : Told → Tally → Tally
with_told t n = record {
  last = t.turn.now;
  received = more (came t) n.received;
  sent = more (was_taken t) n.sent;
  send_faults = more (was_not_taken t) n.send_faults;
  lost = more (was_lost t) n.lost;
  requests = requests_with (λ is. did is t) n.requests;
  answers = answers_with (λ is. did is t) n.answers;
  resent = more (did is_resent t) n.resent;
  gave_up = more (did is_given_up t) n.gave_up;
}

-- the counts of these turns, the newest first
abbrev pub tally_of : List Told → Tally
tally_of [] = no_tally
tally_of (t ∷ before) = with_told t (tally_of before)
