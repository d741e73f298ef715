-- What an account says of a turn: a line, by its parts in their order.
use Rattle.std.specs.Prelude.{ℕ, ◌+◌, ◌-◌, ◌^◌, ◌&&◌, Bool, true, false, min, if◌then◌else◌, List, [], ◌++◌, codes, Option, None, Some, Result, Ok, Err}
use Rattle.std.specs.Fmt.{decimal}
use Rattle.coap_endpoint.specs.declared.endpoint.Endpoint.{Endpoint}
use Rattle.coap_message.specs.declared.code.Code.{Code}
use Rattle.coap_message.specs.declared.error.DecodeError.{DecodeError}
use Rattle.coap_message.specs.Codes.{code_of, is_code}
use Rattle.coap_message.specs.declared.kind.Kind.{Kind}
use Rattle.coap_message.specs.declared.kind.Kind.TheVariants.{Non}
use Rattle.coap_message.specs.Message.{Message}
use Rattle.coap_message.specs.Reading.{read_message}
use Rattle.coap_model.specs.declared.report.Outcome.{Outcome}
use Rattle.coap_model.specs.declared.report.Outcome.TheVariants as outcomes
use Rattle.coap_model.specs.declared.report.Report.{Report}
use Rattle.coap_model.specs.declared.report.Storing.{Storing}
use Rattle.coap_model.specs.Events.{Event, arrival, tick}
use Rattle.coap_model.specs.State.{State}
use Rattle.coap_core.specs.Told.{Told, report_told}
use Rattle.coap_explain.specs.declared.answering.Answering.{Answering}
use Rattle.coap_explain.specs.declared.answering.Answering.TheVariants.{Own, Passed, Unknown}
use Rattle.coap_explain.specs.declared.due.TickSubject.{TickSubject}
use Rattle.coap_explain.specs.declared.due.TickSubject.TheVariants as subjects
use Rattle.coap_explain.specs.declared.due.DueClient.{DueClient}
use Rattle.coap_explain.specs.declared.due.DueExchange.{DueExchange}
use Rattle.coap_explain.specs.declared.lacks.Lack.{Lack}
use Rattle.coap_explain.specs.declared.lacks.Usage.{Usage}
use Rattle.coap_explain.specs.declared.outcomes.Noted as program
use Rattle.coap_explain.specs.declared.routed.Routed.{Routed}
use Rattle.coap_explain.specs.declared.routed.Routed.TheVariants as ways
use Rattle.coap_explain.specs.Causes.{unprocessed_of}
use Rattle.coap_explain.specs.Details.{dropped_text, refused_text}
use Rattle.coap_explain.specs.Lacks.{to_join, to_open, usage_of}
use Rattle.coap_explain.specs.Noted.{took}
use Rattle.coap_explain.specs.Targets.{endpoint_text, target_text}
use Rattle.coap_explain.specs.Words.{code_text, gateway_text, kind_text, lacks_text, outcome_word, sent_bytes_text, storing_word, unprocessed_word}

-- ---- a line

-- `# NUMBER MOMENT [TIME ]SOURCE[ TYPE CODE[ TARGET]] OUTCOME[ ..]`
pub record Line : Type 0 where
  -- the number of the event, and its moment in milliseconds
  pub number : ℕ
  pub moment : ℕ
  -- its time of day with a blank behind it, if that is known
  pub time : List ℕ
  -- an endpoint, or `tick`
  pub source : List ℕ
  -- the type of the message and its code, if there is one
  pub message : List ℕ
  -- the target of a request, if the routes take it somewhere
  pub target : List ℕ
  -- what was done
  pub outcome : List ℕ
  -- why, and what was sent to whom
  pub details : List ℕ

abbrev pub line_text : Line → List ℕ
line_text l =
    codes "# " ++ decimal l.number ++ codes " " ++ decimal l.moment ++ codes " " ++ l.time
    ++ l.source ++ l.message ++ l.target ++ l.outcome ++ l.details ++ codes "\n"

-- ---- what came

abbrev pub source_text : Event → List ℕ
source_text (arrival from bytes) = endpoint_text from
source_text tick = codes "tick"

abbrev pub message_read : Result Message DecodeError → List ℕ
message_read (Ok m) = kind_text m
message_read (Err e) = []

abbrev pub message_text : Event → List ℕ
message_text (arrival from bytes) = message_read (read_message bytes)
message_text tick = []

abbrev pub routed_text : Routed → List ℕ
routed_text ways.Nowhere = []
routed_text (ways.To target) = codes " " ++ target_text target
routed_text ways.Unknown = codes " target: out of memory"

-- ---- what was noted of a turn

pub record Noted : Type 0 where
  -- what a tick is about, and the URI of the target of the exchange that is due
  pub due : TickSubject
  pub target : List ℕ
  -- what is made of a response
  pub answering : Answering
  -- a GET with the key of the last request could have shared an exchange's answer
  pub joins : Bool

abbrev pub noted_seen : program.Noted → Noted
noted_seen b =
    record { due = b.due; target = b.target.now; answering = b.answering; joins = b.joins }

-- ---- what a tick did

-- an exchange: its origin, how often its request was sent, and how long it took
abbrev pub exchange_text : ℕ → DueExchange → List ℕ
exchange_text now x =
    codes " at " ++ endpoint_text x.origin ++ codes " sent " ++ decimal x.transmissions
    ++ codes " in " ++ decimal (took x now) ++ codes " ms"

-- a client: how often it was sent its answer, and for how long
abbrev pub client_text : ℕ → DueClient → List ℕ
client_text now c =
    codes " on " ++ endpoint_text c.client ++ codes " sent " ++ decimal c.transmissions
    ++ codes " in " ++ decimal (now - c.started) ++ codes " ms"

abbrev pub to_text : Option Endpoint → List ℕ
to_text None = []
to_text (Some to) = codes " to " ++ endpoint_text to

-- what was sent, and to whom
abbrev pub sent_to_text : Option Endpoint → List ℕ → List ℕ
sent_to_text to sent = sent_bytes_text (read_message sent) ++ to_text to

-- the exchange that an answer is of
abbrev pub of_text : TickSubject → List ℕ → ℕ → List ℕ
of_text (subjects.Exchange x) target now = codes " of " ++ target ++ exchange_text now x
of_text (subjects.Client c) target now = []
of_text subjects.Nothing target now = []

-- a request to an origin, or the delivery of an answer to a client
abbrev pub given_up_text : TickSubject → List ℕ → ℕ → List ℕ
given_up_text (subjects.Exchange x) target now = codes " " ++ target ++ exchange_text now x
given_up_text (subjects.Client c) target now = client_text now c
given_up_text subjects.Nothing target now = []

abbrev pub ticked_text : Outcome → Option Endpoint → List ℕ → ℕ → Noted → List ℕ
ticked_text outcomes.SentRequest to sent now n = sent_to_text to sent
ticked_text outcomes.Resent to sent now n = sent_to_text to sent
ticked_text outcomes.Delivered to sent now n = sent_to_text to sent ++ of_text n.due n.target now
ticked_text outcomes.GaveUp to sent now n = given_up_text n.due n.target now
ticked_text _ to sent now n = []

-- ---- what a datagram did

-- 5.02 with its cause, or the code with what the cache did with the answer
abbrev pub answering_text : Answering → Code → Storing → List ℕ
answering_text (Own cause) code storing =
    codes " " ++ code_text (code_of 5 2) ++ codes " " ++ gateway_text cause
answering_text Passed code storing =
    codes " " ++ code_text code ++ codes " " ++ storing_word storing
answering_text Unknown code storing = codes " answer: out of memory"

abbrev pub answered_text : Answering → Storing → Result Message DecodeError → List ℕ
answered_text answering storing (Ok m) = answering_text answering m.code storing
answered_text answering storing (Err e) = []

-- what was in use before a 5.03 of this type took its Message ID
abbrev pub is_non : Kind → Bool
is_non Non = true
is_non _ = false

abbrev pub before_reply : Kind → Usage → Usage
before_reply kind u =
    if is_non kind then record u { free_ids = min (u.free_ids + 1) (2 ^ 64 - 1) } else u

-- what was lacking for a request that was turned away with 5.03: a GET that could have shared an
-- answer needed less
abbrev pub overload_of : State → Endpoint → Message → Bool → List (Option Lack)
overload_of w from m joins =
    if is_code m.code (code_of 0 1) && joins
    then to_join (before_reply m.kind (usage_of w from))
    else to_open (before_reply m.kind (usage_of w from))

abbrev pub overload_text : State → Endpoint → Bool → Result Message DecodeError → List ℕ
overload_text w from joins (Ok m) = lacks_text (overload_of w from m joins)
overload_text w from joins (Err e) = []

abbrev pub unprocessed_text : ℕ → List ℕ → List ℕ
unprocessed_text most bytes = codes " " ++ unprocessed_word (unprocessed_of most bytes)

-- `sent` is what was sent, and `w` the proxy after the step
abbrev pub arrived_text :
    Outcome → Endpoint → List ℕ → List ℕ → State → Noted → List ℕ
arrived_text outcomes.Ignored from bytes sent w n =
    unprocessed_text w.setting.limits.datagram bytes
arrived_text outcomes.Rejected from bytes sent w n =
    unprocessed_text w.setting.limits.datagram bytes
arrived_text outcomes.Again from bytes sent w n = sent_bytes_text (read_message sent)
arrived_text outcomes.Hit from bytes sent w n = sent_bytes_text (read_message sent)
arrived_text outcomes.Joined from bytes sent w n = sent_bytes_text (read_message sent)
arrived_text outcomes.Opened from bytes sent w n = sent_bytes_text (read_message sent)
arrived_text outcomes.NoRecordRoom from bytes sent w n = dropped_text w from (read_message bytes)
arrived_text (outcomes.Refused code) from bytes sent w n =
    codes " " ++ code_text code ++ refused_text code (read_message bytes)
arrived_text outcomes.Overloaded from bytes sent w n =
    codes " 5.03" ++ overload_text w from n.joins (read_message bytes)
arrived_text (outcomes.Answered storing) from bytes sent w n =
    answered_text n.answering storing (read_message bytes)
arrived_text _ from bytes sent w n = []

-- ---- what a turn did

abbrev pub outcome_text : Option Report → List ℕ
outcome_text None = codes " out of memory"
outcome_text (Some report) = codes " " ++ outcome_word report.outcome

abbrev pub done_text : Event → Report → List ℕ → ℕ → State → Noted → List ℕ
done_text (arrival from bytes) report sent now w n =
    arrived_text report.outcome from bytes sent w n
done_text tick report sent now w n = ticked_text report.outcome report.send sent now n

abbrev pub details_of : Event → Option Report → List ℕ → ℕ → State → Noted → List ℕ
details_of event None sent now w n = []
details_of event (Some report) sent now w n = done_text event report sent now w n

-- the line of a turn, at this time of day, whose request the routes take there
abbrev pub line_of : Told → List ℕ → Routed → Noted → Line
line_of t time routed n = record {
  number = t.state.events;
  moment = t.turn.now;
  time = time;
  source = source_text t.turn.event;
  message = message_text t.turn.event;
  target = routed_text routed;
  outcome = outcome_text (report_told t);
  details = details_of t.turn.event (report_told t) t.bytes t.turn.now t.state n;
}
