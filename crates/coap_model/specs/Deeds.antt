-- What a step did, in full, and what that is in short.
use Rattle.std.specs.Prelude.{ℕ, Bool, true, false, nat_le, if◌then◌else◌, List, length, Option, Some, None}
use Rattle.coap_message.specs.declared.code.Code.{Code}
use Rattle.coap_message.specs.declared.code.TheConstants.Code.{BAD_REQUEST, BAD_OPTION, NOT_FOUND, METHOD_NOT_ALLOWED, PROXYING_NOT_SUPPORTED, REQUEST_ENTITY_TOO_LARGE}
use Rattle.coap_message.specs.declared.kind.Kind.{Kind}
use Rattle.coap_message.specs.Message.{Message}
use Rattle.coap_message.specs.Codes.{is_response}
use Rattle.coap_forward.specs.Messages.{is_con, is_empty, is_get}
use Rattle.coap_store.specs.declared.stored.Stored.{Stored}
use Rattle.coap_pending.specs.declared.exchange.ExchangeState.{ExchangeState}
use Rattle.coap_pending.specs.declared.exchange.ExchangeState.TheVariants as states
use Rattle.coap_model.specs.declared.report.Outcome.{Outcome}
use Rattle.coap_model.specs.declared.report.Outcome.TheVariants as outcomes
use Rattle.coap_model.specs.declared.report.Report.{Report}
use Rattle.coap_model.specs.declared.deed.Did.{Did}
use Rattle.coap_model.specs.declared.deed.Deed.{Deed}
use Rattle.coap_model.specs.declared.deed.Deed.TheVariants.{Ignored, Rejected, Repeated, Unremembered, Refused, LackedId, Overloaded, Hit, Joined, Opened, Answered, Acknowledged, Closed, Sent, Resent, GaveUp, Delivered, Redelivered, Abandoned, Idle}
use Rattle.coap_model.specs.declared.deed.Refusal.{Refusal}
use Rattle.coap_model.specs.declared.deed.Refusal.TheVariants as refusals
use Rattle.coap_model.specs.declared.deed.Held.{Held}
use Rattle.coap_model.specs.declared.deed.Held.TheVariants.{NotGet, Absent, Marked, Stale}
use Rattle.coap_model.specs.declared.deed.Silence.{Silence}
use Rattle.coap_model.specs.declared.deed.Silence.TheVariants.{NotSent, NotAcknowledged, NotAnswered}
use Rattle.coap_model.specs.declared.deed.Unprocessed.{Unprocessed}
use Rattle.coap_model.specs.declared.deed.Unprocessed.TheVariants as causes

-- the code that a client gets for a refusal (RFC 7252, 5.7.2 and 5.10.2)
abbrev pub code_of : Refusal → Code
code_of refusals.Method = METHOD_NOT_ALLOWED
code_of (refusals.Option number) = BAD_OPTION
code_of refusals.Uri = BAD_REQUEST
code_of refusals.NotProxied = PROXYING_NOT_SUPPORTED
code_of refusals.NoMap = NOT_FOUND
code_of refusals.Length = REQUEST_ENTITY_TOO_LARGE

-- what a deed is in short
abbrev pub outcome_of : Deed → Outcome
outcome_of (Ignored why) = outcomes.Ignored
outcome_of (Rejected why) = outcomes.Rejected
outcome_of Repeated = outcomes.Again
outcome_of (Unremembered kind) = outcomes.NoRecordRoom
outcome_of (Refused why) = outcomes.Refused (code_of why)
outcome_of LackedId = outcomes.NoId
outcome_of (Overloaded lacks) = outcomes.Overloaded
outcome_of Hit = outcomes.Hit
outcome_of (Joined waiter exchange) = outcomes.Joined
outcome_of (Opened waiter exchange held) = outcomes.Opened
outcome_of (Answered exchange storing) = outcomes.Answered storing
outcome_of (Acknowledged exchange) = outcomes.Acked
outcome_of (Closed waiter) = outcomes.Acked
outcome_of (Sent exchange) = outcomes.SentRequest
outcome_of (Resent exchange) = outcomes.Resent
outcome_of (GaveUp exchange silence) = outcomes.GaveUp
outcome_of (Delivered waiter exchange) = outcomes.Delivered
outcome_of (Redelivered waiter) = outcomes.Resent
outcome_of (Abandoned waiter) = outcomes.GaveUp
outcome_of Idle = outcomes.Idle

-- how far an exchange in this state is
abbrev pub silence_of : ExchangeState → Silence
silence_of states.Queued = NotSent
silence_of states.Sent = NotAcknowledged
silence_of states.Acked = NotAnswered
silence_of (states.Done a) = NotAnswered

-- what the cache has for a GET
abbrev pub held_stored : Option Stored → Held
held_stored None = Absent
held_stored (Some stored) = if stored.marked then Marked else Stale

-- what it has for a request that it doesn't answer, if this is stored for its key
abbrev pub held_of : Message → Option Stored → Held
held_of m stored = if is_get m.code then held_stored stored else NotGet

-- a response is stored for it
abbrev pub is_stored : Held → Bool
is_stored NotGet = false
is_stored Absent = false
is_stored Marked = true
is_stored Stale = true

-- why a datagram of this length that holds no message isn't processed
abbrev pub unread : ℕ → List ℕ → Unprocessed
unread most bytes = if nat_le (length bytes) most then causes.Format else causes.Length

-- Why a message of this type and code isn't processed, if it is neither a request, nor a response that
-- is awaited, nor an Empty message that refers to something.
abbrev pub unprocessable : Kind → Code → Unprocessed
unprocessable kind code =
    if is_response code
    then causes.NoExchange
    else
    (if is_empty code
    then (if is_con kind then causes.Ping else causes.Code)
    else causes.Code)

-- what a step did, in short
abbrev pub report_of : Did → Report
report_of did = record { send = did.send; outcome = outcome_of did.deed }
