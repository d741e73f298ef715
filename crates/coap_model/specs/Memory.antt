-- Which steps may allocate memory.
use Rattle.std.specs.Prelude.{Bool, true, false, List, ℕ}
use Rattle.coap_model.specs.declared.report.Outcome.{Outcome}
use Rattle.coap_model.specs.declared.report.Outcome.TheVariants.{Ignored, Rejected, Again, NoRecordRoom, Refused, Hit, Joined, Opened, Overloaded, NoId, Answered, Acked, SentRequest, Resent, GaveUp, Delivered, Idle}
use Rattle.coap_model.specs.History.{is_con_datagram}

-- Whether a step with this outcome, which sends these bytes, may allocate memory: a new request is
-- remembered, whatever its outcome; an answer that arrives is kept; and so is one that is sent to a
-- client in a Confirmable message, until it is acknowledged. No other step allocates, nor does that
-- of a Reset, which has the outcome of an answer that isn't stored: the core says so of each Empty
-- message.
abbrev pub takes_memory : Outcome → List ℕ → Bool
takes_memory Ignored bytes = false
takes_memory Rejected bytes = false
takes_memory Again bytes = false
takes_memory NoRecordRoom bytes = false
takes_memory (Refused code) bytes = true
takes_memory Hit bytes = true
takes_memory Joined bytes = true
takes_memory Opened bytes = true
takes_memory Overloaded bytes = true
takes_memory NoId bytes = true
takes_memory (Answered storing) bytes = true
takes_memory Acked bytes = false
takes_memory SentRequest bytes = false
takes_memory Resent bytes = false
takes_memory GaveUp bytes = false
takes_memory Delivered bytes = is_con_datagram bytes
takes_memory Idle bytes = false
