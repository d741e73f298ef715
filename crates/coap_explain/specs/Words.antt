-- The words that an account has for what a step did and why, and that a log has for causes: each
-- stands here, once.
use Rattle.std.specs.Prelude.{ℕ, ◌+◌, ◌/◌, ◌%◌, ◌==◌, ◌&&◌, nat_eq, nat_le, nat_lt, List, [], ◌∷◌, ◌++◌, codes, length, Option, None, Some, Result, Ok, Err, if◌then◌else◌}
use Rattle.std.specs.Cmp.Lexicographic.{pointwise}
use Rattle.std.specs.Fmt.{decimal}
use Rattle.std.specs.List.{flat_map}
use Rattle.coap_message.specs.declared.code.Code.{Code}
use Rattle.coap_message.specs.declared.error.DecodeError.{DecodeError}
use Rattle.coap_message.specs.declared.kind.Kind.{Kind}
use Rattle.coap_message.specs.declared.kind.Kind.TheVariants as kinds
use Rattle.coap_message.specs.Message.{Message}
use Rattle.coap_message.specs.declared.options.Opt.{Opt}
use Rattle.coap_message.specs.Uint.{uint_of}
use Rattle.coap_model.specs.declared.report.Outcome.{Outcome}
use Rattle.coap_model.specs.declared.report.Outcome.TheVariants as outcomes
use Rattle.coap_model.specs.declared.report.Storing.{Storing}
use Rattle.coap_model.specs.declared.report.Storing.TheVariants.{Kept, TooLarge, NoMemory, NotStored}
use Rattle.coap_explain.specs.declared.causes.BadGateway.{BadGateway}
use Rattle.coap_explain.specs.declared.causes.BadGateway.TheVariants as gateways
use Rattle.coap_explain.specs.declared.causes.Refusal.{Refusal}
use Rattle.coap_explain.specs.declared.causes.Refusal.TheVariants as refusals
use Rattle.coap_explain.specs.declared.causes.Silence.{Silence}
use Rattle.coap_explain.specs.declared.causes.Silence.TheVariants.{NotSent, NotAcknowledged, NotAnswered}
use Rattle.coap_explain.specs.declared.causes.Unprocessed.{Unprocessed}
use Rattle.coap_explain.specs.declared.causes.Unprocessed.TheVariants as unprocessed
use Rattle.coap_explain.specs.declared.lacks.Lack.{Lack}
use Rattle.coap_explain.specs.declared.lacks.Need.{Need}
use Rattle.coap_explain.specs.declared.lacks.Need.TheVariants as needs

-- ---- outcomes

-- what a step did
abbrev pub outcome_word : Outcome → List ℕ
outcome_word outcomes.Ignored = codes "ignored"
outcome_word outcomes.Rejected = codes "rejected"
outcome_word outcomes.Again = codes "again"
outcome_word outcomes.NoRecordRoom = codes "no record room"
outcome_word (outcomes.Refused code) = codes "refused"
outcome_word outcomes.Hit = codes "hit"
outcome_word outcomes.Joined = codes "joined"
outcome_word outcomes.Opened = codes "opened"
outcome_word outcomes.Overloaded = codes "overloaded"
outcome_word outcomes.NoId = codes "no id"
outcome_word (outcomes.Answered storing) = codes "answered"
outcome_word outcomes.Acked = codes "acked"
outcome_word outcomes.SentRequest = codes "sent"
outcome_word outcomes.Resent = codes "resent"
outcome_word outcomes.Delivered = codes "delivered"
outcome_word outcomes.GaveUp = codes "gave up"
outcome_word outcomes.Idle = codes "idle"

-- what the cache did with an answer
abbrev pub storing_word : Storing → List ℕ
storing_word Kept = codes "kept"
storing_word TooLarge = codes "too large"
storing_word NoMemory = codes "no memory"
storing_word NotStored = codes "not stored"

-- ---- causes

-- what is lacking: its name in an account, and its key in a log
abbrev pub need_name : Need → List ℕ
need_name needs.Exchanges = codes "exchanges"
need_name needs.ClientExchanges = codes "client exchanges"
need_name needs.Waiters = codes "waiters"
need_name needs.ClientWaiters = codes "client waiters"
need_name needs.Con = codes "con"
need_name needs.ClientCon = codes "client con"
need_name needs.Non = codes "non"
need_name needs.ClientNon = codes "client non"
need_name needs.Ids = codes "ids"

abbrev pub need_key : Need → List ℕ
need_key needs.ClientExchanges = codes "client_exchanges"
need_key needs.ClientWaiters = codes "client_waiters"
need_key needs.ClientCon = codes "client_con"
need_key needs.ClientNon = codes "client_non"
need_key needs.Exchanges = need_name needs.Exchanges
need_key needs.Waiters = need_name needs.Waiters
need_key needs.Con = need_name needs.Con
need_key needs.Non = need_name needs.Non
need_key needs.Ids = need_name needs.Ids

-- how much of it is in use, and how much there may be
abbrev pub lack_text : Option Lack → List ℕ
lack_text None = []
lack_text (Some l) =
    codes " " ++ need_name l.need ++ codes " " ++ decimal l.count ++ codes "/"
    ++ decimal l.limit

abbrev pub lacks_text : List (Option Lack) → List ℕ
lacks_text lacks = flat_map lack_text lacks

-- why a request was refused, beside its code
abbrev pub refusal_text : Refusal → List ℕ
refusal_text (refusals.Option number) = codes " option " ++ decimal number
refusal_text refusals.Uri = codes " uri"
refusal_text refusals.NoMap = codes " no map"
refusal_text refusals.Method = codes " method"
refusal_text refusals.NotProxied = codes " not proxied"
refusal_text refusals.Length = codes " length"

-- why a message wasn't processed
abbrev pub unprocessed_word : Unprocessed → List ℕ
unprocessed_word unprocessed.Length = codes "length"
unprocessed_word unprocessed.Format = codes "format"
unprocessed_word unprocessed.NoExchange = codes "no exchange awaits it"
unprocessed_word unprocessed.Code = codes "code"
unprocessed_word unprocessed.Ping = codes "ping"
unprocessed_word unprocessed.Nothing = codes "nothing awaits it"

-- why a client gets 5.02 of the proxy's own: in a log, and in an account
abbrev pub gateway_word : BadGateway → List ℕ
gateway_word gateways.Reset = codes "reset"
gateway_word (gateways.Option number) = codes "option"
gateway_word gateways.Tag = codes "tag"
gateway_word gateways.TooLong = codes "length"

abbrev pub gateway_text : BadGateway → List ℕ
gateway_text gateways.Reset = gateway_word gateways.Reset
gateway_text (gateways.Option number) = codes "option " ++ decimal number
gateway_text gateways.Tag = gateway_word gateways.Tag
gateway_text gateways.TooLong = codes "doesn't fit"

-- why one gets 5.04
abbrev pub silence_word : Silence → List ℕ
silence_word NotSent = codes "unsent"
silence_word NotAcknowledged = codes "unacknowledged"
silence_word NotAnswered = codes "unanswered"

-- ---- messages

abbrev pub kind_word : Kind → List ℕ
kind_word kinds.Con = codes "CON"
kind_word kinds.Non = codes "NON"
kind_word kinds.Ack = codes "ACK"
kind_word kinds.Rst = codes "RST"

-- the name of a method (RFC 7252, 5.8), or the class, a dot and the detail in two digits
abbrev pub code_text : Code → List ℕ
code_text code =
    if code.0 == 1 then codes "GET"
    else (if code.0 == 2 then codes "POST"
    else (if code.0 == 3 then codes "PUT"
    else (if code.0 == 4 then codes "DELETE"
    else decimal (code.0 / 32) ++ codes "." ++ decimal (code.0 % 32 / 10)
    ++ decimal (code.0 % 32 % 10))))

abbrev pub kind_text : Message → List ℕ
kind_text m = codes " " ++ kind_word m.kind ++ codes " " ++ code_text m.code

-- a digit of a number below 16
abbrev pub hex_digit : ℕ → ℕ
hex_digit n = if nat_lt n 10 then 48 + n else 87 + n

abbrev pub hex_of : List ℕ → List ℕ
hex_of bytes = flat_map (λ b. hex_digit (b / 16) ∷ hex_digit (b % 16) ∷ []) bytes

-- what is said of an option of a message that is sent: an ETag, and a Max-Age of at most four bytes
-- (RFC 7252, 5.10.5 and 5.10.6)
abbrev pub option_text : Opt → List ℕ
option_text o =
    if o.number == 4 then codes " ETag " ++ hex_of o.value
    else (if (o.number == 14) && nat_le (length o.value) 4
    then codes " Max-Age " ++ decimal (uint_of o.value)
    else [])

abbrev pub sent_text : Message → List ℕ
sent_text m = codes " " ++ code_text m.code ++ flat_map option_text m.options

-- of bytes that are a message
abbrev pub sent_bytes_text : Result Message DecodeError → List ℕ
sent_bytes_text (Ok m) = sent_text m
sent_bytes_text (Err e) = []

-- ---- distinct outcomes

-- all words for what a step did: each stands for one outcome
abbrev pub all_words : List (List ℕ)
all_words =
    codes "ignored" ∷ codes "rejected" ∷ codes "again" ∷ codes "no record room"
    ∷ codes "refused" ∷ codes "hit" ∷ codes "joined" ∷ codes "opened" ∷ codes "overloaded"
    ∷ codes "no id" ∷ codes "answered" ∷ codes "acked" ∷ codes "sent" ∷ codes "resent"
    ∷ codes "delivered" ∷ codes "gave up" ∷ codes "idle" ∷ []

-- the number of an outcome, whatever its code or what the cache did
abbrev pub outcome_number : Outcome → ℕ
outcome_number outcomes.Ignored = 0
outcome_number outcomes.Rejected = 1
outcome_number outcomes.Again = 2
outcome_number outcomes.NoRecordRoom = 3
outcome_number (outcomes.Refused code) = 4
outcome_number outcomes.Hit = 5
outcome_number outcomes.Joined = 6
outcome_number outcomes.Opened = 7
outcome_number outcomes.Overloaded = 8
outcome_number outcomes.NoId = 9
outcome_number (outcomes.Answered storing) = 10
outcome_number outcomes.Acked = 11
outcome_number outcomes.SentRequest = 12
outcome_number outcomes.Resent = 13
outcome_number outcomes.Delivered = 14
outcome_number outcomes.GaveUp = 15
outcome_number outcomes.Idle = 16

-- the number of the first of these words that this is
abbrev pub place_of : List ℕ → List (List ℕ) → ℕ
place_of word [] = 0
place_of word (w ∷ words) = if pointwise nat_eq w word then 0 else 1 + place_of word words
