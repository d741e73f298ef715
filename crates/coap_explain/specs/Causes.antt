-- Why a message was refused, ignored or dropped, or is answered with 5.02: found again from the
-- message.
use Rattle.std.specs.Prelude.{ℕ, ◌==◌, ◌&&◌, Bool, true, false, not, nat_eq, nat_lt, List, length, Option, None, Some, Result, Ok, Err, if◌then◌else◌}
use Rattle.std.specs.Cmp.Lexicographic.{pointwise}
use Rattle.coap_message.specs.declared.code.Code.{Code}
use Rattle.coap_message.specs.declared.error.DecodeError.{DecodeError}
use Rattle.coap_message.specs.declared.kind.Kind.{Kind}
use Rattle.coap_message.specs.declared.kind.Kind.TheVariants as kinds
use Rattle.coap_message.specs.Codes.{code_of, is_code, is_response}
use Rattle.coap_message.specs.Message.{Message}
use Rattle.coap_message.specs.Reading.{read_message}
use Rattle.coap_option.specs.declared.side.Side.TheVariants.{Response}
use Rattle.coap_option.specs.Screening.{first_refused}
use Rattle.coap_pending.specs.declared.exchange.Exchange.{Exchange}
use Rattle.coap_store.specs.declared.stored.Stored.{Stored}
use Rattle.coap_store.specs.Renewing.{tag_of}
use Rattle.coap_explain.specs.declared.causes.BadGateway.{BadGateway}
use Rattle.coap_explain.specs.declared.causes.BadGateway.TheVariants as gateways
use Rattle.coap_explain.specs.declared.causes.Refusal.{Refusal}
use Rattle.coap_explain.specs.declared.causes.Refusal.TheVariants as refusals
use Rattle.coap_explain.specs.declared.causes.Unprocessed.{Unprocessed}
use Rattle.coap_explain.specs.declared.causes.Unprocessed.TheVariants as unprocessed

-- ---- refused requests

-- with 4.02 because of its first option that a request may not have, with 4.13 for its length
abbrev pub option_or_length : Code → Option ℕ → Refusal
option_or_length code None = refusals.Length
option_or_length code (Some number) =
    if is_code code (code_of 4 2) then refusals.Option number else refusals.Length

abbrev pub refusal_of : Code → Option ℕ → Refusal
refusal_of code refused =
    if is_code code (code_of 4 0) then refusals.Uri
    else (if is_code code (code_of 4 4) then refusals.NoMap
    else (if is_code code (code_of 4 5) then refusals.Method
    else (if is_code code (code_of 5 5) then refusals.NotProxied
    else option_or_length code refused)))

-- ---- messages that aren't processed

-- an Empty message: a ping (RFC 7252, 4.3), or an acknowledgement or a Reset of nothing
abbrev pub unprocessed_empty : Kind → Unprocessed
unprocessed_empty kinds.Con = unprocessed.Ping
unprocessed_empty kinds.Non = unprocessed.Code
unprocessed_empty kinds.Ack = unprocessed.Nothing
unprocessed_empty kinds.Rst = unprocessed.Nothing

abbrev pub unprocessed_message : Message → Unprocessed
unprocessed_message m =
    if is_response m.code then unprocessed.NoExchange
    else (if m.code.0 == 0 then unprocessed_empty m.kind else unprocessed.Code)

abbrev pub unprocessed_read : Result Message DecodeError → Unprocessed
unprocessed_read (Ok m) = unprocessed_message m
unprocessed_read (Err e) = unprocessed.Format

-- a datagram may have so many bytes at most
abbrev pub unprocessed_of : ℕ → List ℕ → Unprocessed
unprocessed_of most bytes =
    if nat_lt most (length bytes) then unprocessed.Length
    else unprocessed_read (read_message bytes)

-- ---- answers in place of which a client gets 5.02

abbrev pub same_tag : Option (List ℕ) → Option (List ℕ) → Bool
same_tag None None = true
same_tag (Some a) (Some b) = pointwise nat_eq a b
same_tag None (Some b) = false
same_tag (Some a) None = false

abbrev pub is_other : Option (List ℕ) → Option Stored → Bool
is_other tag None = true
is_other tag (Some copy) = not (same_tag tag (tag_of copy.response.options))

-- a 2.03 to a GET that asked for another ETag, or for none (RFC 7252, 5.9.1.3)
abbrev pub is_other_tag : Message → Exchange → Bool
is_other_tag m x = is_code m.code (code_of 2 3) && (x.is_get && is_other (tag_of m.options) x.copy)

abbrev pub gateway_if_tag : Message → Option Exchange → BadGateway
gateway_if_tag m None = gateways.TooLong
gateway_if_tag m (Some x) = if is_other_tag m x then gateways.Tag else gateways.TooLong

abbrev pub gateway_unless : Message → Option Exchange → Option ℕ → BadGateway
gateway_unless m awaited None = gateway_if_tag m awaited
gateway_unless m awaited (Some number) = gateways.Option number

-- the cause, given the exchange that awaits the response
abbrev pub is_reset : Kind → Bool
is_reset kinds.Rst = true
is_reset _ = false

abbrev pub gateway_of : Message → Option Exchange → BadGateway
gateway_of m awaited =
    if is_reset m.kind then gateways.Reset
    else gateway_unless m awaited (first_refused Response m.options)
