-- What messages mean to a proxy: definitions shared by the step and the history, like those of
-- `Forms` and `Answers`, and `Verdicts` of coap_model. They are about messages alone, not about
-- tables.
use Rattle.std.specs.Prelude.{ℕ, ◌+◌, ◌%◌, ◌^◌, ◌&&◌, ◌||◌, Bool, true, false, if◌then◌else◌, List, [], ◌∷◌, Option, Some, None}
use Rattle.std.specs.Int.{w64, to_be_bytes}
use Rattle.coap_message.specs.declared.kind.Kind.{Kind}
use Rattle.coap_message.specs.declared.kind.Kind.TheVariants.{Con, Non, Ack, Rst}
use Rattle.coap_message.specs.declared.code.Code.{Code}
use Rattle.coap_message.specs.declared.code.TheConstants.Code.{EMPTY, GET, POST, PUT, DELETE, SERVICE_UNAVAILABLE}
use Rattle.coap_message.specs.Codes.{is_code, is_request, is_response}
use Rattle.coap_message.specs.declared.options.Opt.{Opt}
use Rattle.coap_message.specs.Message.{Message}
use Rattle.coap_store.specs.Renewing.{max_age_option}

-- ---- types

abbrev pub is_con : Kind → Bool
is_con Con = true
is_con Non = false
is_con Ack = false
is_con Rst = false

abbrev pub is_non : Kind → Bool
is_non Con = false
is_non Non = true
is_non Ack = false
is_non Rst = false

-- the types that requests come in (RFC 7252, 4.2 and 4.3)
abbrev pub brings_requests : Kind → Bool
brings_requests Con = true
brings_requests Non = true
brings_requests Ack = false
brings_requests Rst = false

-- the types that responses come in; those in a Confirmable or a Non-confirmable message are
-- separate responses (RFC 7252, 5.2)
abbrev pub brings_responses : Kind → Bool
brings_responses Con = true
brings_responses Non = true
brings_responses Ack = true
brings_responses Rst = false

abbrev pub is_ack : Kind → Bool
is_ack Con = false
is_ack Non = false
is_ack Ack = true
is_ack Rst = false

abbrev pub is_rst : Kind → Bool
is_rst Con = false
is_rst Non = false
is_rst Ack = false
is_rst Rst = true

-- ---- codes

abbrev pub is_get : Code → Bool
is_get code = is_code code GET

-- the methods of requests that are forwarded (RFC 7252, 5.8)
abbrev pub is_method : Code → Bool
is_method code =
    is_code code GET || (is_code code POST || (is_code code PUT || is_code code DELETE))

abbrev pub is_empty : Code → Bool
is_empty code = is_code code EMPTY

-- an acknowledgement or a Reset with nothing more (RFC 7252, 4.2)
abbrev pub is_bare : Message → Bool
is_bare m = is_empty m.code && (is_ack m.kind || is_rst m.kind)

-- a message that is remembered: a request, or a response in a Confirmable message (RFC 7252, 4.2
-- and 4.5)
abbrev pub is_recorded : Message → Bool
is_recorded m =
    (brings_requests m.kind && is_request m.code) || (is_con m.kind && is_response m.code)

-- ---- the proxy's own messages

-- a message without token, options or payload: the Reset of a message with this id (RFC 7252, 4.2)
abbrev pub reset : ℕ → Message
reset id = record { kind = Rst; code = EMPTY; id = id; token = []; options = []; payload = [] }

-- the Empty acknowledgement of a message with this id (RFC 7252, 4.2 and 5.2.2)
abbrev pub acknowledgement : ℕ → Message
acknowledgement id =
    record { kind = Ack; code = EMPTY; id = id; token = []; options = []; payload = [] }

-- a reply of the proxy's own, with a client's token
abbrev pub own_reply : Code → List Opt → ℕ → List ℕ → Message
own_reply code options id token =
    record { kind = Non; code = code; id = id; token = token; options = options; payload = [] }

-- 5.03, with the seconds after which to try again (RFC 7252, 5.9.3.4)
abbrev pub overload_reply : ℕ → ℕ → List ℕ → Message
overload_reply seconds id token =
    own_reply SERVICE_UNAVAILABLE (max_age_option seconds ∷ []) id token

-- ---- replies that are sent at once

-- to a Confirmable request in its acknowledgement, which has its id (RFC 7252, 5.2.1), and to a
-- Non-confirmable one in a Non-confirmable message, with an id of the proxy's (RFC 7252, 5.2.3)
abbrev pub reply_kind : Kind → Kind
reply_kind kind = if is_con kind then Ack else Non

abbrev pub reply_id : Message → ℕ → ℕ
reply_id request id = if is_con request.kind then request.id else id

-- a reply as it is sent at once to a request
abbrev pub at_once : Message → Message → Message
at_once request reply =
    record reply { kind = reply_kind request.kind; id = reply_id request reply.id }

-- what a duplicate gets (RFC 7252, 4.5): for a Confirmable message what was sent at once, and for a
-- Non-confirmable one nothing
abbrev pub kept_reply : Kind → List ℕ → Option (List ℕ)
kept_reply kind sent = if is_con kind then Some sent else None

-- ---- tokens

-- a token of eight bytes
abbrev pub eight_zeros : List ℕ
eight_zeros = 0 ∷ 0 ∷ 0 ∷ 0 ∷ 0 ∷ 0 ∷ 0 ∷ 0 ∷ []

-- the token of an exchange's request: the salt and its number, in eight bytes
unfoldable pub token_of : ℕ → ℕ → List ℕ
token_of salt number = to_be_bytes w64 ((salt + number) % 2 ^ 64)
