-- What clients are sent, computed for edge cases of definitions that the step and the history
-- share, where no law would catch a mistake that both have: a client's token, two faults in one
-- request, what a response becomes at some age, and what is due first. The bytes are encoded per
-- RFC 7252 (3, 3.1, 5.10).
use Rattle.std.specs.Prelude.{ℕ, List, [], ◌∷◌, ◌++◌, replicate}
use Rattle.coap_message.specs.declared.code.TheConstants.Code.{METHOD_NOT_ALLOWED, BAD_OPTION, NOT_FOUND}
use Rattle.coap_model.specs.declared.report.Outcome.TheVariants.{Refused, Opened, Overloaded, Answered, SentRequest, Delivered}
use Rattle.coap_model.specs.declared.report.Storing.TheVariants.{Kept, NotStored}
use Rattle.coap_model.specs.Runs.{Turn}
use Rattle.coap_model.specs.Examples.{Sent, origin, client, from, tick_at, nothing, to, get_t, answer, answered_by, delivered_as, delivered_once}
use Rattle.coap_model.specs.LimitExamples.{asked, got, got_stale, stale_for_client}

-- ---- a client's token

-- a GET with the token AA BB, and a path with one segment of one byte, which is also its id
abbrev pub with_token : ℕ → List ℕ
with_token segment = 0x52 ∷ 1 ∷ 0 ∷ segment ∷ 0xAA ∷ 0xBB ∷ 0xB1 ∷ segment ∷ []

-- The token is in a refusal, in a 5.03 and in a delivered answer, with room for one exchange: the
-- second client requests something else.
abbrev pub tokens : List Turn
tokens =
    from 0 (client 1) (with_token 0x75) ∷ from 0 (client 1) (with_token 0x74)
    ∷ from 0 (client 2) (with_token 0x74 ++ (1 ∷ 0x78 ∷ [])) ∷ tick_at 0
    ∷ from 0 origin (got 3 1) ∷ tick_at 0 ∷ []

abbrev pub tokens_sent : List Sent
tokens_sent =
    to (Refused NOT_FOUND) (client 1) (0x52 ∷ 0x84 ∷ 0 ∷ 1 ∷ 0xAA ∷ 0xBB ∷ []) ∷ nothing Opened
    ∷ to Overloaded (client 2) (0x52 ∷ 0xA3 ∷ 0 ∷ 2 ∷ 0xAA ∷ 0xBB ∷ 0xD1 ∷ 1 ∷ 5 ∷ [])
    ∷ to SentRequest origin (asked 3 1) ∷ nothing (Answered Kept)
    ∷ to Delivered (client 1)
    (0x52 ∷ 0x45 ∷ 0 ∷ 4 ∷ 0xAA ∷ 0xBB ∷ 0xD1 ∷ 1 ∷ 10 ∷ 0xFF ∷ 0x32 ∷ 0x31 ∷ []) ∷ []

-- ---- two faults in one request

-- a request with an unknown method and an unrecognised option, a GET with such an option for a path
-- without a map, and an unknown method for such a path: the method is checked first, then the
-- options
abbrev pub two_faults : List Turn
two_faults =
    from 0 (client 1) (0x50 ∷ 5 ∷ 0 ∷ 7 ∷ 0xB1 ∷ 0x74 ∷ 0xC1 ∷ 6 ∷ [])
    ∷ from 0 (client 1) (0x50 ∷ 1 ∷ 0 ∷ 8 ∷ 0xB1 ∷ 0x75 ∷ 0xC1 ∷ 6 ∷ [])
    ∷ from 0 (client 1) (0x50 ∷ 5 ∷ 0 ∷ 9 ∷ 0xB1 ∷ 0x75 ∷ []) ∷ []

abbrev pub two_faults_sent : List Sent
two_faults_sent =
    to (Refused METHOD_NOT_ALLOWED) (client 1) (0x50 ∷ 0x85 ∷ 0 ∷ 1 ∷ [])
    ∷ to (Refused BAD_OPTION) (client 1) (0x50 ∷ 0x82 ∷ 0 ∷ 2 ∷ [])
    ∷ to (Refused METHOD_NOT_ALLOWED) (client 1) (0x50 ∷ 0x85 ∷ 0 ∷ 3 ∷ []) ∷ []

-- ---- what a response becomes

-- a response of class 3 is accepted, and is passed on without a Max-Age
abbrev pub of_class_3 : List Turn
of_class_3 = answered_by 0 (answer 0x68 0x60 1 1 [])

abbrev pub of_class_3_sent : List Sent
of_class_3_sent = delivered_once (0x50 ∷ 0x60 ∷ 0 ∷ 2 ∷ [])

-- a 2.04 keeps its Max-Age unchanged, however old it is
abbrev pub changed_with_age : List Turn
changed_with_age = answered_by 5000 (answer 0x68 0x44 1 1 (0xD1 ∷ 1 ∷ 10 ∷ []))

abbrev pub changed_with_age_sent : List Sent
changed_with_age_sent = delivered_once (0x50 ∷ 0x44 ∷ 0 ∷ 2 ∷ 0xD1 ∷ 1 ∷ 10 ∷ [])

-- a second Max-Age isn't recognised
abbrev pub two_ages : List Turn
two_ages = answered_by 0 (answer 0x68 0x45 1 1 (0xD1 ∷ 1 ∷ 10 ∷ 1 ∷ 10 ∷ []))

-- a payload of 109 bytes with a Max-Age of one byte: with a Max-Age of four bytes instead, the
-- message has 128 bytes
abbrev pub beside_an_age : List Turn
beside_an_age = answered_by 0 (answer 0x68 0x45 1 1 (0xD1 ∷ 1 ∷ 10 ∷ 0xFF ∷ replicate 109 0x39))

abbrev pub beside_an_age_sent : List Sent
beside_an_age_sent = delivered_as (0x50 ∷ 0x45 ∷ 0 ∷ 2 ∷ 0xD1 ∷ 1 ∷ 10 ∷ 0xFF ∷ replicate 109 0x39)

-- a Uri-Path is only for requests: in a response it isn't recognised
abbrev pub path_in_response : List Turn
path_in_response = answered_by 0 (answer 0x68 0x44 1 1 (0xB1 ∷ 0x74 ∷ []))

-- a Max-Age of four bytes, a millisecond after its arrival
abbrev pub greatest_age : List Turn
greatest_age = answered_by 1 (answer 0x68 0x45 1 1 (0xD4 ∷ 1 ∷ 0xFF ∷ 0xFF ∷ 0xFF ∷ 0xFF ∷ []))

abbrev pub greatest_age_sent : List Sent
greatest_age_sent = delivered_as (0x50 ∷ 0x45 ∷ 0 ∷ 2 ∷ 0xD4 ∷ 1 ∷ 0xFF ∷ 0xFF ∷ 0xFF ∷ 0xFE ∷ [])

-- a Max-Age of two bytes, 256 seconds, after one second: one byte is enough
abbrev pub shorter_age : List Turn
shorter_age = answered_by 1000 (answer 0x68 0x45 1 1 (0xD2 ∷ 1 ∷ 1 ∷ 0 ∷ []))

abbrev pub shorter_age_sent : List Sent
shorter_age_sent = delivered_as (0x50 ∷ 0x45 ∷ 0 ∷ 2 ∷ 0xD1 ∷ 1 ∷ 255 ∷ [])

-- a Max-Age of ten seconds after this many milliseconds: the rest is never below 0
abbrev pub ten_seconds_after : ℕ → List Turn
ten_seconds_after age = answered_by age (answer 0x68 0x45 1 1 (0xD1 ∷ 1 ∷ 10 ∷ []))

abbrev pub none_left : List Sent
none_left = delivered_as (0x50 ∷ 0x45 ∷ 0 ∷ 2 ∷ 0xD0 ∷ 1 ∷ [])

abbrev pub one_left : List Sent
one_left = delivered_as (0x50 ∷ 0x45 ∷ 0 ∷ 2 ∷ 0xD1 ∷ 1 ∷ 1 ∷ [])

-- ---- what is due first

-- a request that opens an exchange, from a client by number
abbrev pub asks_at : ℕ → ℕ → Turn
asks_at now n = from now (client n) (0x50 ∷ 1 ∷ 0 ∷ 7 ∷ 0xB1 ∷ 0x74 ∷ [])

-- two requests at the same moment for two resources, with an `nstart` of 2: in order of number
abbrev pub of_one_moment : List Turn
of_one_moment =
    asks_at 0 1 ∷ from 0 (client 2) (get_t (1 ∷ 0x78 ∷ [])) ∷ tick_at 0 ∷ tick_at 0 ∷ []

abbrev pub of_one_moment_sent : List Sent
of_one_moment_sent =
    nothing Opened ∷ nothing Opened ∷ to SentRequest origin (asked 1 1)
    ∷ to SentRequest origin (asked 2 2 ++ (1 ∷ 0x78 ∷ [])) ∷ []

-- a client that is due to be served, and a request that is due to be sent from the same moment on:
-- the request comes first
abbrev pub request_first : List Turn
request_first =
    asks_at 0 1 ∷ tick_at 0 ∷ from 3 origin (got_stale 1 1) ∷ asks_at 3 2
    ∷ tick_at 3 ∷ tick_at 3 ∷ []

abbrev pub request_first_sent : List Sent
request_first_sent =
    nothing Opened ∷ to SentRequest origin (asked 1 1) ∷ nothing (Answered NotStored)
    ∷ nothing Opened ∷ to SentRequest origin (asked 2 2)
    ∷ to Delivered (client 1) (stale_for_client 3) ∷ []

-- the same, but the answer arrives one millisecond earlier: the client comes first
abbrev pub client_first : List Turn
client_first =
    asks_at 0 1 ∷ tick_at 0 ∷ from 2 origin (got_stale 1 1) ∷ asks_at 3 2
    ∷ tick_at 3 ∷ tick_at 3 ∷ []

abbrev pub client_first_sent : List Sent
client_first_sent =
    nothing Opened ∷ to SentRequest origin (asked 1 1) ∷ nothing (Answered NotStored)
    ∷ nothing Opened
    ∷ to Delivered (client 1) (stale_for_client 2)
    ∷ to SentRequest origin (asked 3 2) ∷ []
