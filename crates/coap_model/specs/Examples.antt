-- Runs of the step, computed on the definitions.
use Rattle.std.specs.Prelude.{ℕ, ◌+◌, ◌-◌, List, [], ◌∷◌, true, replicate, Some, None}
use Rattle.coap_message.specs.declared.code.TheConstants.Code.{GET, BAD_OPTION, NOT_FOUND, METHOD_NOT_ALLOWED, REQUEST_ENTITY_TOO_LARGE}
use Rattle.coap_message.specs.declared.kind.Kind.TheVariants.{Non}
use Rattle.coap_message.specs.Message.{Message}
use Rattle.coap_endpoint.specs.declared.endpoint.Endpoint.{Endpoint}
use Rattle.coap_target.specs.Examples.{fixed_routes, loopback}
use Rattle.coap_model.specs.declared.report.Outcome.{Outcome}
use Rattle.coap_model.specs.declared.report.Outcome.TheVariants.{Ignored, Rejected, Refused, Opened, Overloaded, NoId, Answered, SentRequest, Delivered, Idle}
use Rattle.coap_model.specs.declared.report.Storing.{Storing}
use Rattle.coap_model.specs.declared.report.Storing.TheVariants.{Kept, NotStored}
use Rattle.coap_model.specs.declared.report.Report.{Report}
use Rattle.coap_limits.specs.Limits.{default_limits}
use Rattle.coap_model.specs.Events.{arrival, tick}
use Rattle.coap_model.specs.State.{State, Step, new_state}
use Rattle.coap_model.specs.Step.{step_of}
use Rattle.coap_model.specs.Runs.{Turn}

-- the report of a step, and the datagram that it sent
abbrev pub Sent : Type 0
Sent = Report × List ℕ

abbrev pub sent_by : Step → Sent
sent_by s = (s.report, s.bytes)

-- the reports and datagrams of a proxy for these turns, one after the other
abbrev pub play : State → List Turn → List Sent
play w [] = []
play w (t ∷ turns) =
    let s = step_of w t.now t.draw true t.event in
    sent_by s ∷ play s.state turns

-- the origin server of the fixed route, and clients by number
abbrev pub origin : Endpoint
origin = loopback 5690

abbrev pub client : ℕ → Endpoint
client n = loopback (40000 + n)

abbrev pub from : ℕ → Endpoint → List ℕ → Turn
from now source bytes = record { now = now; draw = 0; event = arrival source bytes }

abbrev pub tick_at : ℕ → Turn
tick_at now = record { now = now; draw = 0; event = tick }

abbrev pub nothing : Outcome → Sent
nothing outcome = (record { send = None; outcome = outcome }, [])

abbrev pub to : Outcome → Endpoint → List ℕ → Sent
to outcome at bytes = (record { send = Some at; outcome = outcome }, bytes)

abbrev pub proxy : State
proxy = new_state
    (record { limits = default_limits; routes = fixed_routes; first_id = 1; salt = 0 })

-- a proxy with room for one exchange
abbrev pub small_proxy : State
small_proxy =
    new_state (record {
      limits = record default_limits { exchanges = 1 };
      routes = fixed_routes;
      first_id = 1;
      salt = 0;
    })

-- a proxy whose datagrams have at most 128 bytes
abbrev pub narrow_proxy : State
narrow_proxy =
    new_state (record {
      limits = record default_limits { datagram = 128 };
      routes = fixed_routes;
      first_id = 1;
      salt = 0;
    })

-- a Non-confirmable GET for the path `t`, with this id, and what follows
abbrev pub get_t_as : ℕ → List ℕ → List ℕ
get_t_as id more = 0x50 ∷ 1 ∷ 0 ∷ id ∷ 0xB1 ∷ 0x74 ∷ more

-- with the id 7
abbrev pub get_t : List ℕ → List ℕ
get_t more = get_t_as 7 more

-- a GET with nothing else
abbrev pub bare_get : Message
bare_get = record { kind = Non; code = GET; id = 0; token = []; options = []; payload = [] }

-- the request that the origin server is sent, with the id 1 and the token of the first exchange
abbrev pub get_temp : List ℕ → List ℕ
get_temp more =
    0x48 ∷ 1 ∷ 0 ∷ 1 ∷ 0 ∷ 0 ∷ 0 ∷ 0 ∷ 0 ∷ 0 ∷ 0 ∷ 1 ∷ 0xB4 ∷ 0x74 ∷ 0x65 ∷ 0x6D ∷ 0x70 ∷ more

-- an answer to it, with its first byte, code, id, the last byte of its token, and what follows
abbrev pub answer : ℕ → ℕ → ℕ → ℕ → List ℕ → List ℕ
answer kind code id token more = kind ∷ code ∷ 0 ∷ id ∷ 0 ∷ 0 ∷ 0 ∷ 0 ∷ 0 ∷ 0 ∷ 0 ∷ token ∷ more

-- a 2.05 with a Max-Age of ten seconds, and what the client is sent for it
abbrev pub content : List ℕ
content = answer 0x68 0x45 1 1 (0xD1 ∷ 1 ∷ 10 ∷ 0xFF ∷ 0x32 ∷ 0x31 ∷ [])

abbrev pub content_in : ℕ → ℕ → List ℕ
content_in first left = first ∷ 0x45 ∷ 0 ∷ 2 ∷ 0xD1 ∷ 1 ∷ left ∷ 0xFF ∷ 0x32 ∷ 0x31 ∷ []

abbrev pub content_for_client : ℕ → List ℕ
content_for_client left = content_in 0x50 left

-- a request, a tick that forwards it, an answer, and a tick that delivers it
abbrev pub answered_by : ℕ → List ℕ → List Turn
answered_by served response =
    from 0 (client 1) (get_t []) ∷ tick_at 0 ∷ from 0 origin response ∷ tick_at served ∷ []

abbrev pub delivered_with : Storing → List ℕ → List Sent
delivered_with storing reply =
    nothing Opened ∷ to SentRequest origin (get_temp []) ∷ nothing (Answered storing)
    ∷ to Delivered (client 1) reply ∷ []

-- the same for an answer that is stored, and for one that mustn't be stored
abbrev pub delivered_as : List ℕ → List Sent
delivered_as reply = delivered_with Kept reply

abbrev pub delivered_once : List ℕ → List Sent
delivered_once reply = delivered_with NotStored reply

-- the first answer
abbrev pub first_answer : List Turn
first_answer = answered_by 0 content

abbrev pub first_answer_sent : List Sent
first_answer_sent = delivered_as (content_for_client 10)

-- the same, delivered 2,500 milliseconds after the answer arrived: seven of ten seconds are left
abbrev pub late_answer : List Turn
late_answer = answered_by 2500 content

abbrev pub late_answer_sent : List Sent
late_answer_sent = delivered_as (content_for_client 7)

-- an error without a Max-Age gets one of sixty seconds
abbrev pub error : List Turn
error = answered_by 0 (answer 0x68 0x84 1 1 [])

abbrev pub error_sent : List Sent
error_sent = delivered_as (0x50 ∷ 0x84 ∷ 0 ∷ 2 ∷ 0xD1 ∷ 1 ∷ 60 ∷ [])

-- so does an error of class 5 from the origin server
abbrev pub fault : List Turn
fault = answered_by 0 (answer 0x68 0xA0 1 1 [])

abbrev pub fault_sent : List Sent
fault_sent = delivered_as (0x50 ∷ 0xA0 ∷ 0 ∷ 2 ∷ 0xD1 ∷ 1 ∷ 60 ∷ [])

-- a 2.04 is passed on unchanged
abbrev pub changed : List Turn
changed = answered_by 0 (answer 0x68 0x44 1 1 [])

abbrev pub changed_sent : List Sent
changed_sent = delivered_once (0x50 ∷ 0x44 ∷ 0 ∷ 2 ∷ [])

-- a 2.03, and a response with an option that isn't understood, are replaced by 5.02
abbrev pub valid : List Turn
valid = answered_by 0 (answer 0x68 0x43 1 1 [])

abbrev pub block_in_response : List Turn
block_in_response = answered_by 0 (answer 0x68 0x45 1 1 (0xD1 ∷ 10 ∷ 6 ∷ 0xFF ∷ 0x32 ∷ 0x31 ∷ []))

-- a Max-Age has at most four bytes
abbrev pub long_max_age : List Turn
long_max_age = answered_by 0 (answer 0x68 0x45 1 1 (0xD5 ∷ 1 ∷ 0 ∷ 0 ∷ 0 ∷ 0 ∷ 10 ∷ []))

abbrev pub replaced_sent : List Sent
replaced_sent = delivered_once (0x50 ∷ 0xA2 ∷ 0 ∷ 2 ∷ [])

-- A response from another endpoint or with another token is ignored, and so is a piggybacked one
-- with another id; in a Confirmable message it is rejected. The right one is still accepted after
-- them.
abbrev pub impostor : List Turn
impostor =
    from 0 (client 1) (get_t []) ∷ tick_at 0 ∷ from 0 (client 2) content
    ∷ from 0 origin (answer 0x68 0x45 1 2 (0xFF ∷ 0x39 ∷ []))
    ∷ from 0 origin (answer 0x68 0x45 2 1 (0xFF ∷ 0x39 ∷ []))
    ∷ from 0 origin (answer 0x48 0x45 9 2 (0xFF ∷ 0x39 ∷ []))
    ∷ from 0 (client 2) (answer 0x58 0x45 9 1 (0xFF ∷ 0x39 ∷ [])) ∷ tick_at 0
    ∷ from 0 origin content ∷ tick_at 0 ∷ []

abbrev pub impostor_sent : List Sent
impostor_sent =
    nothing Opened ∷ to SentRequest origin (get_temp []) ∷ nothing Ignored ∷ nothing Ignored
    ∷ nothing Ignored
    ∷ to Rejected origin (0x70 ∷ 0 ∷ 0 ∷ 9 ∷ []) ∷ nothing Ignored ∷ nothing Idle
    ∷ nothing (Answered Kept) ∷ to Delivered (client 1) (content_for_client 10) ∷ []

-- refusals: an unknown method, an option that isn't recognised, and a path without a map
abbrev pub refusals : List Turn
refusals =
    from 0 (client 1) (0x50 ∷ 5 ∷ 0 ∷ 7 ∷ 0xB1 ∷ 0x74 ∷ [])
    ∷ from 0 (client 1) (0x50 ∷ 1 ∷ 0 ∷ 8 ∷ 0xB1 ∷ 0x74 ∷ 0xC1 ∷ 6 ∷ [])
    ∷ from 0 (client 1) (0x50 ∷ 1 ∷ 0 ∷ 9 ∷ 0xB1 ∷ 0x75 ∷ []) ∷ []

abbrev pub refusals_sent : List Sent
refusals_sent =
    to (Refused METHOD_NOT_ALLOWED) (client 1) (0x50 ∷ 0x85 ∷ 0 ∷ 1 ∷ [])
    ∷ to (Refused BAD_OPTION) (client 1) (0x50 ∷ 0x82 ∷ 0 ∷ 2 ∷ [])
    ∷ to (Refused NOT_FOUND) (client 1) (0x50 ∷ 0x84 ∷ 0 ∷ 3 ∷ []) ∷ []

-- a second path segment of `n` bytes, from 13 to 268
abbrev pub segment : ℕ → List ℕ
segment n = 0x0D ∷ (n - 13) ∷ replicate n 0x61

-- with a segment of 110 bytes the forwarded request would have 129 bytes, with one of 109 it has
-- 128
abbrev pub long_paths : List Turn
long_paths =
    from 0 (client 1) (get_t (segment 110)) ∷ from 0 (client 1) (get_t_as 8 (segment 109))
    ∷ tick_at 0 ∷ []

abbrev pub long_paths_sent : List Sent
long_paths_sent =
    to (Refused REQUEST_ENTITY_TOO_LARGE) (client 1) (0x50 ∷ 0x8D ∷ 0 ∷ 1 ∷ []) ∷ nothing Opened
    ∷ to SentRequest origin
    (0x48 ∷ 1 ∷ 0 ∷ 2 ∷ 0 ∷ 0 ∷ 0 ∷ 0 ∷ 0 ∷ 0 ∷ 0 ∷ 1 ∷ 0xB4 ∷ 0x74 ∷ 0x65 ∷ 0x6D ∷ 0x70
    ∷ segment 109) ∷ []

-- a segment has at most 255 bytes
abbrev pub long_segments : List Turn
long_segments =
    from 0 (client 1) (get_t (segment 256)) ∷ from 0 (client 1) (get_t_as 8 (segment 255)) ∷ []

abbrev pub long_segments_sent : List Sent
long_segments_sent =
    to (Refused BAD_OPTION) (client 1) (0x50 ∷ 0x82 ∷ 0 ∷ 1 ∷ []) ∷ nothing Opened ∷ []

-- the payload of a GET is ignored
abbrev pub payload_in_get : List Turn
payload_in_get = from 0 (client 1) (get_t (0xFF ∷ 0x39 ∷ [])) ∷ tick_at 0 ∷ []

abbrev pub payload_in_get_sent : List Sent
payload_in_get_sent = nothing Opened ∷ to SentRequest origin (get_temp []) ∷ []

-- two clients with room for one exchange: the second one, which requests something else, is told to
-- try again after five seconds
abbrev pub full : List Turn
full = from 0 (client 1) (get_t []) ∷ from 0 (client 3) (get_t (1 ∷ 0x78 ∷ [])) ∷ []

abbrev pub full_sent : List Sent
full_sent = nothing Opened ∷ to Overloaded (client 3) (0x50 ∷ 0xA3 ∷ 0 ∷ 1 ∷ 0xD1 ∷ 1 ∷ 5 ∷ []) ∷ []

-- Empty and malformed messages, and one with an unused code class: a Reset if they are Confirmable,
-- and nothing otherwise; fewer than four bytes, or another version, isn't a message
abbrev pub unprocessed_messages : List Turn
unprocessed_messages =
    from 0 (client 1) (0x40 ∷ 0 ∷ 0 ∷ 9 ∷ []) ∷ from 0 (client 1) (0x50 ∷ 0 ∷ 0 ∷ 9 ∷ [])
    ∷ from 0 (client 1) (0x40 ∷ 0 ∷ 0 ∷ 9 ∷ 0 ∷ [])
    ∷ from 0 (client 1) (0x40 ∷ 1 ∷ 0 ∷ 7 ∷ 0xFF ∷ [])
    ∷ from 0 (client 1) (0x40 ∷ 0x20 ∷ 0 ∷ 4 ∷ []) ∷ from 0 (client 1) (0x40 ∷ 1 ∷ 0 ∷ [])
    ∷ from 0 (client 1) (0 ∷ 1 ∷ 0 ∷ 7 ∷ []) ∷ []

abbrev pub unprocessed_messages_sent : List Sent
unprocessed_messages_sent =
    to Rejected (client 1) (0x70 ∷ 0 ∷ 0 ∷ 9 ∷ []) ∷ nothing Ignored
    ∷ to Rejected (client 1) (0x70 ∷ 0 ∷ 0 ∷ 9 ∷ [])
    ∷ to Rejected (client 1) (0x70 ∷ 0 ∷ 0 ∷ 7 ∷ [])
    ∷ to Rejected (client 1) (0x70 ∷ 0 ∷ 0 ∷ 4 ∷ []) ∷ nothing Ignored ∷ nothing Ignored ∷ []

-- a Confirmable message that is longer than the limit of datagrams
abbrev pub too_long : List Turn
too_long = from 0 (client 1) (0x40 ∷ 1 ∷ 0 ∷ 7 ∷ 0xFF ∷ replicate 124 0x39) ∷ []

abbrev pub too_long_sent : List Sent
too_long_sent = to Rejected (client 1) (0x70 ∷ 0 ∷ 0 ∷ 7 ∷ []) ∷ []

-- the longest payload that still fits a datagram of 128 bytes, with a token of eight bytes and a
-- Max-Age of four; a response with one more byte is replaced by a 5.02
abbrev pub payload_of : ℕ → List Turn
payload_of n = answered_by 0 (answer 0x68 0x45 1 1 (0xFF ∷ replicate n 0x39))

abbrev pub payload_of_109_sent : List Sent
payload_of_109_sent = delivered_as (0x50 ∷ 0x45 ∷ 0 ∷ 2 ∷ 0xD1 ∷ 1 ∷ 60 ∷ 0xFF ∷ replicate 109 0x39)

-- a proxy that has given out all ids of the first 247 seconds except one: this one goes to a 5.03,
-- since an exchange needs two; after that there is no reply
abbrev pub spent_proxy : State
spent_proxy = record proxy { ids = record { following = 32768; window = 0; given = 32767 } }

abbrev pub last_id : List Turn
last_id = from 0 (client 1) (get_t []) ∷ from 0 (client 2) (get_t [])
    ∷ from 0 (client 3) (0x50 ∷ 1 ∷ 0 ∷ 9 ∷ 0xB1 ∷ 0x75 ∷ []) ∷ []

abbrev pub last_id_sent : List Sent
last_id_sent =
    to Overloaded (client 1) (0x50 ∷ 0xA3 ∷ 0x80 ∷ 0 ∷ 0xD1 ∷ 1 ∷ 5 ∷ []) ∷ nothing NoId
    ∷ nothing NoId ∷ []

-- ids and tokens wrap to 0 after the greatest
abbrev pub wrapping_proxy : State
wrapping_proxy =
    new_state (record {
      limits = default_limits;
      routes = fixed_routes;
      first_id = 65535;
      salt = 18446744073709551615;
    })

abbrev pub wrapping : List Turn
wrapping = from 0 (client 1) (get_t []) ∷ tick_at 0
    ∷ from 0 origin (0x68 ∷ 0x44 ∷ 0xFF ∷ 0xFF ∷ replicate 8 0) ∷ tick_at 0 ∷ []

abbrev pub wrapping_sent : List Sent
wrapping_sent =
    nothing Opened
    ∷ to SentRequest origin
    (0x48 ∷ 1 ∷ 0xFF ∷ 0xFF ∷ 0 ∷ 0 ∷ 0 ∷ 0 ∷ 0 ∷ 0 ∷ 0 ∷ 0 ∷ 0xB4 ∷ 0x74 ∷ 0x65 ∷ 0x6D ∷ 0x70 ∷ [])
    ∷ nothing (Answered NotStored) ∷ to Delivered (client 1) (0x50 ∷ 0x44 ∷ 0 ∷ 0 ∷ []) ∷ []
