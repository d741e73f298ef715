-- Runs in which clients are answered from the cache, computed on the definitions: what is kept
-- within which limits of bytes and entries, how it ages, which requests it answers, and that an
-- answer from the cache takes a Message ID. The bytes are encoded per RFC 7252 (3, 3.1, 5.10).
use Rattle.std.specs.Prelude.{ℕ, List, [], ◌∷◌, ◌++◌, replicate}
use Rattle.coap_model.specs.declared.report.Outcome.TheVariants.{Hit, Opened, NoId, Answered, SentRequest, Delivered}
use Rattle.coap_model.specs.declared.report.Storing.TheVariants.{Kept, TooLarge}
use Rattle.coap_limits.specs.Limits.{default_limits}
use Rattle.coap_model.specs.State.{State}
use Rattle.coap_model.specs.Runs.{Turn}
use Rattle.coap_model.specs.Examples.{Sent, origin, client, from, tick_at, nothing, to, get_t_as, get_t, answer, answered_by, delivered_with, delivered_as, delivered_once, content, content_for_client, first_answer, first_answer_sent}
use Rattle.coap_model.specs.LimitExamples.{proxy_of, asked, got}

-- ---- the same request again

-- a GET for the path `t` with the id 8, and what follows
abbrev pub get_again : List ℕ → List ℕ
get_again more = get_t_as 8 more

abbrev pub asks_again : ℕ → List Turn
asks_again now = from now (client 1) (get_again []) ∷ []

-- it is answered from the cache, or an exchange is opened
abbrev pub hit_with : List ℕ → List Sent
hit_with bytes = to Hit (client 1) bytes ∷ []

abbrev pub missed : List Sent
missed = nothing Opened ∷ []

-- ---- age

-- the first answer, and the same request this many milliseconds later: it gets a reply with the
-- third id, and the rest of the ten seconds
abbrev pub aged : ℕ → List Turn
aged now = first_answer ++ asks_again now

abbrev pub aged_sent : List ℕ → List Sent
aged_sent age = first_answer_sent
    ++ hit_with (0x50 ∷ 0x45 ∷ 0 ∷ 3 ∷ (age ++ (0xFF ∷ 0x32 ∷ 0x31 ∷ [])))

-- a Max-Age of this many seconds; in the last second, the Max-Age is 0
abbrev pub seconds : ℕ → List ℕ
seconds left = 0xD1 ∷ 1 ∷ left ∷ []

abbrev pub no_second : List ℕ
no_second = 0xD0 ∷ 1 ∷ []

-- a millisecond after the ten seconds, a new request is sent to the origin server
abbrev pub stale : List Turn
stale = aged 10001 ++ tick_at 10001 ∷ []

abbrev pub stale_sent : List Sent
stale_sent = first_answer_sent ++ nothing Opened ∷ to SentRequest origin (asked 3 2) ∷ []

-- the age counts from the arrival of the answer, and not from its delivery: it arrives at 5,000 and
-- is delivered at 7,500, and at 9,000 six seconds are left
abbrev pub aged_from_coming : List Turn
aged_from_coming =
    from 0 (client 1) (get_t []) ∷ tick_at 0 ∷ from 5000 origin content ∷ tick_at 7500
    ∷ asks_again 9000

abbrev pub aged_from_coming_sent : List Sent
aged_from_coming_sent = delivered_as (content_for_client 7)
    ++ hit_with (0x50 ∷ 0x45 ∷ 0 ∷ 3 ∷ (seconds 6 ++ (0xFF ∷ 0x32 ∷ 0x31 ∷ [])))

-- ---- what is kept

-- an answer with this code and these options, and the same request later
abbrev pub again_after : ℕ → ℕ → List ℕ → List Turn
again_after now code options = answered_by 0 (answer 0x68 code 1 1 options) ++ asks_again now

-- the replies to both, if the answer is kept and still fresh
abbrev pub kept_and_hit : ℕ → List ℕ → List ℕ → List Sent
kept_and_hit code first later =
    delivered_as (0x50 ∷ code ∷ 0 ∷ 2 ∷ first) ++ hit_with (0x50 ∷ code ∷ 0 ∷ 3 ∷ later)

-- the same, if it was kept but isn't fresh any more
abbrev pub kept_and_missed : ℕ → List ℕ → List Sent
kept_and_missed code first = delivered_as (0x50 ∷ code ∷ 0 ∷ 2 ∷ first) ++ missed

-- the same, if it wasn't kept
abbrev pub not_kept : ℕ → List ℕ → List Sent
not_kept code first = delivered_once (0x50 ∷ code ∷ 0 ∷ 2 ∷ first) ++ missed

-- ---- how much is kept

-- The size of the entry for the first answer is 73 bytes: 64, five for the path `temp`, two for a
-- Max-Age of one byte, and a payload of two.
abbrev pub within_bytes : ℕ → State
within_bytes bytes = proxy_of (record default_limits { cache_bytes = bytes })

abbrev pub too_large_sent : List Sent
too_large_sent = delivered_with TooLarge (content_for_client 10) ++ missed

-- an answer with one byte less is kept within 72 bytes; when it is stale, one of 73 bytes arrives
-- for the same key, which is too large: then neither of them is kept
abbrev pub outgrown : List Turn
outgrown = answered_by 0 (answer 0x68 0x45 1 1 (0xD1 ∷ 1 ∷ 10 ∷ 0xFF ∷ 0x32 ∷ []))
    ++ asks_again 10001 ++ tick_at 10001 ∷ from 10001 origin (got 3 2) ∷ []

-- a GET with this id for a path with two segments, `t` and another; the request that is forwarded
-- for it, with its own id and the last byte of its token; its answer; and what the client is sent
abbrev pub get_part : ℕ → ℕ → List ℕ
get_part id segment = get_t_as id (1 ∷ segment ∷ [])

abbrev pub asked_part : ℕ → ℕ → ℕ → List ℕ
asked_part id token segment = asked id token ++ (1 ∷ segment ∷ [])

abbrev pub for_client : ℕ → List ℕ
for_client id = 0x50 ∷ 0x45 ∷ 0 ∷ id ∷ 0xD1 ∷ 1 ∷ 10 ∷ 0xFF ∷ 0x32 ∷ 0x31 ∷ []

abbrev pub part_answered : ℕ → ℕ → ℕ → List Turn
part_answered id token segment =
    from 0 (client 1) (get_part segment segment) ∷ tick_at 0 ∷ from 0 origin (got id token)
    ∷ tick_at 0 ∷ []

abbrev pub part_answered_sent : ℕ → ℕ → ℕ → ℕ → List Sent
part_answered_sent id token segment next =
    nothing Opened ∷ to SentRequest origin (asked_part id token segment) ∷ nothing (Answered Kept)
    ∷ to Delivered (client 1) (for_client next) ∷ []

-- with room for one entry, an answer for another key replaces the first
abbrev pub within_entries : ℕ → State
within_entries entries = proxy_of (record default_limits { cache_entries = entries })

abbrev pub two_keys : List Turn
two_keys = first_answer ++ part_answered 3 2 0x78
    ++ from 0 (client 1) (get_part 9 0x78) ∷ asks_again 0

abbrev pub two_keys_sent : List Sent
two_keys_sent =
    first_answer_sent ++ part_answered_sent 3 2 0x78 4 ++ hit_with (for_client 5) ++ missed

-- with room for two entries, the least recently used one is evicted: a client was answered with the
-- first, so the second goes
abbrev pub used_since : List Turn
used_since = first_answer ++ part_answered 3 2 0x78 ++ asks_again 0 ++ part_answered 6 3 0x79
    ++ from 0 (client 1) (get_t_as 9 []) ∷ from 0 (client 1) (get_part 10 0x79)
    ∷ from 0 (client 1) (get_part 11 0x78) ∷ []

abbrev pub used_since_sent : List Sent
used_since_sent = first_answer_sent ++ part_answered_sent 3 2 0x78 4 ++ hit_with (for_client 5)
    ++ part_answered_sent 6 3 0x79 7 ++ hit_with (for_client 8) ++ hit_with (for_client 9) ++ missed

-- ---- which requests

-- an option that isn't part of the key, Size1, and one that is, Accept
abbrev pub with_size : List Turn
with_size = first_answer ++ from 0 (client 1) (get_again (0xD1 ∷ 0x24 ∷ 5 ∷ [])) ∷ []

abbrev pub with_accept : List Turn
with_accept = first_answer ++ from 0 (client 1) (get_again (0x61 ∷ 0x28 ∷ [])) ∷ tick_at 0 ∷ []

abbrev pub with_accept_sent : List Sent
with_accept_sent =
    first_answer_sent ++ nothing Opened
    ∷ to SentRequest origin (asked 3 2 ++ (0x61 ∷ 0x28 ∷ [])) ∷ []

-- a token of eight bytes 0xFF
abbrev pub greatest_token : List Turn
greatest_token = first_answer
    ++ from 0 (client 2) (0x58 ∷ 1 ∷ 0 ∷ 8 ∷ (replicate 8 0xFF ++ (0xB1 ∷ 0x74 ∷ []))) ∷ []

abbrev pub greatest_token_sent : List Sent
greatest_token_sent = first_answer_sent
    ++ to Hit (client 2)
    (0x58 ∷ 0x45 ∷ 0 ∷ 3 ∷ (replicate 8 0xFF ++ (seconds 10 ++ (0xFF ∷ 0x32 ∷ 0x31 ∷ [])))) ∷ []

-- an answer with the ETag AB, for clients with that tag and with another
abbrev pub tagged : List ℕ → List Turn
tagged request =
    answered_by 0 (answer 0x68 0x45 1 1 (0x41 ∷ 0xAB ∷ 0xA1 ∷ 10 ∷ 0xFF ∷ 0x32 ∷ 0x31 ∷ []))
    ++ from 2500 (client 1) request ∷ []

abbrev pub get_with_tag : ℕ → List ℕ
get_with_tag tag = 0x50 ∷ 1 ∷ 0 ∷ 1 ∷ 0x41 ∷ tag ∷ 0x71 ∷ 0x74 ∷ []

abbrev pub tagged_sent : List ℕ → List Sent
tagged_sent bytes =
    delivered_as (0x50 ∷ 0x45 ∷ 0 ∷ 2 ∷ 0x41 ∷ 0xAB ∷ 0xA1 ∷ 10 ∷ 0xFF ∷ 0x32 ∷ 0x31 ∷ [])
    ++ hit_with bytes

-- ---- ids

-- with three ids left, the first goes to the request, the next to the delivery, and the last to a
-- hit; after that there is no reply
abbrev pub last_hit : List Turn
last_hit = from 0 (client 1) (get_t []) ∷ tick_at 0
    ∷ from 0 origin
    (0x68 ∷ 0x45 ∷ 0x7F ∷ 0xFE ∷ 0 ∷ 0 ∷ 0 ∷ 0 ∷ 0 ∷ 0 ∷ 0 ∷ 1 ∷ 0xD1 ∷ 1 ∷ 10 ∷ 0xFF ∷ 0x32 ∷ 0x31
    ∷ [])
    ∷ tick_at 0 ∷ asks_again 0 ++ from 0 (client 1) (get_t_as 9 []) ∷ []

abbrev pub last_hit_sent : List Sent
last_hit_sent =
    nothing Opened
    ∷ to SentRequest origin
    (0x48 ∷ 1 ∷ 0x7F ∷ 0xFE ∷ 0 ∷ 0 ∷ 0 ∷ 0 ∷ 0 ∷ 0 ∷ 0 ∷ 1 ∷ 0xB4 ∷ 0x74 ∷ 0x65 ∷ 0x6D ∷ 0x70 ∷ [])
    ∷ nothing (Answered Kept)
    ∷ to Delivered (client 1) (0x50 ∷ 0x45 ∷ 0x7F ∷ 0xFF ∷ 0xD1 ∷ 1 ∷ 10 ∷ 0xFF ∷ 0x32 ∷ 0x31 ∷ [])
    ∷ to Hit (client 1) (0x50 ∷ 0x45 ∷ 0x80 ∷ 0 ∷ 0xD1 ∷ 1 ∷ 10 ∷ 0xFF ∷ 0x32 ∷ 0x31 ∷ [])
    ∷ nothing NoId ∷ []
