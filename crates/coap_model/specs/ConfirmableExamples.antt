-- Clients with Confirmable requests, computed on the definitions (RFC 7252, 4.2, 5.2.2 and 5.3.2):
-- a request that isn't answered from the cache is acknowledged immediately, and its answer is a
-- separate response, which is retransmitted until it is acknowledged. The bytes are encoded per RFC
-- 7252 (3, 3.1, 5.10).
use Rattle.std.specs.Prelude.{ℕ, List, [], ◌∷◌, ◌++◌}
use Rattle.coap_limits.specs.Limits.{default_limits}
use Rattle.coap_model.specs.declared.report.Outcome.TheVariants.{Ignored, Again, Joined, Opened, Overloaded, Answered, Acked, SentRequest, Resent, GaveUp, Delivered, Idle}
use Rattle.coap_model.specs.declared.report.Storing.TheVariants.{Kept, NotStored}
use Rattle.coap_model.specs.State.{State}
use Rattle.coap_model.specs.Runs.{Turn}
use Rattle.coap_model.specs.History.{admits, moves, serves}
use Rattle.coap_model.specs.Examples.{Sent, origin, client, from, tick_at, nothing, to, get_t, content}
use Rattle.coap_model.specs.LimitExamples.{proxy_of, asked}
use Rattle.coap_model.specs.ReliableExamples.{first_sent, Acting}
use Rattle.coap_model.specs.ResponseExamples.{empty_ack, empty_reset, con_got}

-- ---- what clients send and are sent

-- a Confirmable GET for the path `t` with the id 10 and the token AA, and its acknowledgement
abbrev pub con_get : List ℕ
con_get = 0x41 ∷ 1 ∷ 0 ∷ 10 ∷ 0xAA ∷ 0xB1 ∷ 0x74 ∷ []

abbrev pub acked_10 : List ℕ
acked_10 = 0x60 ∷ 0 ∷ 0 ∷ 10 ∷ []

-- its answer, with an id from the proxy and the client's token
abbrev pub con_content : ℕ → List ℕ
con_content id = 0x41 ∷ 0x45 ∷ 0 ∷ id ∷ 0xAA ∷ 0xD1 ∷ 1 ∷ 10 ∷ 0xFF ∷ 0x32 ∷ 0x31 ∷ []

-- ---- one client

-- its request is acknowledged, and its answer is sent in a Confirmable message
abbrev pub told_turns : List Turn
told_turns =
    from 0 (client 1) con_get ∷ tick_at 0 ∷ from 20 origin content ∷ tick_at 20 ∷ []

abbrev pub told_sent : List Sent
told_sent =
    to Opened (client 1) acked_10 ∷ first_sent ∷ nothing (Answered Kept)
    ∷ to Delivered (client 1) (con_content 2) ∷ []

abbrev pub then_told : List Turn → List Turn
then_told turns = told_turns ++ turns

abbrev pub then_sent : List Sent → List Sent
then_sent sent = told_sent ++ sent

-- A duplicate of its request gets the acknowledgement again, even after its answer was
-- acknowledged; 247 seconds after the first it is a new request.
abbrev pub confirmable : List Turn
confirmable =
    then_told (from 30 (client 1) (empty_ack 2) ∷ from 246999 (client 1) con_get
    ∷ from 247000 (client 1) con_get ∷ tick_at 247000 ∷ [])

abbrev pub confirmable_sent : List Sent
confirmable_sent =
    then_sent (nothing Acked ∷ to Again (client 1) acked_10 ∷ to Opened (client 1) acked_10
    ∷ to SentRequest origin (asked 3 2) ∷ [])

-- so does a duplicate that arrives before there is an answer, and one that arrives while the answer
-- isn't acknowledged yet: no additional client is admitted
abbrev pub repeated_request : List Turn
repeated_request =
    from 0 (client 1) con_get ∷ from 0 (client 1) con_get ∷ tick_at 0 ∷ from 1 (client 1) con_get
    ∷ from 20 origin content ∷ tick_at 20 ∷ from 21 (client 1) con_get ∷ tick_at 22
    ∷ from 23 (client 1) (empty_ack 2) ∷ tick_at 3000 ∷ []

abbrev pub repeated_request_sent : List Sent
repeated_request_sent =
    to Opened (client 1) acked_10 ∷ to Again (client 1) acked_10 ∷ first_sent
    ∷ to Again (client 1) acked_10 ∷ nothing (Answered Kept)
    ∷ to Delivered (client 1) (con_content 2) ∷ to Again (client 1) acked_10 ∷ nothing Idle
    ∷ nothing Acked ∷ nothing Idle ∷ []

-- ---- what closes a client

-- A client that never acknowledges is sent its answer five times, each time after twice as long,
-- and is given up. An acknowledgement from another endpoint or with another id is ignored.
abbrev pub unacknowledged : List Turn
unacknowledged =
    then_told (from 21 (client 2) (empty_ack 2) ∷ from 22 (client 1) (empty_ack 3)
    ∷ from 23 (client 1) (empty_ack 1) ∷ from 24 origin (empty_ack 2) ∷ tick_at 2019
    ∷ tick_at 2020 ∷ tick_at 6020 ∷ tick_at 14020 ∷ tick_at 30020 ∷ tick_at 62019 ∷ tick_at 62020
    ∷ from 62021 (client 1) (empty_ack 2) ∷ tick_at 62021 ∷ [])

abbrev pub unacknowledged_sent : List Sent
unacknowledged_sent =
    then_sent (nothing Ignored ∷ nothing Ignored ∷ nothing Ignored ∷ nothing Ignored
    ∷ nothing Idle ∷ to Resent (client 1) (con_content 2) ∷ to Resent (client 1) (con_content 2)
    ∷ to Resent (client 1) (con_content 2) ∷ to Resent (client 1) (con_content 2) ∷ nothing Idle
    ∷ nothing GaveUp ∷ nothing Ignored ∷ nothing Idle ∷ [])

-- a Reset closes it as an acknowledgement does, once; what arrives after that is ignored
abbrev pub reset_by_client : List Turn
reset_by_client =
    then_told (tick_at 2020 ∷ from 2021 (client 1) (empty_reset 2) ∷ tick_at 9000
    ∷ from 9001 (client 1) (empty_reset 2) ∷ from 9002 (client 1) (empty_ack 2) ∷ [])

abbrev pub reset_by_client_sent : List Sent
reset_by_client_sent =
    then_sent (to Resent (client 1) (con_content 2) ∷ nothing Acked ∷ nothing Idle
    ∷ nothing Ignored ∷ nothing Ignored ∷ [])

-- without ticks: an acknowledgement closes it until 247 seconds after the answer was first sent
abbrev pub closed_at : ℕ → List Turn
closed_at now = then_told (from now (client 1) (empty_ack 2) ∷ [])

-- with the greatest draw, which is that of the delivery, its answer is retransmitted after three
-- seconds
abbrev pub drawn : List Turn
drawn =
    from 0 (client 1) con_get ∷ tick_at 0 ∷ from 20 origin content
    ∷ record (tick_at 20) { draw = 1000 } ∷ tick_at 3019 ∷ tick_at 3020 ∷ tick_at 9019
    ∷ tick_at 9020 ∷ []

abbrev pub drawn_sent : List Sent
drawn_sent =
    then_sent (nothing Idle ∷ to Resent (client 1) (con_content 2) ∷ nothing Idle
    ∷ to Resent (client 1) (con_content 2) ∷ [])

-- ---- clients of both kinds

-- A client with a Confirmable request joins one with a Non-confirmable request: each is sent the
-- answer in a message of the type of its request, and only the Confirmable one is waited for.
abbrev pub both_kinds : List Turn
both_kinds =
    from 0 (client 1) (get_t []) ∷ from 0 (client 2) con_get ∷ tick_at 0
    ∷ from 0 origin content ∷ tick_at 0 ∷ tick_at 0 ∷ tick_at 0 ∷ from 1 (client 2) (empty_ack 2)
    ∷ from 1 (client 2) (empty_ack 3) ∷ tick_at 2000 ∷ []

abbrev pub both_kinds_sent : List Sent
both_kinds_sent =
    nothing Opened ∷ to Joined (client 2) acked_10 ∷ first_sent ∷ nothing (Answered Kept)
    ∷ to Delivered (client 1) (0x50 ∷ 0x45 ∷ 0 ∷ 2 ∷ 0xD1 ∷ 1 ∷ 10 ∷ 0xFF ∷ 0x32 ∷ 0x31 ∷ [])
    ∷ to Delivered (client 2) (con_content 3) ∷ nothing Idle ∷ nothing Ignored ∷ nothing Acked
    ∷ nothing Idle ∷ []

-- the exchange is given up after the request was acknowledged: the 5.04 is retransmitted like any
-- answer
abbrev pub given_up : List Turn
given_up =
    from 0 (client 1) con_get ∷ tick_at 0 ∷ from 1 origin (empty_ack 1) ∷ tick_at 1000
    ∷ tick_at 1000 ∷ tick_at 3000 ∷ from 3001 (client 1) (empty_ack 2) ∷ tick_at 9000 ∷ []

abbrev pub given_up_sent : List Sent
given_up_sent =
    to Opened (client 1) acked_10 ∷ first_sent ∷ nothing Acked ∷ nothing GaveUp
    ∷ to Delivered (client 1) (0x41 ∷ 0xA4 ∷ 0 ∷ 2 ∷ 0xAA ∷ [])
    ∷ to Resent (client 1) (0x41 ∷ 0xA4 ∷ 0 ∷ 2 ∷ 0xAA ∷ []) ∷ nothing Acked ∷ nothing Idle ∷ []

-- the answer from the origin server is a separate response itself
abbrev pub separate_answer : List Turn
separate_answer =
    from 0 (client 1) con_get ∷ tick_at 0 ∷ from 1 origin (empty_ack 1)
    ∷ from 20 origin (con_got 9 1)
    ∷ tick_at 20 ∷ from 21 (client 1) (empty_ack 2) ∷ []

abbrev pub separate_answer_sent : List Sent
separate_answer_sent =
    to Opened (client 1) acked_10 ∷ first_sent ∷ nothing Acked
    ∷ to (Answered Kept) origin (0x60 ∷ 0 ∷ 1 ∷ 9 ∷ [])
    ∷ to Delivered (client 1) (con_content 2) ∷ nothing Acked ∷ []

-- ---- capacity

-- A client counts until it acknowledges its answer, and its exchange only until the client is
-- served.
abbrev pub one_of_each : State
one_of_each = proxy_of (record default_limits { exchanges = 1; waiters = 1 })

abbrev pub counted_until : List Turn
counted_until =
    then_told (from 20 (client 2) (get_t (1 ∷ 0x78 ∷ [])) ∷ from 21 (client 1) (empty_ack 2)
    ∷ from 21 (client 3) (get_t (1 ∷ 0x78 ∷ [])) ∷ [])

abbrev pub counted_until_sent : List Sent
counted_until_sent =
    then_sent (to Overloaded (client 2) (0x50 ∷ 0xA3 ∷ 0 ∷ 3 ∷ 0xD1 ∷ 1 ∷ 5 ∷ []) ∷ nothing Acked
    ∷ nothing Opened ∷ [])

-- room for one exchange and two clients: a Confirmable request joins, and the next two are told to
-- try again, the Confirmable one of them in an acknowledgement
abbrev pub two_clients : State
two_clients = proxy_of (record default_limits { exchanges = 1; waiters = 2 })

abbrev pub full_tables : List Turn
full_tables =
    from 0 (client 1) (get_t []) ∷ from 0 (client 2) (0x40 ∷ 1 ∷ 0 ∷ 1 ∷ 0xB1 ∷ 0x74 ∷ [])
    ∷ from 0 (client 3) (0x50 ∷ 1 ∷ 0 ∷ 1 ∷ 0xB1 ∷ 0x74 ∷ [])
    ∷ from 0 (client 4) (0x40 ∷ 1 ∷ 0 ∷ 2 ∷ 0xB1 ∷ 0x74 ∷ 1 ∷ 0x78 ∷ []) ∷ []

abbrev pub full_tables_sent : List Sent
full_tables_sent =
    nothing Opened ∷ to Joined (client 2) (0x60 ∷ 0 ∷ 0 ∷ 1 ∷ [])
    ∷ to Overloaded (client 3) (0x50 ∷ 0xA3 ∷ 0 ∷ 1 ∷ 0xD1 ∷ 1 ∷ 5 ∷ [])
    ∷ to Overloaded (client 4) (0x60 ∷ 0xA3 ∷ 0 ∷ 2 ∷ 0xD1 ∷ 1 ∷ 5 ∷ []) ∷ []

-- A client that was sent its answer reserves no id: with four ids left, the first client takes two,
-- and the other two are free for another while the first hasn't acknowledged yet.
abbrev pub last_ids : List Turn
last_ids =
    from 0 (client 1) con_get ∷ tick_at 0
    ∷ from 20 origin (0x68 ∷ 0x44 ∷ 0x7F ∷ 0xFD ∷ 0 ∷ 0 ∷ 0 ∷ 0 ∷ 0 ∷ 0 ∷ 0 ∷ 1 ∷ [])
    ∷ tick_at 20 ∷ from 20 (client 2) con_get ∷ from 20 (client 3) con_get ∷ []

abbrev pub last_ids_sent : List Sent
last_ids_sent =
    to Opened (client 1) acked_10
    ∷ to SentRequest origin
    (0x48 ∷ 1 ∷ 0x7F ∷ 0xFD ∷ 0 ∷ 0 ∷ 0 ∷ 0 ∷ 0 ∷ 0 ∷ 0 ∷ 1 ∷ 0xB4 ∷ 0x74 ∷ 0x65 ∷ 0x6D ∷ 0x70 ∷ [])
    ∷ nothing (Answered NotStored)
    ∷ to Delivered (client 1) (0x41 ∷ 0x44 ∷ 0x7F ∷ 0xFE ∷ 0xAA ∷ [])
    ∷ to Opened (client 2) acked_10
    ∷ to Overloaded (client 3) (0x61 ∷ 0xA3 ∷ 0 ∷ 10 ∷ 0xAA ∷ 0xD1 ∷ 1 ∷ 5 ∷ []) ∷ []

-- ---- the definitions of the history

-- a client with a Confirmable request waits, is sent its answer, is sent it again, and acknowledges
-- it
abbrev pub waits_acting : List Acting
waits_acting =
    record { turn = from 0 (client 1) con_get; act = admits 1 1 }
    ∷ record { turn = tick_at 0; act = moves 1 }
    ∷ record { turn = from 20 origin content; act = moves 1 } ∷ []

abbrev pub told_acting : List Acting
told_acting = waits_acting ++ record { turn = tick_at 20; act = serves 1 } ∷ []

abbrev pub told_again_acting : List Acting
told_again_acting = told_acting ++ record { turn = tick_at 2020; act = serves 1 } ∷ []

abbrev pub closed_acting : List Acting
closed_acting =
    told_again_acting ++ record { turn = from 2021 (client 1) (empty_ack 2); act = serves 1 } ∷ []
