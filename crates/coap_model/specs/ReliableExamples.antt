-- Reliability towards origin servers, computed on the definitions: when a request is retransmitted
-- and when it is given up, how many are sent to one endpoint at once, and Message IDs by windows of
-- 247 seconds (RFC 7252, 4.2, 4.4, 4.7 and 4.8). The bytes are encoded per RFC 7252 (3, 3.1, 5.10).
use Rattle.std.specs.Prelude.{ℕ, List, [], ◌∷◌, ◌++◌, codes, map, true}
use Rattle.coap_message.specs.declared.code.TheConstants.Code.{NOT_FOUND}
use Rattle.coap_endpoint.specs.declared.endpoint.Endpoint.{Endpoint}
use Rattle.coap_endpoint.specs.declared.endpoint.Ip.TheVariants.{V4}
use Rattle.coap_limits.specs.Limits.{default_limits}
use Rattle.coap_model.specs.declared.report.Outcome.TheVariants.{Ignored, Refused, Hit, Opened, NoId, Answered, SentRequest, Resent, GaveUp, Delivered, Idle}
use Rattle.coap_model.specs.declared.report.Storing.TheVariants.{Kept, NotStored}
use Rattle.coap_model.specs.Events.{tick}
use Rattle.coap_model.specs.State.{State}
use Rattle.coap_model.specs.Runs.{Turn, answer_at}
use Rattle.coap_model.specs.Step.{step_of}
use Rattle.coap_model.specs.History.{Act, no_item, admits, moves, serves, Action}
use Rattle.coap_model.specs.Examples.{Sent, origin, client, from, tick_at, nothing, to, proxy, get_t_as, get_t, answer, first_answer}
use Rattle.coap_model.specs.LimitExamples.{proxy_of, asked, got, for_client, get_u, not_found}
use Rattle.coap_model.specs.FormExamples.{after}
use Rattle.coap_model.specs.OptionExamples.{with_scheme}

-- ---- proxies and what they send

-- with exchanges that may take a second, or ten minutes
abbrev pub hasty_proxy : State
hasty_proxy = proxy_of (record default_limits { exchange_ms = 1000 })

abbrev pub patient_proxy : State
patient_proxy = proxy_of (record default_limits { exchange_ms = 600000 })

abbrev pub tick_with : ℕ → ℕ → Turn
tick_with draw now = record { now = now; draw = draw; event = tick }

-- a request for another path, with two segments, and the request that is forwarded for it, with its
-- id and the last byte of its token
abbrev pub get_part : ℕ → ℕ → List ℕ
get_part id segment = get_t_as id (1 ∷ segment ∷ [])

abbrev pub asked_part : ℕ → ℕ → ℕ → List ℕ
asked_part id token segment = asked id token ++ (1 ∷ segment ∷ [])

-- the request of the first exchange, for the first time and again
abbrev pub first_sent : Sent
first_sent = to SentRequest origin (asked 1 1)

abbrev pub sent_again : Sent
sent_again = to Resent origin (asked 1 1)

-- a 5.04, with an id
abbrev pub timed_out : ℕ → Sent
timed_out id = to Delivered (client 1) (0x50 ∷ 0xA4 ∷ 0 ∷ id ∷ [])

-- ---- an origin server that stays silent

-- The request is sent five times in all: it is retransmitted after two seconds, and then after
-- twice as long each time. It is given up after the last wait, at 62 seconds, and the client gets a
-- 5.04.
abbrev pub silent_origin : List Turn
silent_origin =
    from 0 (client 1) (get_t []) ∷ tick_at 0 ∷ tick_at 1999 ∷ tick_at 2000 ∷ tick_at 5999
    ∷ tick_at 6000 ∷ tick_at 13999 ∷ tick_at 14000 ∷ tick_at 29999 ∷ tick_at 30000 ∷ tick_at 61999
    ∷ tick_at 62000 ∷ tick_at 62000 ∷ tick_at 62000 ∷ []

-- with the longest first wait, three seconds, it is given up at 93 seconds; draws after the first
-- transmission have no effect
abbrev pub longest_waits : List Turn
longest_waits =
    from 0 (client 1) (get_t []) ∷ tick_with 1000 0 ∷ tick_at 2999 ∷ tick_at 3000
    ∷ tick_with 500 8999 ∷ tick_at 9000 ∷ tick_at 20999 ∷ tick_with 1 21000 ∷ tick_at 44999
    ∷ tick_at 45000 ∷ tick_at 92999 ∷ tick_with 1000 93000 ∷ tick_at 93000 ∷ tick_at 93000 ∷ []

-- what both send
abbrev pub silence_sent : List Sent
silence_sent =
    nothing Opened ∷ first_sent ∷ nothing Idle ∷ sent_again ∷ nothing Idle ∷ sent_again
    ∷ nothing Idle ∷ sent_again ∷ nothing Idle ∷ sent_again ∷ nothing Idle ∷ nothing GaveUp
    ∷ timed_out 2 ∷ nothing Idle ∷ []

-- each wait begins when the request is actually sent, and not when it was due
abbrev pub late_ticks : List Turn
late_ticks =
    from 0 (client 1) (get_t []) ∷ tick_at 5 ∷ tick_at 2004 ∷ tick_at 2500 ∷ tick_at 6499
    ∷ tick_at 6500 ∷ []

abbrev pub late_ticks_sent : List Sent
late_ticks_sent =
    nothing Opened ∷ first_sent ∷ nothing Idle ∷ sent_again ∷ nothing Idle ∷ sent_again ∷ []

-- If an exchange may take longer, nothing is retransmitted from 93 seconds after the first
-- transmission on: a request that was only sent once by then is given up.
abbrev pub first_again_at : ℕ → List Turn
first_again_at now = from 0 (client 1) (get_t []) ∷ tick_at 0 ∷ tick_at now ∷ []

abbrev pub again_in_time : List Sent
again_in_time = nothing Opened ∷ first_sent ∷ sent_again ∷ []

abbrev pub too_late : List Sent
too_late = nothing Opened ∷ first_sent ∷ nothing GaveUp ∷ []

-- one that was retransmitted just before that is given up after its wait of four seconds
abbrev pub after_the_last : List Turn
after_the_last = first_again_at 92999 ++ tick_at 96998 ∷ tick_at 96999 ∷ tick_at 96999 ∷ []

abbrev pub after_the_last_sent : List Sent
after_the_last_sent = again_in_time ++ nothing Idle ∷ nothing GaveUp ∷ timed_out 2 ∷ []

-- an answer between two transmissions ends the retransmission
abbrev pub answered_later : List Turn
answered_later =
    from 0 (client 1) (get_t []) ∷ tick_at 0 ∷ tick_at 2000 ∷ from 2500 origin (got 1 1)
    ∷ tick_at 2500 ∷ tick_at 6000 ∷ []

abbrev pub answered_later_sent : List Sent
answered_later_sent =
    nothing Opened ∷ first_sent ∷ sent_again ∷ nothing (Answered Kept)
    ∷ to Delivered (client 1) (for_client 2) ∷ nothing Idle ∷ []

-- ---- how long an exchange may take

-- a second: it is given up before its request is due to be retransmitted
abbrev pub deadline : List Turn
deadline =
    from 0 (client 1) (get_t []) ∷ tick_at 0 ∷ tick_at 999 ∷ tick_at 1000 ∷ tick_at 1000 ∷ []

abbrev pub deadline_sent : List Sent
deadline_sent = nothing Opened ∷ first_sent ∷ nothing Idle ∷ nothing GaveUp ∷ timed_out 2 ∷ []

-- the time counts from the request of the client, and not from the first transmission
abbrev pub sent_late : List Turn
sent_late =
    from 0 (client 1) (get_t []) ∷ tick_at 700 ∷ tick_at 999 ∷ tick_at 1000 ∷ tick_at 1000 ∷ []

-- a request that wasn't sent by then is never sent, and takes no id
abbrev pub never_sent : List Turn
never_sent = from 0 (client 1) (get_t []) ∷ tick_at 1000 ∷ tick_at 1000 ∷ tick_at 1000 ∷ []

abbrev pub never_sent_sent : List Sent
never_sent_sent = nothing Opened ∷ nothing GaveUp ∷ timed_out 1 ∷ nothing Idle ∷ []

-- one that waits for its turn is given up at its deadline too, without being sent
abbrev pub blocked : List Turn
blocked =
    from 0 (client 1) (get_t []) ∷ from 0 (client 1) (get_part 8 0x78) ∷ tick_at 0 ∷ tick_at 999
    ∷ tick_at 1000 ∷ tick_at 1000 ∷ tick_at 1000 ∷ tick_at 1000 ∷ tick_at 1000 ∷ []

abbrev pub blocked_sent : List Sent
blocked_sent =
    nothing Opened ∷ nothing Opened ∷ first_sent ∷ nothing Idle ∷ nothing GaveUp ∷ nothing GaveUp
    ∷ timed_out 2 ∷ timed_out 3 ∷ nothing Idle ∷ []

-- one that arrived later is sent when the first is given up, and has the rest of its own second
abbrev pub turn_of_the_second : List Turn
turn_of_the_second =
    from 0 (client 1) (get_t []) ∷ from 500 (client 1) (get_part 8 0x78) ∷ tick_at 500
    ∷ tick_at 999 ∷ tick_at 1000 ∷ tick_at 1000 ∷ tick_at 1000 ∷ tick_at 1499 ∷ tick_at 1500
    ∷ tick_at 1500 ∷ []

abbrev pub turn_of_the_second_sent : List Sent
turn_of_the_second_sent =
    nothing Opened ∷ nothing Opened ∷ first_sent ∷ nothing Idle ∷ nothing GaveUp
    ∷ to SentRequest origin (asked_part 2 2 0x78) ∷ timed_out 3 ∷ nothing Idle ∷ nothing GaveUp
    ∷ timed_out 4 ∷ []

-- an answer that arrives after an exchange was given up is ignored, before its client is served and
-- after, and it isn't kept
abbrev pub after_the_end : List Turn
after_the_end =
    from 0 (client 1) (get_t []) ∷ tick_at 0 ∷ tick_at 1000 ∷ from 1000 origin (got 1 1)
    ∷ tick_at 1000 ∷ from 1000 origin (got 1 1) ∷ from 1001 (client 2) (get_t []) ∷ []

abbrev pub after_the_end_sent : List Sent
after_the_end_sent =
    nothing Opened ∷ first_sent ∷ nothing GaveUp ∷ nothing Ignored ∷ timed_out 2 ∷ nothing Ignored
    ∷ nothing Opened ∷ []

-- ---- how many are sent to one endpoint at once

-- one: the second is sent when the first has its answer
abbrev pub one_at_a_time : List Turn
one_at_a_time =
    from 0 (client 1) (get_t []) ∷ from 0 (client 1) (get_part 8 0x78) ∷ tick_at 0 ∷ tick_at 0
    ∷ from 5 origin (got 1 1) ∷ tick_at 5 ∷ tick_at 5 ∷ tick_at 5 ∷ []

abbrev pub one_at_a_time_sent : List Sent
one_at_a_time_sent =
    nothing Opened ∷ nothing Opened ∷ first_sent ∷ nothing Idle ∷ nothing (Answered Kept)
    ∷ to SentRequest origin (asked_part 2 2 0x78) ∷ to Delivered (client 1) (for_client 3)
    ∷ nothing Idle ∷ []

-- two: the third is sent when one of them has its answer
abbrev pub two_at_a_time : List Turn
two_at_a_time =
    from 0 (client 1) (get_t []) ∷ from 0 (client 1) (get_part 8 0x78)
    ∷ from 0 (client 1) (get_part 9 0x79) ∷ tick_at 0 ∷ tick_at 0 ∷ tick_at 0
    ∷ from 5 origin (got 2 2) ∷ tick_at 5 ∷ tick_at 5 ∷ tick_at 5 ∷ []

abbrev pub two_at_a_time_sent : List Sent
two_at_a_time_sent =
    nothing Opened ∷ nothing Opened ∷ nothing Opened ∷ first_sent
    ∷ to SentRequest origin (asked_part 2 2 0x78) ∷ nothing Idle ∷ nothing (Answered Kept)
    ∷ to SentRequest origin (asked_part 3 3 0x79) ∷ to Delivered (client 1) (for_client 4)
    ∷ nothing Idle ∷ []

-- a known host, and a request for it
abbrev pub sensor : Endpoint
sensor = record { ip = V4 (192 ∷ 0 ∷ 2 ∷ 7 ∷ []); port = 5683 }

abbrev pub get_of_sensor : List ℕ
get_of_sensor = with_scheme (0x3B ∷ (codes "sensor.test" ++ (0x81 ∷ 0x78 ∷ 0xD4 ∷ 15 ∷ [])))

-- Two origin servers don't wait for each other: the third request is sent while the second waits
-- for the first, and its answer doesn't release the second.
abbrev pub two_origins : List Turn
two_origins =
    from 0 (client 1) (get_t []) ∷ from 0 (client 1) (get_part 8 0x78)
    ∷ from 0 (client 2) get_of_sensor ∷ tick_at 0 ∷ tick_at 0 ∷ tick_at 0 ∷ from 1 sensor (got 2 3)
    ∷ tick_at 1 ∷ tick_at 1 ∷ from 2 origin (answer 0x68 0x44 1 1 []) ∷ tick_at 2 ∷ tick_at 2 ∷ []

abbrev pub two_origins_sent : List Sent
two_origins_sent =
    nothing Opened ∷ nothing Opened ∷ nothing Opened ∷ first_sent
    ∷ to SentRequest sensor
    (0x48 ∷ 1 ∷ 0 ∷ 2 ∷ 0 ∷ 0 ∷ 0 ∷ 0 ∷ 0 ∷ 0 ∷ 0 ∷ 3 ∷ 0x3B ∷ (codes "sensor.test" ++ (0x81
    ∷ 0x78 ∷ [])))
    ∷ nothing Idle ∷ nothing (Answered Kept) ∷ to Delivered (client 2) (for_client 3)
    ∷ nothing Idle ∷ nothing (Answered NotStored)
    ∷ to SentRequest origin (asked_part 4 2 0x78)
    ∷ to Delivered (client 1) (0x50 ∷ 0x44 ∷ 0 ∷ 5 ∷ []) ∷ []

-- ---- Message IDs

-- If all ids of the first 247 seconds are given out, a request that needs one gets no reply until
-- the 247 seconds have passed; then ids continue from there.
abbrev pub next_window : List Turn
next_window =
    from 0 (client 1) (get_t []) ∷ from 246999 (client 2) (get_u 7)
    ∷ from 247000 (client 3) (get_u 8) ∷ from 247000 (client 4) (get_t []) ∷ tick_at 247000 ∷ []

abbrev pub next_window_sent : List Sent
next_window_sent =
    nothing NoId ∷ nothing NoId ∷ to (Refused NOT_FOUND) (client 3) (not_found 0x80 1)
    ∷ nothing Opened
    ∷ to SentRequest origin
    (0x48 ∷ 1 ∷ 0x80 ∷ 2 ∷ 0 ∷ 0 ∷ 0 ∷ 0 ∷ 0 ∷ 0 ∷ 0 ∷ 1 ∷ 0xB4 ∷ 0x74 ∷ 0x65 ∷ 0x6D ∷ 0x70 ∷ [])
    ∷ []

-- two ids of the first window are left, which are reserved for an exchange and its client; they are
-- given out in the next window
abbrev pub over_the_edge : List Turn
over_the_edge =
    from 246999 (client 1) (get_t []) ∷ from 246999 (client 2) (get_u 7) ∷ tick_at 247000
    ∷ from 247000 origin
    (0x68 ∷ 0x44 ∷ 0x7F ∷ 0xFF ∷ 0 ∷ 0 ∷ 0 ∷ 0 ∷ 0 ∷ 0 ∷ 0 ∷ 1 ∷ []) ∷ tick_at 247000
    ∷ []

abbrev pub over_the_edge_sent : List Sent
over_the_edge_sent =
    nothing Opened ∷ nothing NoId
    ∷ to SentRequest origin
    (0x48 ∷ 1 ∷ 0x7F ∷ 0xFF ∷ 0 ∷ 0 ∷ 0 ∷ 0 ∷ 0 ∷ 0 ∷ 0 ∷ 1 ∷ 0xB4 ∷ 0x74 ∷ 0x65 ∷ 0x6D ∷ 0x70 ∷ [])
    ∷ nothing (Answered NotStored) ∷ to Delivered (client 1) (0x50 ∷ 0x44 ∷ 0x80 ∷ 0 ∷ []) ∷ []

-- a retransmission has the id of the first transmission, and takes no new one
abbrev pub again_without_id : List Turn
again_without_id =
    from 0 (client 1) (get_t []) ∷ tick_at 0 ∷ tick_at 2000 ∷ from 2000 (client 2) (get_u 7) ∷ []

abbrev pub again_without_id_sent : List Sent
again_without_id_sent =
    nothing Opened
    ∷ to SentRequest origin
    (0x48 ∷ 1 ∷ 0x7F ∷ 0xFE ∷ 0 ∷ 0 ∷ 0 ∷ 0 ∷ 0 ∷ 0 ∷ 0 ∷ 1 ∷ 0xB4 ∷ 0x74 ∷ 0x65 ∷ 0x6D ∷ 0x70 ∷ [])
    ∷ to Resent origin
    (0x48 ∷ 1 ∷ 0x7F ∷ 0xFE ∷ 0 ∷ 0 ∷ 0 ∷ 0 ∷ 0 ∷ 0 ∷ 0 ∷ 1 ∷ 0xB4 ∷ 0x74 ∷ 0x65 ∷ 0x6D ∷ 0x70 ∷ [])
    ∷ to (Refused NOT_FOUND) (client 2) (not_found 0x7F 0xFF) ∷ []

-- an answer is in the cache, and all ids are given out: in an acknowledgement it needs none
abbrev pub spent_with_cache : State
spent_with_cache = record (after proxy first_answer) {
  ids = record { following = 32769; window = 0; given = 32768 };
}

abbrev pub hit_without_id : List Turn
hit_without_id =
    from 0 (client 2) (get_t []) ∷ from 0 (client 2) (0x40 ∷ 1 ∷ 0 ∷ 1 ∷ 0xB1 ∷ 0x74 ∷ []) ∷ []

abbrev pub hit_without_id_sent : List Sent
hit_without_id_sent =
    nothing NoId
    ∷ to Hit (client 2) (0x60 ∷ 0x45 ∷ 0 ∷ 1 ∷ 0xD1 ∷ 1 ∷ 10 ∷ 0xFF ∷ 0x32 ∷ 0x31 ∷ []) ∷ []

-- the id after 65,535 is 0
abbrev pub greatest_id : State
greatest_id = record proxy { ids = record { following = 65535; window = 0; given = 9 } }

abbrev pub after_the_greatest : List Turn
after_the_greatest =
    from 0 (client 1) (get_u 7) ∷ from 0 (client 1) (get_u 8) ∷ from 0 (client 1) (get_u 9) ∷ []

abbrev pub after_the_greatest_sent : List Sent
after_the_greatest_sent =
    to (Refused NOT_FOUND) (client 1) (not_found 0xFF 0xFF)
    ∷ to (Refused NOT_FOUND) (client 1) (not_found 0 0)
    ∷ to (Refused NOT_FOUND) (client 1) (not_found 0 1) ∷ []

-- ---- the definitions of the history

-- a turn, and what its observation acts on
pub record Acting : Type 0 where
  pub turn : Turn
  pub act : Act

-- the actions of a proxy at these turns, after others
abbrev pub actions_of : State → List Action → List Acting → List Action
actions_of w past [] = past
actions_of w past (a ∷ more) =
    actions_of (step_of w a.turn.now a.turn.draw true a.turn.event).state
    (record {
      observation = answer_at w a.turn.now a.turn.draw true a.turn.event;
      act = a.act;
    } ∷ past) more

-- a request is sent with a draw of 500, at 10, and is retransmitted at 2,510; another one waits for
-- its turn
abbrev pub sent_twice : List Acting
sent_twice =
    record { turn = from 0 (client 1) (get_t []); act = admits 1 1 }
    ∷ record { turn = from 5 (client 1) (get_part 8 0x78); act = admits 2 2 }
    ∷ record { turn = tick_with 500 10; act = moves 1 }
    ∷ record { turn = tick_at 2509; act = no_item }
    ∷ record { turn = tick_at 2510; act = moves 1 } ∷ []

-- then the first is answered, the second is sent, and the first client is served
abbrev pub then_answered : List Acting
then_answered = sent_twice
    ++ record { turn = from 3000 origin (got 1 1); act = moves 1 }
    ∷ record { turn = tick_at 3000; act = moves 2 }
    ∷ record { turn = tick_at 3000; act = serves 1 } ∷ []

abbrev pub history_of : List Acting → List Action
history_of acting = actions_of proxy [] acting

-- refusals at the last moment of the first window, and at the first of the second
abbrev pub two_windows : List Acting
two_windows =
    map (λ t. record { turn = t; act = no_item })
    (from 0 (client 1) (get_u 1) ∷ from 246999 (client 1) (get_u 2)
    ∷ from 247000 (client 1) (get_u 3) ∷ [])
