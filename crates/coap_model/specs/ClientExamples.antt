-- Limits for one client, computed on the definitions: what counts for which client, and what other
-- clients may still do. The bytes are encoded per RFC 7252 (3, 3.1, 5.10).
use Rattle.std.specs.Prelude.{ℕ, List, [], ◌∷◌}
use Rattle.coap_message.specs.declared.code.TheConstants.Code.{NOT_FOUND}
use Rattle.coap_endpoint.specs.declared.endpoint.Endpoint.{Endpoint}
use Rattle.coap_endpoint.specs.declared.endpoint.Ip.TheVariants.{V4}
use Rattle.coap_limits.specs.Limits.{default_limits}
use Rattle.coap_model.specs.declared.report.Outcome.TheVariants.{Again, NoRecordRoom, Refused, Joined, Opened, Overloaded, Answered, Acked, SentRequest, Delivered}
use Rattle.coap_model.specs.declared.report.Storing.TheVariants.{NotStored}
use Rattle.coap_model.specs.State.{State}
use Rattle.coap_model.specs.Runs.{Turn}
use Rattle.coap_model.specs.History.{no_item, admits, Action}
use Rattle.coap_model.specs.Examples.{Sent, origin, client, from, tick_at, nothing, to, get_t, get_t_as, answer}
use Rattle.coap_model.specs.LimitExamples.{proxy_of, asked, got_stale, stale_for_client, get_u, not_found, busy}
use Rattle.coap_model.specs.DuplicateExamples.{con_u, con_not_found}
use Rattle.coap_model.specs.ReliableExamples.{get_part, asked_part, first_sent, Acting, actions_of}

-- ---- proxies

-- with these limits for one client on records, on exchanges and on waiters, and the default limits
-- for all of them
abbrev pub records_of_one : ℕ → State
records_of_one n =
    proxy_of (record default_limits { client_con_records = n; client_non_records = n })

abbrev pub exchanges_of_one : ℕ → State
exchanges_of_one n = proxy_of (record default_limits { client_exchanges = n })

abbrev pub waiters_of_one : ℕ → State
waiters_of_one n = proxy_of (record default_limits { client_waiters = n })

-- with room for two exchanges, of which one client may open one
abbrev pub two_exchanges : State
two_exchanges = proxy_of (record default_limits { exchanges = 2; client_exchanges = 1 })

-- with room for one exchange, of which one client might open two
abbrev pub one_for_all : State
one_for_all = proxy_of (record default_limits { exchanges = 1; client_exchanges = 2 })

-- a 5.03 that says to try again after five seconds
abbrev pub try_again : Endpoint → ℕ → Sent
try_again at id = to Overloaded at (busy id (0xD1 ∷ 1 ∷ 5 ∷ []))

-- the same port at another address
abbrev pub elsewhere : Endpoint
elsewhere = record { ip = V4 (127 ∷ 0 ∷ 0 ∷ 2 ∷ []); port = 40001 }

-- ---- exchanges

-- One exchange for each client, two for all: a client may still join, and another may open one,
-- after which there is no room for a third.
abbrev pub one_each : List Turn
one_each =
    from 0 (client 1) (get_t []) ∷ from 0 (client 1) (get_part 8 0x78)
    ∷ from 0 (client 1) (get_t_as 9 []) ∷ from 0 (client 2) (get_part 1 0x78)
    ∷ from 0 (client 3) (get_part 1 0x79) ∷ []

abbrev pub one_each_sent : List Sent
one_each_sent =
    nothing Opened ∷ try_again (client 1) 1 ∷ nothing Joined ∷ nothing Opened
    ∷ try_again (client 3) 2 ∷ []

-- the same with what each observation acted on, and the actions
abbrev pub one_each_acting : List Acting
one_each_acting =
    record { turn = from 0 (client 1) (get_t []); act = admits 1 1 }
    ∷ record { turn = from 0 (client 1) (get_part 8 0x78); act = no_item }
    ∷ record { turn = from 0 (client 1) (get_t_as 9 []); act = admits 2 1 }
    ∷ record { turn = from 0 (client 2) (get_part 1 0x78); act = admits 3 2 }
    ∷ record { turn = from 0 (client 3) (get_part 1 0x79); act = no_item } ∷ []

abbrev pub one_each_actions : List Action
one_each_actions = actions_of two_exchanges [] one_each_acting

-- Two exchanges for a client are two. A POST counts like a GET, and an address and a port are
-- another client each.
abbrev pub two_of_one : List Turn
two_of_one =
    from 0 (client 1) (get_t [])
    ∷ from 0 (client 1) (0x50 ∷ 2 ∷ 0 ∷ 8 ∷ 0xB1 ∷ 0x74 ∷ 0xFF ∷ 0x39 ∷ [])
    ∷ from 0 (client 1) (get_part 9 0x78) ∷ from 0 (client 2) (get_part 1 0x79)
    ∷ from 0 elsewhere (get_part 1 0x7A) ∷ []

abbrev pub two_of_one_sent : List Sent
two_of_one_sent =
    nothing Opened ∷ nothing Opened ∷ try_again (client 1) 1 ∷ nothing Opened ∷ nothing Opened
    ∷ []

-- An exchange counts for the client that opened it until it is closed, which is when the last
-- client that waits for it is served.
abbrev pub until_closed : List Turn
until_closed =
    from 0 (client 1) (get_t []) ∷ from 0 (client 2) (get_t []) ∷ tick_at 0
    ∷ from 0 origin (got_stale 1 1) ∷ tick_at 0 ∷ from 0 (client 1) (get_part 8 0x78)
    ∷ from 0 (client 2) (get_part 8 0x79) ∷ tick_at 0 ∷ tick_at 0
    ∷ from 0 (client 1) (get_part 9 0x78) ∷ []

abbrev pub until_closed_sent : List Sent
until_closed_sent =
    nothing Opened ∷ nothing Joined ∷ first_sent ∷ nothing (Answered NotStored)
    ∷ to Delivered (client 1) (stale_for_client 2) ∷ try_again (client 1) 3 ∷ nothing Opened
    ∷ to SentRequest origin (asked_part 4 2 0x79) ∷ to Delivered (client 2) (stale_for_client 5)
    ∷ nothing Opened ∷ []

-- a limit for one client that is greater than the one for all has no effect
abbrev pub one_at_all : List Turn
one_at_all = from 0 (client 1) (get_t []) ∷ from 0 (client 1) (get_part 8 0x78) ∷ []

abbrev pub one_at_all_sent : List Sent
one_at_all_sent = nothing Opened ∷ try_again (client 1) 1 ∷ []

-- ---- clients that wait

-- One request of each client may wait: the second has no room to join, another client has. Once the
-- first is served, there is room for one more.
abbrev pub one_waits : List Turn
one_waits =
    from 0 (client 1) (get_t []) ∷ from 0 (client 1) (get_t_as 8 [])
    ∷ from 0 (client 2) (get_t []) ∷ tick_at 0 ∷ from 0 origin (got_stale 2 1) ∷ tick_at 0
    ∷ from 0 (client 1) (get_t_as 9 []) ∷ []

abbrev pub one_waits_sent : List Sent
one_waits_sent =
    nothing Opened ∷ try_again (client 1) 1 ∷ nothing Joined ∷ to SentRequest origin (asked 2 1)
    ∷ nothing (Answered NotStored) ∷ to Delivered (client 1) (stale_for_client 3)
    ∷ nothing Opened ∷ []

-- One that was sent its answer in a Confirmable message still waits, for its acknowledgement.
abbrev pub con_t : ℕ → List ℕ
con_t id = 0x40 ∷ 1 ∷ 0 ∷ id ∷ 0xB1 ∷ 0x74 ∷ []

abbrev pub until_acknowledged : List Turn
until_acknowledged =
    from 0 (client 1) (con_t 1) ∷ tick_at 0 ∷ from 0 origin (got_stale 1 1) ∷ tick_at 0
    ∷ from 0 (client 1) (con_t 2) ∷ from 0 (client 1) (0x60 ∷ 0 ∷ 0 ∷ 2 ∷ [])
    ∷ from 0 (client 1) (con_t 3) ∷ []

abbrev pub until_acknowledged_sent : List Sent
until_acknowledged_sent =
    to Opened (client 1) (0x60 ∷ 0 ∷ 0 ∷ 1 ∷ []) ∷ first_sent ∷ nothing (Answered NotStored)
    ∷ to Delivered (client 1) (0x40 ∷ 0x45 ∷ 0 ∷ 2 ∷ 0xD0 ∷ 1 ∷ 0xFF ∷ 0x32 ∷ 0x31 ∷ [])
    ∷ to Overloaded (client 1) (0x60 ∷ 0xA3 ∷ 0 ∷ 2 ∷ 0xD1 ∷ 1 ∷ 5 ∷ []) ∷ nothing Acked
    ∷ to Opened (client 1) (0x60 ∷ 0 ∷ 0 ∷ 3 ∷ []) ∷ []

-- ---- remembered messages

-- One Confirmable message of each client is remembered: another gets no reply until the first is
-- forgotten, the first is still a duplicate, and another client has its own.
abbrev pub one_record_each : List Turn
one_record_each =
    from 0 (client 1) (con_u 1) ∷ from 0 (client 1) (con_u 2) ∷ from 0 (client 2) (con_u 2)
    ∷ from 246999 (client 1) (con_u 2) ∷ from 246999 (client 1) (con_u 1)
    ∷ from 247000 (client 1) (con_u 2) ∷ []

abbrev pub one_record_each_sent : List Sent
one_record_each_sent =
    to (Refused NOT_FOUND) (client 1) (con_not_found 1) ∷ nothing NoRecordRoom
    ∷ to (Refused NOT_FOUND) (client 2) (con_not_found 2) ∷ nothing NoRecordRoom
    ∷ to Again (client 1) (con_not_found 1) ∷ to (Refused NOT_FOUND) (client 1) (con_not_found 2)
    ∷ []

-- Non-confirmable ones count separately, and are forgotten sooner.
abbrev pub one_of_each_type : List Turn
one_of_each_type =
    from 0 (client 1) (con_u 1) ∷ from 0 (client 1) (get_u 7) ∷ from 0 (client 1) (get_u 8)
    ∷ from 144999 (client 1) (get_u 8) ∷ from 145000 (client 1) (get_u 8)
    ∷ from 145000 (client 1) (con_u 2) ∷ []

abbrev pub one_of_each_type_sent : List Sent
one_of_each_type_sent =
    to (Refused NOT_FOUND) (client 1) (con_not_found 1)
    ∷ to (Refused NOT_FOUND) (client 1) (not_found 0 1) ∷ nothing NoRecordRoom
    ∷ nothing NoRecordRoom ∷ to (Refused NOT_FOUND) (client 1) (not_found 0 2)
    ∷ nothing NoRecordRoom ∷ []

-- A response in a Confirmable message counts for the origin server that sends it, and not for the
-- client whose request it answers: the second one isn't acknowledged until the first is forgotten,
-- and the client's own message is remembered.
abbrev pub separate : ℕ → ℕ → List ℕ
separate id token = answer 0x48 0x45 id token (0xD0 ∷ 1 ∷ 0xFF ∷ 0x32 ∷ 0x31 ∷ [])

abbrev pub of_the_origin : List Turn
of_the_origin =
    from 0 (client 1) (get_t []) ∷ from 0 (client 2) (get_part 8 0x78) ∷ tick_at 0
    ∷ from 0 origin (separate 0x31 1) ∷ tick_at 0 ∷ from 0 origin (separate 0x32 2)
    ∷ from 0 (client 1) (con_u 1) ∷ from 246999 origin (separate 0x32 2)
    ∷ from 247000 origin (separate 0x32 2) ∷ []

abbrev pub of_the_origin_sent : List Sent
of_the_origin_sent =
    nothing Opened ∷ nothing Opened ∷ first_sent
    ∷ to (Answered NotStored) origin (0x60 ∷ 0 ∷ 0 ∷ 0x31 ∷ [])
    ∷ to SentRequest origin (asked_part 2 2 0x78) ∷ nothing NoRecordRoom
    ∷ to (Refused NOT_FOUND) (client 1) (con_not_found 1) ∷ nothing NoRecordRoom
    ∷ to (Answered NotStored) origin (0x60 ∷ 0 ∷ 0 ∷ 0x32 ∷ []) ∷ []
