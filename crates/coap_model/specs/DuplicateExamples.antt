-- Duplicates, computed on the definitions: how long a request is remembered, what is sent again,
-- and how Confirmable requests are handled (RFC 7252, 4.2, 4.3, 4.5 and 4.8.2).
use Rattle.std.specs.Prelude.{ℕ, List, [], ◌∷◌, ◌++◌}
use Rattle.coap_message.specs.declared.code.TheConstants.Code.{NOT_FOUND}
use Rattle.coap_model.specs.declared.report.Outcome.TheVariants.{Again, NoRecordRoom, Refused, Hit, Opened, Overloaded}
use Rattle.coap_limits.specs.Limits.{default_limits}
use Rattle.coap_model.specs.State.{State}
use Rattle.coap_model.specs.Runs.{Turn}
use Rattle.coap_model.specs.Examples.{Sent, client, from, nothing, to, get_t, first_answer, first_answer_sent}
use Rattle.coap_model.specs.LimitExamples.{proxy_of, get_u, not_found}

-- a Confirmable GET for the path `u`, which has no map, with this id, and its 4.04
abbrev pub con_u : ℕ → List ℕ
con_u id = 0x40 ∷ 1 ∷ 0 ∷ id ∷ 0xB1 ∷ 0x75 ∷ []

abbrev pub con_not_found : ℕ → List ℕ
con_not_found id = 0x60 ∷ 0x84 ∷ 0 ∷ id ∷ []

-- a datagram that arrives at 0 and at another moment
abbrev pub twice_until : ℕ → List ℕ → List Turn
twice_until later bytes = from 0 (client 1) bytes ∷ from later (client 1) bytes ∷ []

-- what a client is sent: first a refusal, and then this
abbrev pub refused_with : List ℕ → Sent → List Sent
refused_with reply then = to (Refused NOT_FOUND) (client 1) reply ∷ then ∷ []

-- the same request, Confirmable and Non-confirmable, and from another port: all are different
abbrev pub of_one_id : List Turn
of_one_id = from 0 (client 1) (con_u 7) ∷ from 0 (client 1) (get_u 7) ∷ from 0 (client 2) (get_u 7)
    ∷ from 0 (client 2) (con_u 7) ∷ []

abbrev pub of_one_id_sent : List Sent
of_one_id_sent =
    to (Refused NOT_FOUND) (client 1) (con_not_found 7)
    ∷ to (Refused NOT_FOUND) (client 1) (not_found 0 1)
    ∷ to (Refused NOT_FOUND) (client 2) (not_found 0 2)
    ∷ to (Refused NOT_FOUND) (client 2) (con_not_found 7) ∷ []

-- room to remember one Confirmable request: the second gets no reply until the first is forgotten
abbrev pub one_record : State
one_record = proxy_of (record default_limits { con_records = 1 })

abbrev pub two_clients : List Turn
two_clients =
    from 0 (client 1) (con_u 1) ∷ from 0 (client 2) (con_u 2) ∷ from 246999 (client 1) (con_u 1)
    ∷ from 246999 (client 2) (con_u 2) ∷ from 247000 (client 2) (con_u 2) ∷ []

abbrev pub two_clients_sent : List Sent
two_clients_sent =
    to (Refused NOT_FOUND) (client 1) (con_not_found 1) ∷ nothing NoRecordRoom
    ∷ to Again (client 1) (con_not_found 1) ∷ nothing NoRecordRoom
    ∷ to (Refused NOT_FOUND) (client 2) (con_not_found 2) ∷ []

-- One whose answer is stored gets it piggybacked on the acknowledgement; its duplicate gets the
-- same bytes, even a second later.
abbrev pub con_hit : List ℕ
con_hit = 0x60 ∷ 0x45 ∷ 0 ∷ 11 ∷ 0xD1 ∷ 1 ∷ 9 ∷ 0xFF ∷ 0x32 ∷ 0x31 ∷ []

abbrev pub con_hits : List Turn
con_hits = first_answer ++ from 1000 (client 2) (0x40 ∷ 1 ∷ 0 ∷ 11 ∷ 0xB1 ∷ 0x74 ∷ [])
    ∷ from 2000 (client 2) (0x40 ∷ 1 ∷ 0 ∷ 11 ∷ 0xB1 ∷ 0x74 ∷ []) ∷ []

abbrev pub con_hits_sent : List Sent
con_hits_sent = first_answer_sent ++ to Hit (client 2) con_hit ∷ to Again (client 2) con_hit ∷ []

-- ---- each outcome of a request that is remembered, until the last moment and from then on

-- a request that opened an exchange, whose answer was delivered and is stale by then
abbrev pub opened_until : ℕ → List Turn
opened_until later = first_answer ++ from later (client 1) (get_t []) ∷ []

-- one that is answered from the cache a second after the answer arrived
abbrev pub hit_until : ℕ → List ℕ → List Turn
hit_until later request =
    first_answer ++ from 1000 (client 2) request ∷ from later (client 2) request ∷ []

abbrev pub hit_sent : List ℕ → Sent → List Sent
hit_sent reply then = first_answer_sent ++ to Hit (client 2) reply ∷ then ∷ []

-- a Confirmable GET for the path `t` with the id 11; its Empty acknowledgement; and its 5.03
abbrev pub con_t : List ℕ
con_t = 0x40 ∷ 1 ∷ 0 ∷ 11 ∷ 0xB1 ∷ 0x74 ∷ []

abbrev pub con_acked : List ℕ
con_acked = 0x60 ∷ 0 ∷ 0 ∷ 11 ∷ []

abbrev pub con_busy : List ℕ
con_busy = 0x60 ∷ 0xA3 ∷ 0 ∷ 11 ∷ 0xD1 ∷ 1 ∷ 5 ∷ []

-- one that arrives twice while there is room for one exchange, which is for something else
abbrev pub con_busy_until : ℕ → List Turn
con_busy_until later =
    from 0 (client 1) (get_t (1 ∷ 0x78 ∷ [])) ∷ from 0 (client 2) con_t
    ∷ from later (client 2) con_t ∷ []

abbrev pub con_busy_sent : Sent → List Sent
con_busy_sent then = nothing Opened ∷ to Overloaded (client 2) con_busy ∷ then ∷ []

-- the reply to a Non-confirmable hit, and a 5.03 with an id, if there is room for one exchange
abbrev pub non_hit : List ℕ
non_hit = 0x50 ∷ 0x45 ∷ 0 ∷ 3 ∷ 0xD1 ∷ 1 ∷ 9 ∷ 0xFF ∷ 0x32 ∷ 0x31 ∷ []

abbrev pub non_busy : ℕ → List ℕ
non_busy id = 0x50 ∷ 0xA3 ∷ 0 ∷ id ∷ 0xD1 ∷ 1 ∷ 5 ∷ []

-- a request for something else, which is told to try again later, while another client's exchange
-- is in progress
abbrev pub busy_until : ℕ → List Turn
busy_until later =
    from 0 (client 1) (get_t []) ∷ from 0 (client 2) (get_t (1 ∷ 0x78 ∷ []))
    ∷ from later (client 2) (get_t (1 ∷ 0x78 ∷ [])) ∷ []

abbrev pub busy_sent : Sent → List Sent
busy_sent then = nothing Opened ∷ to Overloaded (client 2) (non_busy 1) ∷ then ∷ []
