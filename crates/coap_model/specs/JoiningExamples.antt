-- Clients that request the same, computed on the definitions: one request to the origin server, and
-- each client served individually (RFC 7252, 5.7.1). The bytes are encoded per RFC 7252 (3, 3.1,
-- 5.10).
use Rattle.std.specs.Prelude.{ℕ, List, [], ◌∷◌, ◌++◌, replicate}
use Rattle.coap_message.specs.declared.code.TheConstants.Code.{REQUEST_ENTITY_TOO_LARGE}
use Rattle.coap_limits.specs.Limits.{default_limits}
use Rattle.coap_model.specs.declared.report.Outcome.TheVariants.{Again, Refused, Hit, Joined, Opened, Overloaded, NoId, Answered, Acked, SentRequest, GaveUp, Delivered, Idle}
use Rattle.coap_model.specs.declared.report.Storing.TheVariants.{Kept, NotStored}
use Rattle.coap_model.specs.State.{State}
use Rattle.coap_model.specs.Runs.{Turn}
use Rattle.coap_model.specs.History.{admits, moves, serves}
use Rattle.coap_model.specs.Examples.{Sent, origin, client, from, tick_at, nothing, to, get_t, answer}
use Rattle.coap_model.specs.LimitExamples.{proxy_of, asked, got, got_stale, stale_for_client, busy}
use Rattle.coap_model.specs.ReliableExamples.{get_part, asked_part, first_sent, Acting}
use Rattle.coap_model.specs.ResponseExamples.{empty_ack, empty_reset}

-- ---- proxies and clients

-- with room for one exchange, and for two waiters
abbrev pub two_waiters : State
two_waiters = proxy_of (record default_limits { exchanges = 1; waiters = 2 })

-- a client by number sends a GET for the path `t`, with its number as the token
abbrev pub asks : ℕ → ℕ → Turn
asks now n = from now (client n) (0x51 ∷ 1 ∷ 0 ∷ 7 ∷ n ∷ 0xB1 ∷ 0x74 ∷ [])

-- it is sent a response with a code, its token, a Message ID, and what follows
abbrev pub is_given : ℕ → ℕ → ℕ → List ℕ → Sent
is_given n code id more = to Delivered (client n) (0x51 ∷ code ∷ 0 ∷ id ∷ n ∷ more)

-- content that isn't fresh at all, and content that is fresh for ten seconds
abbrev pub stale : ℕ → ℕ → Sent
stale n id = is_given n 0x45 id (0xD0 ∷ 1 ∷ 0xFF ∷ 0x32 ∷ 0x31 ∷ [])

abbrev pub fresh : ℕ → ℕ → Sent
fresh n id = is_given n 0x45 id (0xD1 ∷ 1 ∷ 10 ∷ 0xFF ∷ 0x32 ∷ 0x31 ∷ [])

-- what a client is sent for it from the cache
abbrev pub shown : ℕ → ℕ → Sent
shown n id =
    to Hit (client n) (0x51 ∷ 0x45 ∷ 0 ∷ id ∷ n ∷ 0xD1 ∷ 1 ∷ 10 ∷ 0xFF ∷ 0x32 ∷ 0x31 ∷ [])

-- ---- one request

-- Three clients, one request, three deliveries in the order in which the clients arrived, each with
-- its own token, and nothing else. The next client's request is forwarded on its own.
abbrev pub three_wait : List Turn
three_wait = asks 0 3 ∷ asks 0 1 ∷ asks 0 2 ∷ tick_at 0 ∷ tick_at 0 ∷ []

abbrev pub two_served : List Turn
two_served = three_wait ++ from 0 origin (got_stale 1 1) ∷ tick_at 0 ∷ tick_at 0 ∷ []

abbrev pub collapsing : List Turn
collapsing = two_served ++ tick_at 0 ∷ tick_at 0 ∷ asks 0 4 ∷ tick_at 0 ∷ []

abbrev pub collapsing_sent : List Sent
collapsing_sent =
    nothing Opened ∷ nothing Joined ∷ nothing Joined ∷ first_sent ∷ nothing Idle
    ∷ nothing (Answered NotStored) ∷ stale 3 2 ∷ stale 1 3 ∷ stale 2 4 ∷ nothing Idle
    ∷ nothing Opened ∷ to SentRequest origin (asked 5 2) ∷ []

-- a duplicate of a request that joined has no further effect
abbrev pub joined_twice : List Turn
joined_twice =
    asks 0 1 ∷ asks 0 2 ∷ asks 0 2 ∷ tick_at 0 ∷ from 0 origin (got_stale 1 1) ∷ tick_at 0
    ∷ tick_at 0 ∷ tick_at 0 ∷ []

abbrev pub joined_twice_sent : List Sent
joined_twice_sent =
    nothing Opened ∷ nothing Joined ∷ nothing Again ∷ first_sent ∷ nothing (Answered NotStored)
    ∷ stale 1 2 ∷ stale 2 3 ∷ nothing Idle ∷ []

-- ---- until when

-- a request is joined while it waits for its turn, after it was sent, and after it was acknowledged
abbrev pub joined_until : List Turn
joined_until =
    asks 0 1 ∷ asks 0 2 ∷ tick_at 0 ∷ asks 0 3 ∷ from 0 origin (empty_ack 1) ∷ asks 0 4 ∷ []

abbrev pub joined_until_sent : List Sent
joined_until_sent =
    nothing Opened ∷ nothing Joined ∷ first_sent ∷ nothing Joined ∷ nothing Acked ∷ nothing Joined
    ∷ []

-- one that waits behind another to the same origin is joined too, and sent once when its turn comes
abbrev pub joined_in_turn : List Turn
joined_in_turn =
    from 0 (client 1) (get_t []) ∷ from 0 (client 2) (get_part 8 0x78) ∷ tick_at 0 ∷ tick_at 0
    ∷ from 0 (client 3) (get_part 8 0x78) ∷ from 1 origin (got_stale 1 1) ∷ tick_at 1 ∷ tick_at 1
    ∷ tick_at 1 ∷ from 1 origin (got_stale 2 2) ∷ tick_at 1 ∷ tick_at 1 ∷ tick_at 1 ∷ []

abbrev pub joined_in_turn_sent : List Sent
joined_in_turn_sent =
    nothing Opened ∷ nothing Opened ∷ first_sent ∷ nothing Idle ∷ nothing Joined
    ∷ nothing (Answered NotStored) ∷ to SentRequest origin (asked_part 2 2 0x78)
    ∷ to Delivered (client 1) (stale_for_client 3) ∷ nothing Idle ∷ nothing (Answered NotStored)
    ∷ to Delivered (client 2) (stale_for_client 4) ∷ to Delivered (client 3) (stale_for_client 5)
    ∷ nothing Idle ∷ []

-- once its answer is there, the cache answers, even before the others are served
abbrev pub then_cached : List Turn
then_cached = joined_until ++ from 0 origin (got 1 1) ∷ asks 0 5 ∷ tick_at 0 ∷ tick_at 0
    ∷ tick_at 0 ∷ tick_at 0 ∷ tick_at 0 ∷ []

abbrev pub then_cached_sent : List Sent
then_cached_sent = joined_until_sent ++ nothing (Answered Kept) ∷ shown 5 2 ∷ fresh 1 3 ∷ fresh 2 4
    ∷ fresh 3 5 ∷ fresh 4 6 ∷ nothing Idle ∷ []

-- If the answer isn't stored, a new exchange is opened, which the next client joins. Its request is
-- sent before the others are served, since it is due from the same moment on.
abbrev pub then_anew : List Turn
then_anew = joined_until ++ from 0 origin (got_stale 1 1) ∷ asks 0 5 ∷ asks 0 6 ∷ tick_at 0
    ∷ tick_at 0 ∷ tick_at 0 ∷ tick_at 0 ∷ tick_at 0 ∷ tick_at 0
    ∷ from 0 origin (got_stale 2 2) ∷ tick_at 0 ∷ tick_at 0 ∷ tick_at 0 ∷ []

abbrev pub then_anew_sent : List Sent
then_anew_sent = joined_until_sent ++ nothing (Answered NotStored) ∷ nothing Opened ∷ nothing Joined
    ∷ to SentRequest origin (asked 2 2) ∷ stale 1 3 ∷ stale 2 4 ∷ stale 3 5 ∷ stale 4 6
    ∷ nothing Idle ∷ nothing (Answered NotStored) ∷ stale 5 7 ∷ stale 6 8 ∷ nothing Idle ∷ []

-- If no answer comes in time, all get a 5.04: the time counts from the first of them, and a client
-- that arrives after it opens a new exchange.
abbrev pub given_up : List Turn
given_up =
    asks 0 1 ∷ tick_at 0 ∷ asks 999 2 ∷ tick_at 999 ∷ tick_at 1000 ∷ tick_at 1000 ∷ tick_at 1000
    ∷ tick_at 1000 ∷ asks 1001 3 ∷ []

abbrev pub given_up_sent : List Sent
given_up_sent =
    nothing Opened ∷ first_sent ∷ nothing Joined ∷ nothing Idle ∷ nothing GaveUp
    ∷ is_given 1 0xA4 2 [] ∷ is_given 2 0xA4 3 [] ∷ nothing Idle ∷ nothing Opened ∷ []

-- a Reset is the answer for all of them, a 5.02
abbrev pub reset_for_all : List Turn
reset_for_all =
    asks 0 1 ∷ tick_at 0 ∷ asks 0 2 ∷ from 0 origin (empty_reset 1) ∷ tick_at 0 ∷ tick_at 0
    ∷ tick_at 0 ∷ []

abbrev pub reset_for_all_sent : List Sent
reset_for_all_sent =
    nothing Opened ∷ first_sent ∷ nothing Joined ∷ nothing (Answered NotStored)
    ∷ is_given 1 0xA2 2 [] ∷ is_given 2 0xA2 3 [] ∷ nothing Idle ∷ []

-- ---- capacity

-- a 5.03 that says to try again after five seconds, in a Non-confirmable message, with a token
abbrev pub is_busy : ℕ → ℕ → Sent
is_busy n id = to Overloaded (client n) (0x51 ∷ 0xA3 ∷ 0 ∷ id ∷ n ∷ 0xD1 ∷ 1 ∷ 5 ∷ [])

-- room for one waiter: others are told to try again, until the first is served
abbrev pub one_waits : List Turn
one_waits =
    asks 0 1 ∷ asks 0 2 ∷ tick_at 0 ∷ from 0 origin (got_stale 2 1) ∷ asks 0 3 ∷ tick_at 0
    ∷ asks 0 4 ∷ []

abbrev pub one_waits_sent : List Sent
one_waits_sent =
    nothing Opened ∷ is_busy 2 1 ∷ to SentRequest origin (asked 2 1) ∷ nothing (Answered NotStored)
    ∷ is_busy 3 3 ∷ stale 1 4 ∷ nothing Opened ∷ []

-- Room for one exchange and two waiters: a client that requests something else is told to
-- try again, another one joins, and then there is no room for a third.
abbrev pub full_tables : List Turn
full_tables = asks 0 1 ∷ from 0 (client 4) (get_t (1 ∷ 0x78 ∷ [])) ∷ asks 0 2 ∷ asks 0 3 ∷ []

abbrev pub full_tables_sent : List Sent
full_tables_sent =
    nothing Opened ∷ to Overloaded (client 4) (busy 1 (0xD1 ∷ 1 ∷ 5 ∷ [])) ∷ nothing Joined
    ∷ is_busy 3 2 ∷ []

-- With three ids left, an exchange reserves two, and a client that joins it one; then there is none
-- for a 5.03.
abbrev pub last_id_joins : List Turn
last_id_joins = asks 0 1 ∷ asks 0 2 ∷ asks 0 3 ∷ []

abbrev pub last_id_joins_sent : List Sent
last_id_joins_sent = nothing Opened ∷ nothing Joined ∷ nothing NoId ∷ []

-- ---- which clients join

-- The query and Accept are part of the key, an ETag isn't: each different key has an exchange of
-- its own, and a client that requests an equal key joins it.
abbrev pub asks_with : ℕ → List ℕ → Turn
asks_with n options = from 0 (client n) (0x50 ∷ 1 ∷ 0 ∷ 7 ∷ options)

abbrev pub other_keys : List Turn
other_keys =
    asks_with 1 (0xB1 ∷ 0x74 ∷ []) ∷ asks_with 2 (0xB1 ∷ 0x74 ∷ 0x41 ∷ 0x71 ∷ [])
    ∷ asks_with 3 (0xB1 ∷ 0x74 ∷ 0x61 ∷ 0x32 ∷ [])
    ∷ asks_with 4 (0x41 ∷ 0xAB ∷ 0x71 ∷ 0x74 ∷ [])
    ∷ asks_with 5 (0xB1 ∷ 0x74 ∷ 0x41 ∷ 0x71 ∷ [])
    ∷ asks_with 6 (0xB1 ∷ 0x74 ∷ 0x61 ∷ 0x32 ∷ [])
    ∷ asks_with 7 (0xB1 ∷ 0x74 ∷ 0x61 ∷ 0x33 ∷ [])
    ∷ asks_with 8 (0xB1 ∷ 0x74 ∷ 0x41 ∷ 0x72 ∷ []) ∷ []

abbrev pub other_keys_sent : List Sent
other_keys_sent =
    nothing Opened ∷ nothing Opened ∷ nothing Opened ∷ nothing Joined ∷ nothing Joined
    ∷ nothing Joined ∷ nothing Opened ∷ nothing Opened ∷ []

-- a client that sent the ETag of the answer gets a 2.03 with it, and the others get its content
abbrev pub own_tags : List Turn
own_tags =
    asks_with 1 (0xB1 ∷ 0x74 ∷ []) ∷ asks_with 2 (0x41 ∷ 0xAB ∷ 0x71 ∷ 0x74 ∷ [])
    ∷ asks_with 3 (0x41 ∷ 0xCD ∷ 0x71 ∷ 0x74 ∷ []) ∷ tick_at 0
    ∷ from 0 origin (answer 0x68 0x45 1 1 (0x41 ∷ 0xAB ∷ 0xA1 ∷ 10 ∷ 0xFF ∷ 0x32 ∷ 0x31 ∷ []))
    ∷ tick_at 0 ∷ tick_at 0 ∷ tick_at 0 ∷ []

abbrev pub own_tags_sent : List Sent
own_tags_sent =
    nothing Opened ∷ nothing Joined ∷ nothing Joined ∷ first_sent ∷ nothing (Answered Kept)
    ∷ to Delivered (client 1)
    (0x50 ∷ 0x45 ∷ 0 ∷ 2 ∷ 0x41 ∷ 0xAB ∷ 0xA1 ∷ 10 ∷ 0xFF ∷ 0x32 ∷ 0x31 ∷ [])
    ∷ to Delivered (client 2) (0x50 ∷ 0x43 ∷ 0 ∷ 3 ∷ 0x41 ∷ 0xAB ∷ 0xA1 ∷ 10 ∷ [])
    ∷ to Delivered (client 3)
    (0x50 ∷ 0x45 ∷ 0 ∷ 4 ∷ 0x41 ∷ 0xAB ∷ 0xA1 ∷ 10 ∷ 0xFF ∷ 0x32 ∷ 0x31 ∷ []) ∷ []

-- A request that would be too long to be forwarded, because of an option that isn't part of the key
-- (Size1; RFC 7252, 5.4.2), joins one that was short enough; alone it is refused. Datagrams have at
-- most 128 bytes; it has 119, and would have 130 when forwarded.
abbrev pub long_request : List ℕ
long_request = 0x50 ∷ 1 ∷ 0 ∷ 9 ∷ 0xB1 ∷ 0x74 ∷ 0xDD ∷ 36 ∷ 97 ∷ replicate 110 0x66

abbrev pub long_joiner : List Turn
long_joiner =
    from 0 (client 2) long_request ∷ from 0 (client 1) (get_t [])
    ∷ from 0 (client 3) long_request ∷ []

abbrev pub long_joiner_sent : List Sent
long_joiner_sent =
    to (Refused REQUEST_ENTITY_TOO_LARGE) (client 2) (0x50 ∷ 0x8D ∷ 0 ∷ 1 ∷ []) ∷ nothing Opened
    ∷ nothing Joined ∷ []

-- ---- the definitions of the history

-- two clients wait for a request that isn't sent yet
abbrev pub queued_acting : List Acting
queued_acting =
    record { turn = asks 0 1; act = admits 1 1 } ∷ record { turn = asks 0 2; act = admits 2 1 } ∷ []

-- it is sent, a third joins it, it is answered, and the first two are served
abbrev pub one_left_acting : List Acting
one_left_acting = queued_acting
    ++ record { turn = tick_at 0; act = moves 1 } ∷ record { turn = asks 0 3; act = admits 3 1 }
    ∷ record { turn = from 0 origin (got_stale 1 1); act = moves 1 }
    ∷ record { turn = tick_at 0; act = serves 1 } ∷ record { turn = tick_at 0; act = serves 2 } ∷ []

-- the third is served, too
abbrev pub none_left_acting : List Acting
none_left_acting = one_left_acting ++ record { turn = tick_at 0; act = serves 3 } ∷ []
