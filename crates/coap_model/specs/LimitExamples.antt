-- Runs of the step with other limits, another first id and another salt, and when ids run out,
-- computed on the definitions.
use Rattle.std.specs.Prelude.{ℕ, ◌+◌, List, [], ◌∷◌, ◌++◌, replicate}
use Rattle.coap_message.specs.declared.code.TheConstants.Code.{NOT_FOUND}
use Rattle.coap_target.specs.Examples.{fixed_routes}
use Rattle.coap_model.specs.declared.report.Outcome.TheVariants.{Ignored, Rejected, Refused, Opened, Overloaded, NoId, Answered, SentRequest, Delivered}
use Rattle.coap_model.specs.declared.report.Storing.TheVariants.{Kept, NotStored}
use Rattle.coap_limits.specs.Limits.{Limits, default_limits}
use Rattle.coap_model.specs.State.{State, new_state}
use Rattle.coap_model.specs.Runs.{Turn}
use Rattle.coap_model.specs.Examples.{get_t_as, Sent, origin, client, from, tick_at, nothing, to, proxy, get_t, answer}

-- a proxy with these limits
abbrev pub proxy_of : Limits → State
proxy_of limits =
    new_state (record {
      limits = limits;
      routes = fixed_routes;
      first_id = 1;
      salt = 0;
    })

-- with room for one exchange, and with room for one waiter
abbrev pub one_exchange : State
one_exchange = proxy_of (record default_limits { exchanges = 1 })

abbrev pub one_waiter : State
one_waiter = proxy_of (record default_limits { waiters = 1 })

-- with an `nstart` of 2
abbrev pub two_at_once : State
two_at_once = proxy_of (record default_limits { nstart = 2 })

-- the request of an exchange, and its answer with a Max-Age of ten seconds, with its id and the
-- last byte of its token
abbrev pub asked : ℕ → ℕ → List ℕ
asked id token =
    0x48 ∷ 1 ∷ 0 ∷ id ∷ 0 ∷ 0 ∷ 0 ∷ 0 ∷ 0 ∷ 0 ∷ 0 ∷ token ∷ 0xB4 ∷ 0x74 ∷ 0x65 ∷ 0x6D ∷ 0x70 ∷ []

abbrev pub got : ℕ → ℕ → List ℕ
got id token = answer 0x68 0x45 id token (0xD1 ∷ 1 ∷ 10 ∷ 0xFF ∷ 0x32 ∷ 0x31 ∷ [])

-- what a client is sent for it immediately, with this id
abbrev pub for_client : ℕ → List ℕ
for_client id = 0x50 ∷ 0x45 ∷ 0 ∷ id ∷ 0xD1 ∷ 1 ∷ 10 ∷ 0xFF ∷ 0x32 ∷ 0x31 ∷ []

-- the same with a Max-Age of 0, so that it isn't stored
abbrev pub got_stale : ℕ → ℕ → List ℕ
got_stale id token = answer 0x68 0x45 id token (0xD0 ∷ 1 ∷ 0xFF ∷ 0x32 ∷ 0x31 ∷ [])

abbrev pub stale_for_client : ℕ → List ℕ
stale_for_client id = 0x50 ∷ 0x45 ∷ 0 ∷ id ∷ 0xD0 ∷ 1 ∷ 0xFF ∷ 0x32 ∷ 0x31 ∷ []

-- a GET for the path `u`, which has no map, with this id, and its 4.04 with an id of its own
abbrev pub get_u : ℕ → List ℕ
get_u id = 0x50 ∷ 1 ∷ 0 ∷ id ∷ 0xB1 ∷ 0x75 ∷ []

abbrev pub not_found : ℕ → ℕ → List ℕ
not_found high low = 0x50 ∷ 0x84 ∷ high ∷ low ∷ []

-- a 5.03 for a request without a token, and the option that says when to try again
abbrev pub busy : ℕ → List ℕ → List ℕ
busy id after = 0x50 ∷ 0xA3 ∷ 0 ∷ id ∷ after

-- a full proxy: a 5.03 for any other request, until its one client is served; what is refused for
-- another reason still gets that code
abbrev pub until_served : List Turn
until_served =
    from 0 (client 1) (get_t []) ∷ from 0 (client 3) (get_t (1 ∷ 0x78 ∷ [])) ∷ tick_at 1
    ∷ from 2 (client 3) (0x51 ∷ 1 ∷ 0 ∷ 2 ∷ 0xAA ∷ 0xB1 ∷ 0x74 ∷ 1 ∷ 0x78 ∷ [])
    ∷ from 3 origin (got_stale 2 1) ∷ from 3 (client 3) (get_t_as 8 [])
    ∷ from 3 (client 3) (get_u 4)
    ∷ tick_at 3 ∷ from 3 (client 3) (get_t_as 9 []) ∷ tick_at 4
    ∷ from 5 origin (got_stale 7 2) ∷ tick_at 5 ∷ []

abbrev pub until_served_sent : List Sent
until_served_sent =
    nothing Opened ∷ to Overloaded (client 3) (busy 1 (0xD1 ∷ 1 ∷ 5 ∷ []))
    ∷ to SentRequest origin (asked 2 1)
    ∷ to Overloaded (client 3) (0x51 ∷ 0xA3 ∷ 0 ∷ 3 ∷ 0xAA ∷ 0xD1 ∷ 1 ∷ 5 ∷ [])
    ∷ nothing (Answered NotStored) ∷ to Overloaded (client 3) (busy 4 (0xD1 ∷ 1 ∷ 5 ∷ []))
    ∷ to (Refused NOT_FOUND) (client 3) (not_found 0 5)
    ∷ to Delivered (client 1) (stale_for_client 6)
    ∷ nothing Opened ∷ to SentRequest origin (asked 7 2) ∷ nothing (Answered NotStored)
    ∷ to Delivered (client 3) (stale_for_client 8) ∷ []

-- the time after which to try again is one of the limits: zero, and an hour
abbrev pub retries_after : ℕ → State
retries_after seconds = proxy_of (record default_limits { exchanges = 1; retry_s = seconds })

abbrev pub two_requests : List Turn
two_requests = from 0 (client 1) (get_t []) ∷ from 0 (client 3) (get_t (1 ∷ 0x78 ∷ [])) ∷ []

abbrev pub second_is_told : List ℕ → List Sent
second_is_told after = nothing Opened ∷ to Overloaded (client 3) (busy 1 after) ∷ []

-- datagrams of 129 bytes, with a limit of 128: a Confirmable one is rejected, another is ignored
abbrev pub narrow : State
narrow = proxy_of (record default_limits { datagram = 128 })

abbrev pub long_datagrams : List Turn
long_datagrams =
    from 0 (client 1) (0x40 ∷ 1 ∷ 0 ∷ 7 ∷ 0xB1 ∷ 0x74 ∷ 0xFF ∷ replicate 122 0x66)
    ∷ from 0 (client 1) (get_t (0xFF ∷ replicate 122 0x66))
    ∷ from 0 (client 1) (get_t (0xFF ∷ replicate 121 0x66)) ∷ []

abbrev pub long_datagrams_sent : List Sent
long_datagrams_sent =
    to Rejected (client 1) (0x70 ∷ 0 ∷ 0 ∷ 7 ∷ []) ∷ nothing Ignored ∷ nothing Opened ∷ []

-- ids and tokens count up from the first id and the salt
abbrev pub later_proxy : State
later_proxy =
    new_state (record {
      limits = default_limits;
      routes = fixed_routes;
      first_id = 0x1234;
      salt = 0x0102030405060708;
    })

abbrev pub counted_on : List Turn
counted_on =
    from 0 (client 1) (get_t []) ∷ tick_at 0
    ∷ from 0 origin
    (0x68 ∷ 0x45 ∷ 0x12 ∷ 0x34 ∷ 1 ∷ 2 ∷ 3 ∷ 4 ∷ 5 ∷ 6 ∷ 7 ∷ 9 ∷ 0xD1 ∷ 1 ∷ 10 ∷ 0xFF ∷ 0x32 ∷ 0x31
    ∷ []) ∷ tick_at 0 ∷ []

abbrev pub counted_on_sent : List Sent
counted_on_sent =
    nothing Opened
    ∷ to SentRequest origin
    (0x48 ∷ 1 ∷ 0x12 ∷ 0x34 ∷ 1 ∷ 2 ∷ 3 ∷ 4 ∷ 5 ∷ 6 ∷ 7 ∷ 9 ∷ 0xB4 ∷ 0x74 ∷ 0x65 ∷ 0x6D ∷ 0x70 ∷ [])
    ∷ nothing (Answered Kept)
    ∷ to Delivered (client 1) (0x50 ∷ 0x45 ∷ 0x12 ∷ 0x35 ∷ 0xD1 ∷ 1 ∷ 10 ∷ 0xFF ∷ 0x32 ∷ 0x31 ∷ [])
    ∷ []

-- a proxy that has given out `count` of 32,768 ids, all of them in the first 247 seconds
abbrev pub after_ids : ℕ → State
after_ids count =
    record proxy { ids = record { following = 1 + count; window = 0; given = count } }

-- If no id is free, there is no reply to requests with this id from two clients, but a Reset has
-- the id of what it rejects.
abbrev pub without_ids : ℕ → List Turn
without_ids id =
    from 0 (client 1) (get_u id) ∷ from 0 (client 2) (get_t_as id [])
    ∷ from 0 (client 1) (0x40 ∷ 0 ∷ 0 ∷ 9 ∷ []) ∷ []

abbrev pub without_ids_sent : List Sent
without_ids_sent = nothing NoId ∷ nothing NoId ∷ to Rejected (client 1) (0x70 ∷ 0 ∷ 0 ∷ 9 ∷ []) ∷ []

-- an answer to the request with the second to last id
abbrev pub last_answer : List ℕ
last_answer =
    0x68 ∷ 0x45 ∷ 0x7F ∷ 0xFF ∷ 0 ∷ 0 ∷ 0 ∷ 0 ∷ 0 ∷ 0 ∷ 0 ∷ 1 ∷ 0xD1 ∷ 1 ∷ 10 ∷ 0xFF ∷ 0x32 ∷ 0x31
    ∷ []

-- the last id goes to a refusal
abbrev pub last_refusal : List Turn
last_refusal = from 0 (client 1) (get_u 4) ∷ without_ids 5

abbrev pub last_refusal_sent : List Sent
last_refusal_sent = to (Refused NOT_FOUND) (client 1) (not_found 0x80 0) ∷ without_ids_sent

-- with two ids left an exchange is opened, which reserves both
abbrev pub kept_ids : List Turn
kept_ids = from 0 (client 1) (get_t []) ∷ without_ids 11 ++ tick_at 0 ∷ without_ids 12
    ++ from 0 origin last_answer ∷ tick_at 0 ∷ without_ids 13

abbrev pub kept_ids_sent : List Sent
kept_ids_sent =
    nothing Opened ∷ without_ids_sent
    ++ to SentRequest origin
    (0x48 ∷ 1 ∷ 0x7F ∷ 0xFF ∷ 0 ∷ 0 ∷ 0 ∷ 0 ∷ 0 ∷ 0 ∷ 0 ∷ 1 ∷ 0xB4 ∷ 0x74 ∷ 0x65 ∷ 0x6D ∷ 0x70 ∷ [])
    ∷ without_ids_sent ++ nothing (Answered Kept)
    ∷ to Delivered (client 1) (0x50 ∷ 0x45 ∷ 0x80 ∷ 0 ∷ 0xD1 ∷ 1 ∷ 10 ∷ 0xFF ∷ 0x32 ∷ 0x31 ∷ [])
    ∷ without_ids_sent
