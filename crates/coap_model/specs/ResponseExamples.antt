-- What origin servers send, computed on the definitions: Empty acknowledgements and Resets of
-- requests, and piggybacked and separate responses (RFC 7252, 4.2 to 4.5, 5.2 and 5.3.2). The bytes
-- are encoded per RFC 7252 (3, 3.1, 5.10).
use Rattle.std.specs.Prelude.{ℕ, Bool, is_some, List, [], ◌∷◌, ◌++◌, Some}
use Rattle.coap_message.specs.declared.code.TheConstants.Code.{GET, CONTENT, NOT_FOUND}
use Rattle.coap_message.specs.declared.kind.Kind.{Kind}
use Rattle.coap_message.specs.Message.{Message}
use Rattle.coap_endpoint.specs.declared.endpoint.Endpoint.{Endpoint}
use Rattle.coap_dedup.specs.declared.record.Record.{Record}
use Rattle.coap_model.specs.declared.report.Outcome.TheVariants.{Ignored, Rejected, Again, NoRecordRoom, Refused, Hit, Opened, Answered, Acked, SentRequest, GaveUp, Delivered, Idle}
use Rattle.coap_model.specs.declared.report.Storing.TheVariants.{Kept, NotStored}
use Rattle.coap_model.specs.State.{State}
use Rattle.coap_model.specs.Runs.{Turn}
use Rattle.coap_model.specs.History.{no_item, admits, moves, serves}
use Rattle.coap_model.specs.Responses.{awaiting}
use Rattle.coap_model.specs.Examples.{Sent, origin, client, from, tick_at, nothing, to, get_t_as, get_t}
use Rattle.coap_model.specs.LimitExamples.{asked, got, for_client}
use Rattle.coap_model.specs.DuplicateExamples.{con_u, con_not_found}
use Rattle.coap_model.specs.ReliableExamples.{get_part, asked_part, first_sent, sent_again, timed_out, Acting}

-- ---- what an origin server sends

-- an Empty acknowledgement and a Reset, with this id
abbrev pub empty_ack : ℕ → List ℕ
empty_ack id = 0x60 ∷ 0 ∷ 0 ∷ id ∷ []

abbrev pub empty_reset : ℕ → List ℕ
empty_reset id = 0x70 ∷ 0 ∷ 0 ∷ id ∷ []

-- A separate response, with the first byte of the message, its code, its id minus 256, the last
-- byte of its token, and what follows.
abbrev pub separate : ℕ → ℕ → ℕ → ℕ → List ℕ → List ℕ
separate kind code id token more =
    kind ∷ code ∷ 1 ∷ id ∷ 0 ∷ 0 ∷ 0 ∷ 0 ∷ 0 ∷ 0 ∷ 0 ∷ token ∷ more

-- content that is fresh for ten seconds, in a Confirmable and in a Non-confirmable message
abbrev pub ten_seconds : List ℕ
ten_seconds = 0xD1 ∷ 1 ∷ 10 ∷ 0xFF ∷ 0x32 ∷ 0x31 ∷ []

abbrev pub con_got : ℕ → ℕ → List ℕ
con_got id token = separate 0x48 0x45 id token ten_seconds

abbrev pub non_got : ℕ → ℕ → List ℕ
non_got id token = separate 0x58 0x45 id token ten_seconds

-- what an origin server is sent for one: an Empty acknowledgement, or a Reset
abbrev pub acked_as : ℕ → List ℕ
acked_as id = 0x60 ∷ 0 ∷ 1 ∷ id ∷ []

abbrev pub reset_as : ℕ → List ℕ
reset_as id = 0x70 ∷ 0 ∷ 1 ∷ id ∷ []

-- what a client is sent for it after less than a second
abbrev pub nine_left : ℕ → List ℕ
nine_left id = 0x50 ∷ 0x45 ∷ 0 ∷ id ∷ 0xD1 ∷ 1 ∷ 9 ∷ 0xFF ∷ 0x32 ∷ 0x31 ∷ []

-- a 5.02, with an id
abbrev pub replaced : ℕ → Sent
replaced id = to Delivered (client 1) (0x50 ∷ 0xA2 ∷ 0 ∷ id ∷ [])

-- ---- one request, and what arrives for it

-- the request is sent, and then these turns follow
abbrev pub then_come : List Turn → List Turn
then_come turns = from 0 (client 1) (get_t []) ∷ tick_at 0 ∷ turns

abbrev pub then_sent : List Sent → List Sent
then_sent sent = nothing Opened ∷ first_sent ∷ sent

-- one message from an endpoint at a moment, and what becomes of it
abbrev pub comes : ℕ → Endpoint → List ℕ → List Turn
comes now source bytes = then_come (from now source bytes ∷ [])

abbrev pub becomes : Sent → List Sent
becomes sent = then_sent (sent ∷ [])

-- what is sent for a message that is accepted, and for one that is ignored
abbrev pub taken : List Sent
taken = becomes (nothing (Answered Kept))

abbrev pub ignored : List Sent
ignored = becomes (nothing Ignored)

-- ---- acknowledgements and Resets of a request

abbrev pub ticks_at : List ℕ → List Turn
ticks_at [] = []
ticks_at (now ∷ more) = tick_at now ∷ ticks_at more

-- A request that was acknowledged isn't retransmitted: nothing is due until the deadline of its
-- exchange. Then its client gets a 5.04.
abbrev pub acknowledged_until : List ℕ → List Turn
acknowledged_until moments = then_come (from 5 origin (empty_ack 1) ∷ ticks_at moments)

abbrev pub silence_after : List Sent
silence_after =
    then_sent (nothing Acked ∷ nothing Idle ∷ nothing Idle ∷ nothing GaveUp ∷ timed_out 2
    ∷ nothing Idle ∷ [])

-- what comes from another endpoint, or has another id, is ignored, and the request is
-- retransmitted; the right one ends that, whichever of the two transmissions it is for
abbrev pub of_others : List Turn
of_others =
    from 0 (client 1) (get_t []) ∷ from 0 origin (empty_ack 1) ∷ from 0 origin (empty_reset 1)
    ∷ tick_at 0 ∷ from 1 (client 2) (empty_ack 1) ∷ from 1 (client 2) (empty_reset 1)
    ∷ from 1 origin (empty_ack 2) ∷ from 1 origin (empty_reset 0) ∷ tick_at 2000
    ∷ from 2001 origin (empty_ack 1) ∷ tick_at 6000 ∷ []

abbrev pub of_others_sent : List Sent
of_others_sent =
    nothing Opened ∷ nothing Ignored ∷ nothing Ignored ∷ first_sent ∷ nothing Ignored
    ∷ nothing Ignored ∷ nothing Ignored ∷ nothing Ignored ∷ sent_again ∷ nothing Acked
    ∷ nothing Idle ∷ []

-- a Reset becomes its answer, a 5.02, which isn't stored, and what arrives after it is ignored
abbrev pub reset_by_origin : List Turn
reset_by_origin =
    then_come (from 5 origin (empty_reset 1) ∷ from 5 origin (empty_reset 1)
    ∷ from 5 origin (empty_ack 1) ∷ from 5 origin (got 1 1) ∷ tick_at 5
    ∷ from 6 (client 2) (get_t []) ∷ tick_at 6 ∷ [])

abbrev pub reset_by_origin_sent : List Sent
reset_by_origin_sent =
    then_sent (nothing (Answered NotStored) ∷ nothing Ignored ∷ nothing Ignored ∷ nothing Ignored
    ∷ replaced 2 ∷ nothing Opened ∷ to SentRequest origin (asked 3 2) ∷ [])

-- a request is acknowledged once, and a Reset after that is ignored
abbrev pub reset_after : List Turn
reset_after =
    then_come (from 5 origin (empty_ack 1) ∷ from 6 origin (empty_ack 1)
    ∷ from 6 origin (empty_reset 1) ∷ tick_at 6 ∷ from 7 origin (got 1 1) ∷ tick_at 7 ∷ [])

abbrev pub reset_after_sent : List Sent
reset_after_sent =
    then_sent (nothing Acked ∷ nothing Ignored ∷ nothing Ignored ∷ nothing Idle
    ∷ nothing (Answered Kept) ∷ to Delivered (client 1) (for_client 2) ∷ [])

-- ---- separate responses

-- A Confirmable one is acknowledged immediately, and is remembered for 247 seconds, so that a
-- duplicate gets the same acknowledgement; another one, that nothing awaits, is rejected.
abbrev pub con_response : List Turn
con_response =
    then_come (from 1 origin (empty_ack 1) ∷ tick_at 2000 ∷ from 3000 origin (con_got 1 1)
    ∷ from 3000 origin (con_got 1 1) ∷ from 3001 origin (con_got 2 1) ∷ tick_at 3001
    ∷ from 3002 origin (con_got 1 1) ∷ tick_at 3002 ∷ from 3003 (client 2) (get_t_as 9 [])
    ∷ from 249999 origin (con_got 1 1) ∷ from 250000 origin (con_got 1 1) ∷ [])

abbrev pub con_response_sent : List Sent
con_response_sent =
    then_sent (nothing Acked ∷ nothing Idle ∷ to (Answered Kept) origin (acked_as 1)
    ∷ to Again origin (acked_as 1) ∷ to Rejected origin (reset_as 2)
    ∷ to Delivered (client 1) (nine_left 2) ∷ to Again origin (acked_as 1) ∷ nothing Idle
    ∷ to Hit (client 2) (nine_left 3) ∷ to Again origin (acked_as 1)
    ∷ to Rejected origin (reset_as 1) ∷ [])

-- a Non-confirmable one isn't acknowledged, and another one is ignored
abbrev pub non_response : List Turn
non_response =
    then_come (from 1 origin (empty_ack 1) ∷ from 3000 origin (non_got 1 1)
    ∷ from 3000 origin (non_got 1 1) ∷ tick_at 3000 ∷ from 3000 origin (non_got 2 1) ∷ [])

abbrev pub non_response_sent : List Sent
non_response_sent =
    then_sent (nothing Acked ∷ nothing (Answered Kept) ∷ nothing Ignored
    ∷ to Delivered (client 1) (for_client 2) ∷ nothing Ignored ∷ [])

-- either may arrive before the acknowledgement, which is then ignored, and nothing is retransmitted
abbrev pub before_acknowledgement : List ℕ → List Turn
before_acknowledgement bytes =
    then_come (from 1 origin bytes ∷ from 1 origin (empty_ack 1) ∷ tick_at 1 ∷ tick_at 2000 ∷ [])

abbrev pub before_acknowledgement_sent : Sent → List Sent
before_acknowledgement_sent sent =
    then_sent (sent ∷ nothing Ignored ∷ to Delivered (client 1) (for_client 2) ∷ nothing Idle ∷ [])

-- one that can't be passed on is still acknowledged
abbrev pub block_in_separate : List Turn
block_in_separate =
    then_come (from 1 origin (separate 0x48 0x45 1 1 (0xD1 ∷ 10 ∷ 6 ∷ 0xFF ∷ 0x32 ∷ 0x31 ∷ []))
    ∷ tick_at 1 ∷ from 2 (client 1) (get_t_as 8 []) ∷ [])

abbrev pub block_in_separate_sent : List Sent
block_in_separate_sent =
    then_sent (to (Answered NotStored) origin (acked_as 1) ∷ replaced 2 ∷ nothing Opened ∷ [])

-- One is accepted only from the endpoint that the request was sent to, with the token of the
-- request, and after it was sent. A Confirmable one that isn't accepted is rejected, and isn't
-- remembered.
abbrev pub of_impostors : List Turn
of_impostors =
    from 0 (client 1) (get_t []) ∷ from 0 origin (con_got 1 1) ∷ from 0 origin (non_got 1 1)
    ∷ tick_at 0 ∷ from 1 (client 2) (con_got 1 1) ∷ from 1 (client 2) (non_got 1 1)
    ∷ from 1 origin (con_got 1 2) ∷ from 1 origin (non_got 1 2)
    ∷ from 1 origin (0x40 ∷ 0x45 ∷ 1 ∷ 1 ∷ []) ∷ from 1 origin (con_got 1 1) ∷ []

abbrev pub of_impostors_sent : List Sent
of_impostors_sent =
    nothing Opened ∷ to Rejected origin (reset_as 1) ∷ nothing Ignored ∷ first_sent
    ∷ to Rejected (client 2) (reset_as 1) ∷ nothing Ignored ∷ to Rejected origin (reset_as 1)
    ∷ nothing Ignored ∷ to Rejected origin (reset_as 1) ∷ to (Answered Kept) origin (acked_as 1)
    ∷ []

-- none is awaited after the exchange was given up, before its client is served and after
abbrev pub after_giving_up : List Turn
after_giving_up =
    then_come (tick_at 1000 ∷ from 1000 origin (con_got 1 1) ∷ from 1000 origin (non_got 1 1)
    ∷ from 1000 origin (empty_ack 1) ∷ from 1000 origin (empty_reset 1) ∷ tick_at 1000
    ∷ from 1001 origin (con_got 1 1) ∷ from 1001 origin (non_got 1 1)
    ∷ from 1001 origin (empty_ack 1) ∷ from 1001 origin (empty_reset 1) ∷ [])

abbrev pub after_giving_up_sent : List Sent
after_giving_up_sent =
    then_sent (nothing GaveUp ∷ to Rejected origin (reset_as 1) ∷ nothing Ignored ∷ nothing Ignored
    ∷ nothing Ignored ∷ timed_out 2 ∷ to Rejected origin (reset_as 1) ∷ nothing Ignored
    ∷ nothing Ignored ∷ nothing Ignored ∷ [])

-- ---- what is remembered

-- If there is no room to remember a Confirmable response, nothing is sent, and it is accepted when
-- it arrives again once there is room. One that is rejected needs no room.
abbrev pub no_room : List Turn
no_room =
    from 0 (client 1) (con_u 1) ∷ from 200000 (client 1) (get_t []) ∷ tick_at 200000
    ∷ from 200001 origin (empty_ack 1) ∷ from 200002 origin (con_got 1 1)
    ∷ from 200002 origin (con_got 2 2) ∷ from 246999 origin (con_got 1 1)
    ∷ from 247000 origin (con_got 1 1) ∷ from 247000 (client 2) (con_u 2) ∷ tick_at 247000
    ∷ from 493999 (client 2) (con_u 2) ∷ from 493999 origin (con_got 1 1)
    ∷ from 494000 (client 2) (con_u 2) ∷ []

abbrev pub no_room_sent : List Sent
no_room_sent =
    to (Refused NOT_FOUND) (client 1) (con_not_found 1) ∷ nothing Opened ∷ first_sent
    ∷ nothing Acked ∷ nothing NoRecordRoom ∷ to Rejected origin (reset_as 2)
    ∷ nothing NoRecordRoom ∷ to (Answered Kept) origin (acked_as 1) ∷ nothing NoRecordRoom
    ∷ to Delivered (client 1) (for_client 2) ∷ nothing NoRecordRoom ∷ to Again origin (acked_as 1)
    ∷ to (Refused NOT_FOUND) (client 2) (con_not_found 2) ∷ []

-- a Non-confirmable one needs no room
abbrev pub no_room_needed : List Turn
no_room_needed =
    from 0 (client 1) (con_u 1) ∷ from 0 (client 1) (get_t []) ∷ tick_at 0
    ∷ from 0 origin (con_got 1 1) ∷ from 0 origin (non_got 2 1) ∷ from 0 origin (con_got 1 1) ∷ []

abbrev pub no_room_needed_sent : List Sent
no_room_needed_sent =
    to (Refused NOT_FOUND) (client 1) (con_not_found 1) ∷ nothing Opened ∷ first_sent
    ∷ nothing NoRecordRoom ∷ nothing (Answered Kept) ∷ to Rejected origin (reset_as 1) ∷ []

-- Confirmable messages from the same endpoint with the same id are duplicates, whether they are
-- requests or responses, and for whichever exchange. Non-confirmable ones are tracked separately.
abbrev pub of_one_id : List Turn
of_one_id =
    then_come (from 1 origin (0x40 ∷ 1 ∷ 1 ∷ 1 ∷ 0xB1 ∷ 0x75 ∷ []) ∷ from 1 origin (con_got 1 1)
    ∷ from 1 origin (con_got 2 1) ∷ from 1 (client 2) (get_part 8 0x78) ∷ tick_at 1
    ∷ from 1 origin (con_got 2 2) ∷ from 1 origin (0x40 ∷ 1 ∷ 1 ∷ 2 ∷ 0xB1 ∷ 0x75 ∷ [])
    ∷ from 1 origin (non_got 2 2) ∷ [])

abbrev pub of_one_id_sent : List Sent
of_one_id_sent =
    then_sent (to (Refused NOT_FOUND) origin (0x60 ∷ 0x84 ∷ 1 ∷ 1 ∷ [])
    ∷ to Again origin (0x60 ∷ 0x84 ∷ 1 ∷ 1 ∷ []) ∷ to (Answered Kept) origin (acked_as 2)
    ∷ nothing Opened ∷ to SentRequest origin (asked_part 2 2 0x78) ∷ to Again origin (acked_as 2)
    ∷ to Again origin (acked_as 2) ∷ nothing (Answered Kept) ∷ [])

-- ---- how many are sent to one endpoint at once

-- one: the second is sent when the first is acknowledged, the third when the second is answered or
-- reset
abbrev pub closes_unused : List ℕ → List Turn
closes_unused bytes =
    from 0 (client 1) (get_t []) ∷ from 0 (client 1) (get_part 8 0x78)
    ∷ from 0 (client 1) (get_part 9 0x79) ∷ tick_at 0 ∷ tick_at 0 ∷ from 5 origin (empty_ack 1)
    ∷ tick_at 5 ∷ tick_at 5 ∷ from 6 origin bytes ∷ tick_at 6 ∷ []

abbrev pub lets_go_sent : Sent → List Sent
lets_go_sent sent =
    nothing Opened ∷ nothing Opened ∷ nothing Opened ∷ first_sent ∷ nothing Idle ∷ nothing Acked
    ∷ to SentRequest origin (asked_part 2 2 0x78) ∷ nothing Idle ∷ sent
    ∷ to SentRequest origin (asked_part 3 3 0x79) ∷ []

-- ---- which responses are awaited

-- a response without options, of this type, with an id and the last byte of its token
abbrev pub response : Kind → ℕ → ℕ → Message
response kind id token = record {
  kind = kind;
  code = CONTENT;
  id = id;
  token = 0 ∷ 0 ∷ 0 ∷ 0 ∷ 0 ∷ 0 ∷ 0 ∷ token ∷ [];
  options = [];
  payload = [];
}

abbrev pub request : Kind → Message
request kind = record (response kind 7 1) { code = GET }

abbrev pub is_awaited : State → Endpoint → Message → Bool
is_awaited w source m = is_some (awaiting w source m)

-- a request that waits for its turn, that is sent, acknowledged, and answered
abbrev pub queued_turns : List Turn
queued_turns = from 0 (client 1) (get_t []) ∷ []

abbrev pub sent_turns : List Turn
sent_turns = then_come []

abbrev pub acked_turns : List Turn
acked_turns = comes 5 origin (empty_ack 1)

abbrev pub answered_turns : List Turn
answered_turns = comes 5 origin (con_got 1 1)

-- ---- the definitions of the history

-- a request is opened, sent and acknowledged, and another one waits for its turn
abbrev pub opened_acting : List Acting
opened_acting =
    record { turn = from 0 (client 1) (get_t []); act = admits 1 1 }
    ∷ record { turn = from 0 (client 1) (get_part 8 0x78); act = admits 2 2 } ∷ []

abbrev pub sent_acting : List Acting
sent_acting = opened_acting ++ record { turn = tick_at 0; act = moves 1 } ∷ []

abbrev pub acked_acting : List Acting
acked_acting = sent_acting
    ++ record { turn = from 5 origin (empty_ack 1); act = moves 1 } ∷ []

-- it is reset instead
abbrev pub reset_acting : List Acting
reset_acting = sent_acting
    ++ record { turn = from 5 origin (empty_reset 1); act = moves 1 } ∷ []

-- its answer arrives in a Confirmable message, and once more, and its client is served
abbrev pub got_acting : List Acting
got_acting = acked_acting ++ record { turn = from 9 origin (con_got 1 1); act = moves 1 }
    ∷ record { turn = from 9 origin (con_got 1 1); act = no_item } ∷ []

abbrev pub served_acting : List Acting
served_acting = got_acting ++ record { turn = tick_at 9; act = moves 2 }
    ∷ record { turn = tick_at 9; act = serves 1 } ∷ []

-- its answer arrives in a Non-confirmable message
abbrev pub non_acting : List Acting
non_acting = acked_acting ++ record { turn = from 9 origin (non_got 1 1); act = moves 1 } ∷ []

-- the record of the answer in the Confirmable message
abbrev pub record_of_response : Record
record_of_response = record { from = origin; id = 257; at = 9; reply = Some (acked_as 1) }
