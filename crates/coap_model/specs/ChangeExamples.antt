-- Changes and validation, computed on the definitions (RFC 7252, 5.6.2, 5.8 and 5.9.1): requests
-- with other methods, what their responses mark and taint, and stored responses that a 2.03 renews.
-- The bytes are encoded per RFC 7252 (3, 3.1, 5.10).
use Rattle.std.specs.Prelude.{ℕ, List, [], ◌∷◌, ◌++◌, replicate}
use Rattle.coap_limits.specs.Limits.{default_limits}
use Rattle.coap_model.specs.declared.report.Outcome.TheVariants.{Again, Hit, Joined, Opened, Answered, Acked, SentRequest, Delivered}
use Rattle.coap_model.specs.declared.report.Storing.TheVariants.{Kept, NotStored}
use Rattle.coap_model.specs.State.{State}
use Rattle.coap_model.specs.Runs.{Turn}
use Rattle.coap_model.specs.Examples.{Sent, origin, client, from, tick_at, nothing, to, answer}
use Rattle.coap_model.specs.LimitExamples.{proxy_of}
use Rattle.coap_model.specs.ResponseExamples.{empty_ack}

-- ---- requests and responses

-- a Non-confirmable request with this code for the path `t`, with its id, and what follows
abbrev pub asks : ℕ → ℕ → List ℕ → List ℕ
asks code id more = 0x50 ∷ code ∷ 0 ∷ id ∷ 0xB1 ∷ 0x74 ∷ more

-- the request that is forwarded for it, with its own id and the last byte of its token
abbrev pub goes_as : ℕ → ℕ → ℕ → List ℕ → List ℕ
goes_as code id token more =
    0x48 ∷ code ∷ 0 ∷ id ∷ 0 ∷ 0 ∷ 0 ∷ 0 ∷ 0 ∷ 0 ∷ 0 ∷ token
    ∷ 0xB4 ∷ 0x74 ∷ 0x65 ∷ 0x6D ∷ 0x70 ∷ more

-- the same for a GET with these options and the path
abbrev pub with_options : ℕ → ℕ → List ℕ → List ℕ
with_options id token options =
    0x48 ∷ 1 ∷ 0 ∷ id ∷ 0 ∷ 0 ∷ 0 ∷ 0 ∷ 0 ∷ 0 ∷ 0 ∷ token
    ∷ (options ++ (0x74 ∷ 0x74 ∷ 0x65 ∷ 0x6D ∷ 0x70 ∷ []))

-- the same with the ETag AB
abbrev pub validates_as : ℕ → ℕ → List ℕ
validates_as id token = with_options id token (0x41 ∷ 0xAB ∷ [])

-- what a client is sent, without a token
abbrev pub shows : ℕ → ℕ → List ℕ → List ℕ
shows code id more = 0x50 ∷ code ∷ 0 ∷ id ∷ more

-- a payload of two bytes with this Max-Age in seconds, and the same with the ETag AB
abbrev pub aged : ℕ → List ℕ
aged seconds = 0xD1 ∷ 1 ∷ seconds ∷ 0xFF ∷ 0x32 ∷ 0x31 ∷ []

abbrev pub tagged : ℕ → List ℕ
tagged seconds = 0x41 ∷ 0xAB ∷ 0xA1 ∷ seconds ∷ 0xFF ∷ 0x32 ∷ 0x31 ∷ []

-- a payload of one byte
abbrev pub nine : List ℕ
nine = 0xFF ∷ 0x39 ∷ []

-- a second segment of the path, `x`
abbrev pub part : List ℕ
part = 1 ∷ 0x78 ∷ []

-- a first answer is kept
abbrev pub kept_first : List ℕ → List ℕ → List Turn
kept_first more content =
    from 0 (client 1) (asks 1 7 more) ∷ tick_at 0 ∷ from 0 origin (answer 0x68 0x45 1 1 content)
    ∷ tick_at 0 ∷ []

abbrev pub kept_first_sent : List ℕ → List ℕ → List Sent
kept_first_sent more content =
    nothing Opened ∷ to SentRequest origin (goes_as 1 1 1 more) ∷ nothing (Answered Kept)
    ∷ to Delivered (client 1) (shows 0x45 2 content) ∷ []

-- then a request from another client, and its response
abbrev pub then_asked : ℕ → List ℕ → ℕ → List ℕ → List Turn
then_asked code more response options =
    from 1 (client 2) (asks code 1 more) ∷ tick_at 1
    ∷ from 2 origin (answer 0x68 response 3 2 options) ∷ tick_at 2 ∷ []

abbrev pub then_asked_sent : ℕ → List ℕ → ℕ → List ℕ → List Sent
then_asked_sent code more response options =
    nothing Opened ∷ to SentRequest origin (goes_as code 3 2 more) ∷ nothing (Answered NotStored)
    ∷ to Delivered (client 2) (shows response 4 options) ∷ []

-- ---- changes

-- a PUT changes what is stored: it isn't used as an answer any more
abbrev pub changed : List Turn
changed =
    kept_first [] (aged 10) ++ then_asked 3 nine 0x44 []
    ++ from 3 (client 1) (asks 1 8 []) ∷ tick_at 3 ∷ []

abbrev pub changed_sent : List Sent
changed_sent =
    kept_first_sent [] (aged 10) ++ then_asked_sent 3 nine 0x44 []
    ++ nothing Opened ∷ to SentRequest origin (goes_as 1 5 3 []) ∷ []

-- a DELETE that fails changes nothing
abbrev pub not_deleted : List Turn
not_deleted =
    kept_first [] (aged 10) ++ then_asked 4 [] 0x84 [] ++ from 3 (client 1) (asks 1 8 []) ∷ []

abbrev pub not_deleted_sent : List Sent
not_deleted_sent =
    kept_first_sent [] (aged 10) ++ then_asked_sent 4 [] 0x84 []
    ++ to Hit (client 1) (shows 0x45 5 (aged 9)) ∷ []

-- an answer that a PUT overtook is delivered and not stored
abbrev pub overtaken : List Turn
overtaken =
    from 0 (client 1) (asks 1 7 []) ∷ tick_at 0 ∷ from 5 origin (empty_ack 1)
    ∷ from 10 (client 2) (asks 3 1 nine) ∷ tick_at 10
    ∷ from 15 origin (answer 0x68 0x44 2 2 []) ∷ tick_at 15
    ∷ from 20 origin (answer 0x48 0x45 9 1 (aged 10)) ∷ tick_at 20
    ∷ from 30 (client 3) (asks 1 9 []) ∷ tick_at 30 ∷ []

abbrev pub overtaken_sent : List Sent
overtaken_sent =
    nothing Opened ∷ to SentRequest origin (goes_as 1 1 1 []) ∷ nothing Acked ∷ nothing Opened
    ∷ to SentRequest origin (goes_as 3 2 2 nine) ∷ nothing (Answered NotStored)
    ∷ to Delivered (client 2) (shows 0x44 3 [])
    ∷ to (Answered NotStored) origin (0x60 ∷ 0 ∷ 0 ∷ 9 ∷ [])
    ∷ to Delivered (client 1) (shows 0x45 4 (aged 10)) ∷ nothing Opened
    ∷ to SentRequest origin (goes_as 1 5 3 []) ∷ []

-- a 2.04 to a GET is a change too, and isn't stored; an exchange whose request was sent before it
-- isn't joined, and its answer isn't stored
abbrev pub changed_by_get : List Turn
changed_by_get =
    from 0 (client 1) (asks 1 7 []) ∷ tick_at 0 ∷ from 1 origin (empty_ack 1)
    ∷ from 2 (client 2) (asks 1 8 (0x61 ∷ 0x28 ∷ [])) ∷ tick_at 2
    ∷ from 3 (client 3) (asks 1 9 []) ∷ from 4 origin (answer 0x68 0x44 2 2 []) ∷ tick_at 4
    ∷ from 5 (client 4) (asks 1 9 []) ∷ tick_at 5
    ∷ from 6 origin (answer 0x58 0x45 9 1 (aged 10))
    ∷ from 7 origin (answer 0x68 0x45 4 3 (aged 10)) ∷ []

abbrev pub changed_by_get_sent : List Sent
changed_by_get_sent =
    nothing Opened ∷ to SentRequest origin (goes_as 1 1 1 []) ∷ nothing Acked ∷ nothing Opened
    ∷ to SentRequest origin (goes_as 1 2 2 (0x61 ∷ 0x28 ∷ [])) ∷ nothing Joined
    ∷ nothing (Answered NotStored) ∷ to Delivered (client 2) (shows 0x44 3 []) ∷ nothing Opened
    ∷ to SentRequest origin (goes_as 1 4 3 []) ∷ nothing (Answered NotStored)
    ∷ nothing (Answered Kept) ∷ []

-- a request with another method joins no exchange, and nothing joins its exchange
abbrev pub not_joined : List Turn
not_joined =
    from 0 (client 1) (asks 1 7 []) ∷ from 0 (client 2) (asks 3 1 nine)
    ∷ from 0 (client 3) (asks 3 1 nine) ∷ from 0 (client 4) (asks 1 1 []) ∷ []

abbrev pub not_joined_sent : List Sent
not_joined_sent = nothing Opened ∷ nothing Opened ∷ nothing Opened ∷ nothing Joined ∷ []

-- a POST that arrives twice is forwarded once
abbrev pub posted_once : List Turn
posted_once =
    from 0 (client 1) (0x40 ∷ 2 ∷ 0 ∷ 1 ∷ 0xB1 ∷ 0x74 ∷ nine)
    ∷ from 1 (client 1) (0x40 ∷ 2 ∷ 0 ∷ 1 ∷ 0xB1 ∷ 0x74 ∷ nine) ∷ tick_at 1
    ∷ from 2 (client 1) (0x40 ∷ 2 ∷ 0 ∷ 2 ∷ 0xB1 ∷ 0x74 ∷ nine) ∷ []

abbrev pub posted_once_sent : List Sent
posted_once_sent =
    to Opened (client 1) (0x60 ∷ 0 ∷ 0 ∷ 1 ∷ []) ∷ to Again (client 1) (0x60 ∷ 0 ∷ 0 ∷ 1 ∷ [])
    ∷ to SentRequest origin (goes_as 2 1 1 nine) ∷ to Opened (client 1) (0x60 ∷ 0 ∷ 0 ∷ 2 ∷ [])
    ∷ []

-- the ETag of a POST is forwarded
abbrev pub tag_of_a_post : List Turn
tag_of_a_post =
    from 0 (client 1) (0x50 ∷ 2 ∷ 0 ∷ 7 ∷ 0x41 ∷ 0xAB ∷ 0x71 ∷ 0x74 ∷ nine) ∷ tick_at 0 ∷ []

abbrev pub tag_of_a_post_sent : List Sent
tag_of_a_post_sent =
    nothing Opened
    ∷ to SentRequest origin
    (0x48 ∷ 2 ∷ 0 ∷ 1 ∷ 0 ∷ 0 ∷ 0 ∷ 0 ∷ 0 ∷ 0 ∷ 0 ∷ 1 ∷ 0x41 ∷ 0xAB ∷ 0x74 ∷ 0x74 ∷ 0x65 ∷ 0x6D
    ∷ 0x70 ∷ nine)
    ∷ []

-- ---- what a 2.01 names

-- the Location of the path `temp`
abbrev pub location : List ℕ
location = 0x84 ∷ 0x74 ∷ 0x65 ∷ 0x6D ∷ 0x70 ∷ []

-- a POST to another target whose 2.01 names this target changes what is stored for it
abbrev pub created : List Turn
created =
    kept_first [] (aged 10) ++ then_asked 2 part 0x41 location
    ++ from 3 (client 1) (asks 1 8 []) ∷ []

abbrev pub created_sent : List Sent
created_sent =
    kept_first_sent [] (aged 10) ++ then_asked_sent 2 part 0x41 location ++ nothing Opened ∷ []

-- a 2.04 with the same Location doesn't
abbrev pub changed_elsewhere : List Turn
changed_elsewhere =
    kept_first [] (aged 10) ++ then_asked 2 part 0x44 location
    ++ from 3 (client 1) (asks 1 8 []) ∷ []

abbrev pub changed_elsewhere_sent : List Sent
changed_elsewhere_sent =
    kept_first_sent [] (aged 10) ++ then_asked_sent 2 part 0x44 location
    ++ to Hit (client 1) (shows 0x45 5 (aged 9)) ∷ []

-- a Location-Query alone names the path of the request itself, with that query
abbrev pub located_by_query : List Turn
located_by_query =
    kept_first (0x41 ∷ 0x61 ∷ []) (aged 10) ++ then_asked 2 [] 0x41 (0xD1 ∷ 7 ∷ 0x61 ∷ [])
    ++ from 3 (client 1) (asks 1 8 (0x41 ∷ 0x61 ∷ [])) ∷ []

abbrev pub located_by_query_sent : List Sent
located_by_query_sent =
    kept_first_sent (0x41 ∷ 0x61 ∷ []) (aged 10)
    ++ then_asked_sent 2 [] 0x41 (0xD1 ∷ 7 ∷ 0x61 ∷ []) ++ nothing Opened ∷ []

-- ---- validation

-- a stale entry with a tag is validated, and renewed by the 2.03, also for a client that joins; it
-- is stored again
abbrev pub validated : List Turn
validated =
    kept_first [] (tagged 10) ++ from 10001 (client 1) (asks 1 8 []) ∷ tick_at 10001
    ∷ from 10001 (client 2) (0x50 ∷ 1 ∷ 0 ∷ 1 ∷ 0x41 ∷ 0xAB ∷ 0x71 ∷ 0x74 ∷ [])
    ∷ from 10010 origin (answer 0x68 0x43 3 2 (0x41 ∷ 0xAB ∷ 0x81 ∷ 0x32 ∷ [])) ∷ tick_at 10010
    ∷ tick_at 10010 ∷ from 10010 (client 1) (asks 1 9 []) ∷ []

abbrev pub validated_sent : List Sent
validated_sent =
    kept_first_sent [] (tagged 10) ++ nothing Opened ∷ to SentRequest origin (validates_as 3 2)
    ∷ nothing Joined ∷ nothing (Answered Kept)
    ∷ to Delivered (client 1)
    (shows 0x45 4 (0x41 ∷ 0xAB ∷ 0x81 ∷ 0x32 ∷ 0x21 ∷ 60 ∷ 0xFF ∷ 0x32 ∷ 0x31 ∷ []))
    ∷ to Delivered (client 2) (shows 0x43 5 (0x41 ∷ 0xAB ∷ 0xA1 ∷ 60 ∷ []))
    ∷ to Hit (client 1)
    (shows 0x45 6 (0x41 ∷ 0xAB ∷ 0x81 ∷ 0x32 ∷ 0x21 ∷ 60 ∷ 0xFF ∷ 0x32 ∷ 0x31 ∷ [])) ∷ []

-- a fresh entry that was changed is validated too
abbrev pub changed_and_validated : List Turn
changed_and_validated =
    kept_first [] (tagged 10) ++ then_asked 3 nine 0x44 []
    ++ from 3 (client 1) (asks 1 8 []) ∷ tick_at 3
    ∷ from 4 origin (answer 0x68 0x43 5 3 (0x41 ∷ 0xAB ∷ [])) ∷ tick_at 4
    ∷ from 5 (client 1) (asks 1 9 []) ∷ []

abbrev pub changed_and_validated_sent : List Sent
changed_and_validated_sent =
    kept_first_sent [] (tagged 10) ++ then_asked_sent 3 nine 0x44 []
    ++ nothing Opened ∷ to SentRequest origin (validates_as 5 3) ∷ nothing (Answered Kept)
    ∷ to Delivered (client 1) (shows 0x45 6 (tagged 60))
    ∷ to Hit (client 1) (shows 0x45 7 (tagged 59)) ∷ []

-- the entry is evicted while it is validated, with room for one entry
abbrev pub one_entry : State
one_entry = proxy_of (record default_limits { cache_entries = 1 })

abbrev pub given_up_by : List ℕ → List Turn
given_up_by valid =
    kept_first [] (tagged 10) ++ from 10001 (client 1) (asks 1 8 []) ∷ tick_at 10001
    ∷ from 10001 origin (empty_ack 3) ∷ from 10001 (client 2) (asks 1 1 part) ∷ tick_at 10001
    ∷ from 10001 origin (answer 0x68 0x45 4 3 (0xFF ∷ 0x32 ∷ [])) ∷ tick_at 10001
    ∷ from 10001 origin (answer 0x58 0x43 9 2 valid) ∷ tick_at 10001 ∷ []

abbrev pub given_up_sent : List Sent → List Sent
given_up_sent last =
    kept_first_sent [] (tagged 10) ++ nothing Opened ∷ to SentRequest origin (validates_as 3 2)
    ∷ nothing Acked ∷ nothing Opened ∷ to SentRequest origin (goes_as 1 4 3 part)
    ∷ nothing (Answered Kept)
    ∷ to Delivered (client 2) (shows 0x45 5 (0xD1 ∷ 1 ∷ 60 ∷ 0xFF ∷ 0x32 ∷ [])) ∷ last

-- the copy is renewed, and stored again
abbrev pub evicted : List Turn
evicted = given_up_by (0x41 ∷ 0xAB ∷ [])

abbrev pub evicted_sent : List Sent
evicted_sent =
    given_up_sent
    (nothing (Answered Kept) ∷ to Delivered (client 1) (shows 0x45 6 (tagged 60)) ∷ [])

-- with another tag there is nothing to renew: a 5.02
abbrev pub other_tag : List Turn
other_tag = given_up_by (0x41 ∷ 0xAC ∷ [])

abbrev pub other_tag_sent : List Sent
other_tag_sent =
    given_up_sent
    (nothing (Answered NotStored) ∷ to Delivered (client 1) (shows 0xA2 6 []) ∷ [])

-- a 2.03 to a GET without a tag is replaced by a 5.02, too; one to another method is passed on
-- unchanged
abbrev pub valid_for_none : List Turn
valid_for_none =
    from 0 (client 1) (asks 1 7 []) ∷ tick_at 0
    ∷ from 1 origin (answer 0x68 0x43 1 1 (0x41 ∷ 0xAB ∷ [])) ∷ tick_at 1
    ∷ from 2 (client 1) (asks 3 8 []) ∷ tick_at 2
    ∷ from 3 origin (answer 0x68 0x43 3 2 (0x41 ∷ 0xAB ∷ nine)) ∷ tick_at 3 ∷ []

abbrev pub valid_for_none_sent : List Sent
valid_for_none_sent =
    nothing Opened ∷ to SentRequest origin (goes_as 1 1 1 []) ∷ nothing (Answered NotStored)
    ∷ to Delivered (client 1) (shows 0xA2 2 []) ∷ nothing Opened
    ∷ to SentRequest origin (goes_as 3 3 2 []) ∷ nothing (Answered NotStored)
    ∷ to Delivered (client 1) (shows 0x43 4 (0x41 ∷ 0xAB ∷ nine)) ∷ []

-- an ETag of the client that isn't recognised is forwarded, after the tag of what is stored
abbrev pub own_tag_first : List Turn
own_tag_first =
    from 0 (client 1) (0x50 ∷ 1 ∷ 0 ∷ 7 ∷ 0x40 ∷ 0x71 ∷ 0x74 ∷ []) ∷ tick_at 0
    ∷ from 0 origin (answer 0x68 0x45 1 1 (tagged 10)) ∷ tick_at 0
    ∷ from 10001 (client 1) (0x50 ∷ 1 ∷ 0 ∷ 8 ∷ 0x40 ∷ 0x71 ∷ 0x74 ∷ []) ∷ tick_at 10001 ∷ []

abbrev pub own_tag_first_sent : List Sent
own_tag_first_sent =
    nothing Opened ∷ to SentRequest origin (with_options 1 1 (0x40 ∷ [])) ∷ nothing (Answered Kept)
    ∷ to Delivered (client 1) (shows 0x45 2 (tagged 10)) ∷ nothing Opened
    ∷ to SentRequest origin (with_options 3 2 (0x41 ∷ 0xAB ∷ 0 ∷ [])) ∷ []

-- a renewed response may no longer fit a datagram of 128 bytes: a 5.02
abbrev pub long_content : ℕ → List ℕ
long_content seconds = 0x41 ∷ 0xAB ∷ 0xA1 ∷ seconds ∷ 0xFF ∷ replicate 107 0x39

abbrev pub renewed_too_long : List Turn
renewed_too_long =
    kept_first [] (long_content 10) ++ from 10001 (client 1) (asks 1 8 []) ∷ tick_at 10001
    ∷ from 10001 origin (answer 0x68 0x43 3 2 (0x41 ∷ 0xAB ∷ 0x81 ∷ 0x32 ∷ [])) ∷ tick_at 10001
    ∷ []

abbrev pub renewed_too_long_sent : List Sent
renewed_too_long_sent =
    kept_first_sent [] (long_content 10) ++ nothing Opened
    ∷ to SentRequest origin (validates_as 3 2) ∷ nothing (Answered NotStored)
    ∷ to Delivered (client 1) (shows 0xA2 4 []) ∷ []
