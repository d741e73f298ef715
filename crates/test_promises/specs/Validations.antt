-- Responses to a request with a tag that renew nothing. The bytes are encoded per RFC 7252 (3, 3.1,
-- 5.10).
use Rattle.std.specs.Prelude.{◌≡◌, ℕ, true, List, [], ◌∷◌, Some}
use Rattle.coap_message.specs.Message.{Message}
use Rattle.coap_message.specs.Options.{option_of}
use Rattle.coap_option.specs.declared.numbers.TheConstants.{CONTENT_FORMAT, ETAG, MAX_AGE}
use Rattle.coap_option.specs.Selection.{tags_of}
use Rattle.coap_limits.specs.Limits.{Limits, default_limits}
use Rattle.coap_store.specs.Renewing.{renewed}
use Rattle.coap_forward.specs.Answers.{passed_part}
use Rattle.coap_forward.specs.Forms.{forwarded}
use Rattle.coap_forward.specs.Messages.{token_of}
use Rattle.coap_model.specs.Cached.{IsFetched, IsObtained}
use Rattle.coap_model.specs.Changed.{asked_of}
use Rattle.coap_model.specs.Examples.{answer, bare_get}
use Rattle.coap_model.specs.Forged.{asked, opened}
use Rattle.coap_model.specs.History.{Action, IsPositionOf, Position}
use Rattle.coap_model.specs.OptionExamples.{key_of_temp}
use Rattle.coap_model.specs.WordExamples.{answers, asks_tagged, at, gets_tagged, setting_with, tagged_content, tagged_past, valid_message}

-- ---- tags

-- the 2.03 has the ETag CD, in place of the AB of the request and of what is cached
abbrev pub other_valid_bytes : List ℕ
other_valid_bytes = answer 0x68 0x43 3 2 (0x41 ∷ 0xCD ∷ 0xA1 ∷ 20 ∷ [])

abbrev pub other_valid : Message
other_valid =
    record valid_message {
      options = option_of ETAG (0xCD ∷ []) ∷ option_of MAX_AGE (20 ∷ []) ∷ [];
    }

abbrev pub gets_other_valid : Action
gets_other_valid = answers 20 2 other_valid_bytes

-- the request has the ETag CD, in place of the AB of what is cached and of the 2.03
abbrev pub other_get_bytes : List ℕ
other_get_bytes =
    0x48 ∷ 1 ∷ 0 ∷ 3 ∷ 0 ∷ 0 ∷ 0 ∷ 0 ∷ 0 ∷ 0 ∷ 0 ∷ 2
    ∷ 0x41 ∷ 0xCD ∷ 0x74 ∷ 0x74 ∷ 0x65 ∷ 0x6D ∷ 0x70 ∷ []

abbrev pub other_get : Message
other_get = forwarded (token_of 0 2) key_of_temp.target (Some (0xCD ∷ [])) bare_get 3

abbrev pub asks_other : Action
asks_other = record asks_tagged
    { observation = record asks_tagged.observation { bytes = other_get_bytes } }

abbrev pub other_past : List Action
other_past = asks_other ∷ tagged_past

-- ---- length

-- The 2.03 has a Content-Format of one byte, which the cached response gets from it. With this and
-- a Max-Age of four bytes that response has 24 bytes; without it, it has 22, and the 2.03 has 21.
abbrev pub format_valid_bytes : List ℕ
format_valid_bytes = answer 0x68 0x43 3 2 (0x41 ∷ 0xAB ∷ 0x81 ∷ 0x28 ∷ 0x21 ∷ 20 ∷ [])

abbrev pub format_valid : Message
format_valid =
    record valid_message {
      options =
          option_of ETAG (0xAB ∷ []) ∷ option_of CONTENT_FORMAT (0x28 ∷ [])
          ∷ option_of MAX_AGE (20 ∷ []) ∷ [];
    }

abbrev pub gets_format_valid : Action
gets_format_valid = answers 20 2 format_valid_bytes

-- with this limit of datagrams
abbrev pub limits_of : ℕ → Limits
limits_of datagram = record default_limits { datagram = datagram }

-- ---- renewals

-- What makes a message renew the response with the tag AB, but for conditions on tags, length and
-- Max-Age: it arrived for a GET with the key, which was sent after that response was obtained.
pub record IsAsked (limits : Limits) (asking getting : Position) (m : Message) : Type 0 where
  pub fetched : IsFetched (setting_with limits) key_of_temp asking getting
  pub message : fetched.gets.meets.message ≡ m
  pub obtained :
      IsObtained (setting_with limits) key_of_temp tagged_content
      (at (opened ∷ []) asked) (at (asked ∷ opened ∷ []) gets_tagged)
  pub behind : IsPositionOf asking.before (at (asked ∷ opened ∷ []) gets_tagged)

-- the tags of that GET
abbrev pub tags_asked : {limits : Limits} {asking getting : Position} {m : Message}
    → IsAsked limits asking getting m → List (List ℕ)
tags_asked is = tags_of (asked_of is.fetched.gets)

-- what the message makes of that response
abbrev pub renewed_by : Message → Message
renewed_by m = renewed tagged_content (passed_part true m)
