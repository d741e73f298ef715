-- Histories and observations that break one word of the promise in short, and are right except for
-- that. The bytes are encoded per RFC 7252 (3, 3.1, 5.10).
use Rattle.std.specs.Prelude.{ℕ, List, [], ◌∷◌, ◌++◌, codes, Option, Some, None}
use Rattle.coap_message.specs.declared.code.TheConstants.Code.{GET, CONTENT, VALID, NOT_FOUND}
use Rattle.coap_message.specs.declared.kind.Kind.TheVariants.{Ack, Con}
use Rattle.coap_message.specs.Message.{Message}
use Rattle.coap_message.specs.Options.{option_of}
use Rattle.coap_option.specs.declared.numbers.TheConstants.{ETAG, MAX_AGE, URI_PATH, BLOCK2}
use Rattle.coap_endpoint.specs.declared.endpoint.Endpoint.{Endpoint}
use Rattle.coap_limits.specs.Limits.{Limits, default_limits}
use Rattle.coap_forward.specs.Forms.{forwarded}
use Rattle.coap_forward.specs.Messages.{token_of}
use Rattle.coap_model.specs.declared.report.Outcome.{Outcome}
use Rattle.coap_model.specs.declared.report.Outcome.TheVariants.{Ignored, Again, Refused, Answered, SentRequest}
use Rattle.coap_model.specs.declared.report.Storing.TheVariants.{Kept}
use Rattle.coap_model.specs.Setting.{Setting}
use Rattle.coap_model.specs.Events.{arrival, tick}
use Rattle.coap_model.specs.State.{State}
use Rattle.coap_model.specs.Runs.{Turn}
use Rattle.coap_model.specs.Examples.{origin, client, from, tick_at, proxy, get_t_as, get_temp, answer, answered_by, content, bare_get}
use Rattle.coap_model.specs.LimitExamples as limited
use Rattle.coap_model.specs.OptionExamples.{key_of_temp}
use Rattle.coap_model.specs.History.{Observation, moves, serves, Action, Position}
use Rattle.coap_model.specs.Forged as forged
use Rattle.coap_model.specs.Forged.{setting, opened, opened_con, opened_too, asked}
use Rattle.coap_model.specs.CacheExamples.{opens_again, asks_again}
use Rattle.coap_model.specs.ForgedHits.{reply}

abbrev pub at : List Action → Action → Position
at before action = record { before = before; action = action }

-- ---- replies from the cache

-- a reply to the request of `reply`, with these bytes for this endpoint
abbrev pub reply_with : ℕ → Endpoint → List ℕ → Observation
reply_with now to bytes =
    record (reply now 0).observation {
      report = record (reply now 0).observation.report { send = Some to };
      bytes = bytes;
    }

-- the entry is stale by a millisecond, and is sent with a Max-Age of 0
abbrev pub stale_reply : Observation
stale_reply =
    reply_with 10006 (client 4) (0x50 ∷ 0x45 ∷ 0 ∷ 4 ∷ 0xD0 ∷ 1 ∷ 0xFF ∷ 0x32 ∷ 0x31 ∷ [])

-- a token of one byte in place of none
abbrev pub with_a_token : Observation
with_a_token =
    reply_with 25 (client 4) (0x51 ∷ 0x45 ∷ 0 ∷ 4 ∷ 0xAA ∷ 0xD1 ∷ 1 ∷ 9 ∷ 0xFF ∷ 0x32 ∷ 0x31 ∷ [])

-- the right bytes for another client
abbrev pub to_another : Observation
to_another = reply_with 25 (client 5) (reply 25 9).observation.bytes

-- ---- validations

-- an answer of the origin server to an exchange, which is kept
abbrev pub answers : ℕ → ℕ → List ℕ → Action
answers now exchange bytes =
    record {
      observation = record forged.answered.observation {
        now = now;
        event = arrival origin bytes;
        report = record { send = None; outcome = Answered Kept };
      };
      act = moves exchange;
    }

-- a 2.05 with the ETag AB and a Max-Age of ten seconds answers the first request
abbrev pub tagged_bytes : List ℕ
tagged_bytes = answer 0x68 0x45 1 1 (0x41 ∷ 0xAB ∷ 0xA1 ∷ 10 ∷ 0xFF ∷ 0x32 ∷ 0x31 ∷ [])

abbrev pub tagged_content : Message
tagged_content =
    record {
      kind = Ack;
      code = CONTENT;
      id = 1;
      token = token_of 0 1;
      options = option_of ETAG (0xAB ∷ []) ∷ option_of MAX_AGE (10 ∷ []) ∷ [];
      payload = codes "21";
    }

abbrev pub gets_tagged : Action
gets_tagged = answers 5 1 tagged_bytes

-- the second request carries that tag
abbrev pub tagged_get_bytes : List ℕ
tagged_get_bytes =
    0x48 ∷ 1 ∷ 0 ∷ 3 ∷ 0 ∷ 0 ∷ 0 ∷ 0 ∷ 0 ∷ 0 ∷ 0 ∷ 2
    ∷ 0x41 ∷ 0xAB ∷ 0x74 ∷ 0x74 ∷ 0x65 ∷ 0x6D ∷ 0x70 ∷ []

abbrev pub tagged_get : Message
tagged_get = forwarded (token_of 0 2) key_of_temp.target (Some (0xAB ∷ [])) bare_get 3

abbrev pub asks_tagged : Action
asks_tagged = record asks_again
    { observation = record asks_again.observation { bytes = tagged_get_bytes } }

-- a 2.03 with the same tag and a Max-Age of twenty seconds answers it
abbrev pub valid_bytes : List ℕ
valid_bytes = answer 0x68 0x43 3 2 (0x41 ∷ 0xAB ∷ 0xA1 ∷ 20 ∷ [])

abbrev pub valid_message : Message
valid_message =
    record {
      kind = Ack;
      code = VALID;
      id = 3;
      token = token_of 0 2;
      options = option_of ETAG (0xAB ∷ []) ∷ option_of MAX_AGE (20 ∷ []) ∷ [];
      payload = [];
    }

abbrev pub gets_valid : Action
gets_valid = answers 20 2 valid_bytes

-- as it should be: the answer comes, the second exchange is opened, its request carries the tag,
-- and the 2.03 comes
abbrev pub tagged_past : List Action
tagged_past = opens_again ∷ gets_tagged ∷ asked ∷ opened ∷ []

abbrev pub validated_past : List Action
validated_past = asks_tagged ∷ tagged_past

-- the same, but the second request was sent before the answer came
abbrev pub early_past : List Action
early_past = opens_again ∷ asked ∷ opened ∷ []

abbrev pub validated_early : List Action
validated_early = gets_tagged ∷ asks_tagged ∷ early_past

-- the same, but the second request carries no tag
abbrev pub validated_untagged : List Action
validated_untagged = asks_again ∷ tagged_past

-- ---- a response that may not be passed on

-- a 2.05 with the option Block2, which isn't recognised
abbrev pub block_bytes : List ℕ
block_bytes = answer 0x68 0x45 1 1 (0xD1 ∷ 10 ∷ 6 ∷ 0xFF ∷ 0x32 ∷ 0x31 ∷ [])

abbrev pub block_content : Message
block_content =
    record tagged_content { options = option_of BLOCK2 (6 ∷ []) ∷ [] }

abbrev pub gets_block : Action
gets_block = answers 5 1 block_bytes

-- ---- duplicates

-- the Confirmable request
abbrev pub con_read : Message
con_read =
    record {
      kind = Con;
      code = GET;
      id = 7;
      token = [];
      options = option_of URI_PATH (codes "t") ∷ [];
      payload = [];
    }

-- a Confirmable request comes again, and gets this
abbrev pub again : Option Endpoint → List ℕ → Observation
again to bytes =
    record opened_con.observation {
      now = 500;
      report = record { send = to; outcome = Again };
      bytes = bytes;
    }

-- the same observation, with another outcome
abbrev pub ignored : Observation → Observation
ignored e = record e { report = record e.report { outcome = Ignored } }

-- ---- limits

-- a client opens two exchanges, in Non-confirmable and in Confirmable messages
abbrev pub two_pending : List Action
two_pending = opened_too ∷ opened ∷ []

abbrev pub two_pending_con : List Action
two_pending_con = record opened_con { act = opened_too.act } ∷ opened_con ∷ []

abbrev pub setting_with : Limits → Setting
setting_with limits = record setting { limits = limits }

-- two of each
abbrev pub limits_of_two : Limits
limits_of_two = record default_limits {
  con_records = 2;
  non_records = 2;
  exchanges = 2;
  waiters = 2;
  client_con_records = 2;
  client_non_records = 2;
  client_exchanges = 2;
  client_waiters = 2;
}

-- ---- clients that are finished

-- what happens to the answer of the first client
abbrev pub done_with : Outcome → Action
done_with outcome =
    record {
      observation = record {
        now = 3000;
        draw = 0;
        event = tick;
        report = record { send = None; outcome = outcome };
        bytes = [];
      };
      act = serves 1;
    }

-- ---- retransmissions

-- a request is sent at this moment, with a draw of 0
abbrev pub sending : ℕ → Observation
sending now =
    record {
      now = now;
      draw = 0;
      event = tick;
      report = record { send = Some origin; outcome = SentRequest };
      bytes = get_temp [];
    }

-- five times, each when it is due, and a sixth time
abbrev pub four_sends : List Observation
four_sends = sending 14000 ∷ sending 6000 ∷ sending 2000 ∷ sending 0 ∷ []

abbrev pub five_sends : List Observation
five_sends = sending 30000 ∷ four_sends

abbrev pub six_sends : List Observation
six_sends = sending 62000 ∷ five_sends

-- ---- Message IDs

-- a request for what there is no map for is refused, in a message with the Message ID 1
abbrev pub refused_with_1 : ℕ → Observation
refused_with_1 now =
    record {
      now = now;
      draw = 0;
      event = arrival (client 1) (limited.get_u 7);
      report = record { send = Some (client 1); outcome = Refused NOT_FOUND };
      bytes = limited.not_found 0 1;
    }

-- twice within 247 seconds
abbrev pub of_one_id : List Observation
of_one_id = refused_with_1 246999 ∷ refused_with_1 0 ∷ []

-- ---- bytes that are held

-- a GET with a token of two bytes and a tag of three; the proxy holds the form for it, of 17 bytes,
-- and the path `temp`
abbrev pub asked_with_a_tag : List Turn
asked_with_a_tag =
    from 0 (client 1)
    (0x52 ∷ 1 ∷ 0 ∷ 7 ∷ 0xAA ∷ 0xBB ∷ 0x43 ∷ 1 ∷ 2 ∷ 3 ∷ 0x71 ∷ 0x74 ∷ []) ∷ []

-- its answer, with a Max-Age of one byte and a payload of two, is kept
abbrev pub answered_with_a_tag : List Turn
answered_with_a_tag = asked_with_a_tag ++ tick_at 0 ∷ from 0 origin content ∷ []

-- the response with the ETag AB is stale, and the request for it goes on with that tag
abbrev pub copied : List Turn
copied = answered_by 0 tagged_bytes ++ from 10001 (client 1) (get_t_as 8 []) ∷ []

-- a Confirmable request is acknowledged, and its answer is sent in a message of ten bytes
abbrev pub told_in_con : List Turn
told_in_con =
    from 0 (client 1) (0x40 ∷ 1 ∷ 0 ∷ 7 ∷ 0xB1 ∷ 0x74 ∷ []) ∷ tick_at 0 ∷ from 0 origin content
    ∷ tick_at 0 ∷ []

-- three bytes are kept for a message that isn't Confirmable
abbrev pub keeps_a_reply : State
keeps_a_reply =
    record proxy {
      non_records = record proxy.non_records {
        items =
            record { from = client 1; id = 7; at = 0; reply = Some (1 ∷ 2 ∷ 3 ∷ []) } ∷ [];
      };
    }
