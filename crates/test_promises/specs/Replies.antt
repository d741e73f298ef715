-- Replies with a cached response to requests that it doesn't answer. The bytes are encoded per RFC
-- 7252 (3, 3.1, 5.10).
use Rattle.std.specs.Prelude.{◌≡◌, ℕ, List, [], ◌∷◌, codes}
use Rattle.coap_message.specs.declared.code.TheConstants.Code.{GET, PUT}
use Rattle.coap_message.specs.declared.kind.Kind.TheVariants.{Non}
use Rattle.coap_message.specs.Message.{Message}
use Rattle.coap_message.specs.Options.{option_of}
use Rattle.coap_option.specs.declared.numbers.TheConstants.{ACCEPT, URI_PATH}
use Rattle.coap_option.specs.Selection.{tags_of}
use Rattle.coap_store.specs.declared.key.CacheKey.{CacheKey}
use Rattle.coap_forward.specs.Answers.{shown, stored_answer}
use Rattle.coap_forward.specs.Messages.{at_once}
use Rattle.coap_model.specs.Cached.{entry_of_cached, WasObtained}
use Rattle.coap_model.specs.CacheExamples.{asked_past, first_entry}
use Rattle.coap_model.specs.Events.{arrival}
use Rattle.coap_model.specs.Examples.{client, get_t}
use Rattle.coap_model.specs.Forged.{setting}
use Rattle.coap_model.specs.ForgedHits.{reply}
use Rattle.coap_model.specs.History.{Observation, IsRequestOf}
use Rattle.coap_model.specs.Justified.{verdict_on, IsUsable, Tells}
use Rattle.coap_model.specs.OptionExamples.{key_of_temp}
use Rattle.coap_model.specs.Verdicts.{may_ask}

-- the reply with the first answer, and with nine seconds of its Max-Age, to a request with these
-- bytes
abbrev pub replied_to : List ℕ → Observation
replied_to bytes = record (reply 25 9).observation { event = arrival (client 4) bytes }

-- the GET that it answers
abbrev pub get_bytes : List ℕ
get_bytes = get_t []

-- that GET with another method
abbrev pub put_bytes : List ℕ
put_bytes = 0x50 ∷ 3 ∷ 0 ∷ 7 ∷ 0xB1 ∷ 0x74 ∷ []

abbrev pub put : Message
put =
    record {
      kind = Non;
      code = PUT;
      id = 7;
      token = [];
      options = option_of URI_PATH (codes "t") ∷ [];
      payload = [];
    }

-- that GET with a second path segment, and its key
abbrev pub part_bytes : List ℕ
part_bytes = get_t (0x01 ∷ 0x78 ∷ [])

abbrev pub part : Message
part =
    record put {
      code = GET;
      options = option_of URI_PATH (codes "t") ∷ option_of URI_PATH (codes "x") ∷ [];
    }

abbrev pub key_of_part : CacheKey
key_of_part =
    record key_of_temp {
      target = record key_of_temp.target { path = codes "temp" ∷ codes "x" ∷ [] };
    }

-- that GET with an Accept, and its key
abbrev pub accepting_bytes : List ℕ
accepting_bytes = get_t (0x61 ∷ 0x28 ∷ [])

abbrev pub accepting : Message
accepting =
    record put {
      code = GET;
      options = option_of URI_PATH (codes "t") ∷ option_of ACCEPT (0x28 ∷ []) ∷ [];
    }

abbrev pub key_accepting : CacheKey
key_accepting = record key_of_temp { options = option_of ACCEPT (0x28 ∷ []) ∷ [] }

-- What makes this a reply with the first answer, but for two conditions: that the request is a GET,
-- and that the answer was obtained for the request's key.
pub record IsShownTo (request : Message) (key : CacheKey) (bytes : List ℕ) : Type 0 where
  pub asked : IsRequestOf setting (client 4) request (replied_to bytes).event
  pub key_is : verdict_on setting request ≡ may_ask key
  pub received : WasObtained setting asked_past first_entry
  pub usable : IsUsable setting asked_past (replied_to bytes).now first_entry
  pub shows :
      Tells (client 4)
      (at_once request
      (shown 25 (stored_answer (entry_of_cached first_entry).1) 4 request.token (tags_of request)))
      (replied_to bytes)
