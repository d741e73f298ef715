-- Responses that weren't fetched for a key, though they arrived. The bytes are encoded per RFC 7252
-- (3, 3.1, 5.10).
use Rattle.std.specs.Prelude.{◌≡◌, ℕ, true, List, [], ◌∷◌, codes}
use Rattle.coap_message.specs.declared.code.TheConstants.Code.{NOT_FOUND, PUT}
use Rattle.coap_message.specs.declared.kind.Kind.TheVariants.{Ack, Con}
use Rattle.coap_message.specs.Message.{Message}
use Rattle.coap_message.specs.Options.{option_of}
use Rattle.coap_option.specs.declared.numbers.TheConstants.{MAX_AGE, URI_PATH}
use Rattle.coap_store.specs.declared.key.CacheKey.{CacheKey}
use Rattle.coap_forward.specs.Answers.{is_passed_on}
use Rattle.coap_forward.specs.Messages.{token_of}
use Rattle.coap_model.specs.CacheExamples.{asks_again, opens_again}
use Rattle.coap_model.specs.Changed.{key_asked}
use Rattle.coap_model.specs.Events.{arrival}
use Rattle.coap_model.specs.Examples.{answer, client}
use Rattle.coap_model.specs.Forged.{asked, opened, setting}
use Rattle.coap_model.specs.History.{Action, Gets, Position}
use Rattle.coap_model.specs.WordExamples.{answers}
use Rattle.test_promises.specs.Replies.{put_bytes}

-- ---- the response to another method

-- a 4.04 with a Max-Age of ten seconds
abbrev pub error_bytes : List ℕ
error_bytes = answer 0x68 0x84 1 1 (0xD1 ∷ 1 ∷ 10 ∷ [])

abbrev pub error : Message
error =
    record {
      kind = Ack;
      code = NOT_FOUND;
      id = 1;
      token = token_of 0 1;
      options = option_of MAX_AGE (10 ∷ []) ∷ [];
      payload = [];
    }

abbrev pub gets_error : Action
gets_error = answers 5 1 error_bytes

-- it answers a GET
abbrev pub get_past : List Action
get_past = asked ∷ opened ∷ []

-- or a PUT that is forwarded in place of it
abbrev pub put_sent_bytes : List ℕ
put_sent_bytes =
    0x48 ∷ 3 ∷ 0 ∷ 1 ∷ 0 ∷ 0 ∷ 0 ∷ 0 ∷ 0 ∷ 0 ∷ 0 ∷ 1 ∷ 0xB4 ∷ 0x74 ∷ 0x65 ∷ 0x6D ∷ 0x70 ∷ []

abbrev pub put_sent : Message
put_sent =
    record {
      kind = Con;
      code = PUT;
      id = 1;
      token = token_of 0 1;
      options = option_of URI_PATH (codes "temp") ∷ [];
      payload = [];
    }

abbrev pub opens_put : Action
opens_put =
    record opened {
      observation = record opened.observation
          { event = arrival (client 1) put_bytes };
    }

abbrev pub asks_put : Action
asks_put = record asked { observation = record asked.observation { bytes = put_sent_bytes } }

abbrev pub put_past : List Action
put_past = asks_put ∷ opens_put ∷ []

-- ---- a response that a change overtook

-- the history of such a response, without the change
abbrev pub quiet_past : List Action
quiet_past = asks_again ∷ opens_again ∷ asked ∷ opened ∷ []

-- ---- responses that may be passed on

-- What makes a response a fetched one, but for two conditions: that its request was a GET, and that
-- the target wasn't changed. It arrived for a request that was sent with this key at this position.
pub record IsAnswerTo (key : CacheKey) (asking getting : Position) : Type 0 where
  pub exchange : ℕ
  pub gets : Gets setting exchange getting
  pub asking_is : gets.meets.asking ≡ asking
  pub asked_key : key_asked gets ≡ key
  pub passed : is_passed_on setting.limits.datagram true gets.meets.message ≡ true
