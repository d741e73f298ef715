-- Responses that are never fresh. The bytes are encoded per RFC 7252 (3, 3.1, 5.10).
use Rattle.std.specs.Prelude.{ℕ, List, [], ◌∷◌}
use Rattle.coap_message.specs.Message.{Message}
use Rattle.coap_message.specs.Options.{option_of}
use Rattle.coap_option.specs.declared.numbers.TheConstants.{ETAG, MAX_AGE}
use Rattle.coap_model.specs.CacheExamples.{content_for}
use Rattle.coap_model.specs.Examples.{answer}
use Rattle.coap_model.specs.History.{Action}
use Rattle.coap_model.specs.LimitExamples.{got_stale}
use Rattle.coap_model.specs.WordExamples.{answers, valid_message}

-- a 2.05 with a Max-Age of 0
abbrev pub ageless_bytes : List ℕ
ageless_bytes = got_stale 1 1

abbrev pub ageless : Message
ageless = record (content_for 1 1) { options = option_of MAX_AGE [] ∷ [] }

abbrev pub gets_ageless : Action
gets_ageless = answers 5 1 ageless_bytes

-- a 2.03 with a Max-Age of 0 and the tag of the request
abbrev pub ageless_valid_bytes : List ℕ
ageless_valid_bytes = answer 0x68 0x43 3 2 (0x41 ∷ 0xAB ∷ 0xA0 ∷ [])

abbrev pub ageless_valid : Message
ageless_valid =
    record valid_message { options = option_of ETAG (0xAB ∷ []) ∷ option_of MAX_AGE [] ∷ [] }

abbrev pub gets_ageless_valid : Action
gets_ageless_valid = answers 20 2 ageless_valid_bytes
