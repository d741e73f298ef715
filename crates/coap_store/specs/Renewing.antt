-- A stored response that an origin validates (RFC 7252, 5.6.2 and 5.9.1.3).
use Rattle.std.specs.Prelude.{ℕ, Bool, false, ◌==◌, ◌&&◌, not, nat_le, nat_lt, List, [], ◌∷◌, ◌++◌, Option, filter, find}
use Rattle.std.specs.List.{list_any}
use Rattle.std.specs.Option.{option_map, option_map_or}
use Rattle.coap_message.specs.declared.code.TheConstants.Code.{CONTENT, VALID}
use Rattle.coap_message.specs.declared.options.Opt.{Opt}
use Rattle.coap_message.specs.Codes.{is_code}
use Rattle.coap_message.specs.Message.{Message}
use Rattle.coap_message.specs.Options.{option_of}
use Rattle.coap_message.specs.Uint.{uint_spelling}
use Rattle.coap_endpoint.specs.Equality.{same_bytes}
use Rattle.coap_option.specs.declared.numbers.TheConstants.{ETAG, MAX_AGE}
use Rattle.coap_option.specs.declared.side.Side.TheVariants.{Response}
use Rattle.coap_option.specs.Classes.{is_unsafe}
use Rattle.coap_option.specs.Places.{places}
use Rattle.coap_option.specs.Selection.{is_of, max_age_of}

-- the value of a response's first ETag, if it is recognised (RFC 7252, 5.10.6.1)
abbrev pub tag_of : List Opt → Option (List ℕ)
tag_of options = option_map (λ p. p.option.value) (find (is_of Response ETAG) (places options))

-- a Max-Age of this many seconds, in the fewest bytes (RFC 7252, 3.2 and 5.10.5)
abbrev pub max_age_option : ℕ → Opt
max_age_option seconds = option_of MAX_AGE (uint_spelling seconds)

-- the options with one number
abbrev pub of_number : ℕ → List Opt → List Opt
of_number number options = filter (λ o. o.number == number) options

-- there is one with this number
abbrev pub has_number : ℕ → List Opt → Bool
has_number number options = list_any (λ o. o.number == number) options

-- the options with lower numbers than this, those from it on, and those with higher ones
abbrev pub below : ℕ → List Opt → List Opt
below number options = filter (λ o. nat_lt o.number number) options

abbrev pub from : ℕ → List Opt → List Opt
from number options = filter (λ o. nat_le number o.number) options

abbrev pub above : ℕ → List Opt → List Opt
above number options = filter (λ o. nat_lt number o.number) options

-- The newer options, in their places among the older ones, replace all older ones with their
-- numbers.
abbrev pub updated : List Opt → List Opt → List Opt
updated [] older = older
updated (o ∷ newer) older = below o.number older ++ (o ∷ updated newer (above o.number older))

-- one Max-Age, of this many seconds
abbrev pub with_max_age : ℕ → List Opt → List Opt
with_max_age seconds options = updated (max_age_option seconds ∷ []) options

-- the options that are safe to forward (RFC 7252, 5.4.2)
abbrev pub safe_options : List Opt → List Opt
safe_options options = filter (λ o. not (is_unsafe o.number)) options

-- what a 2.03 brings: its safe options, and its Max-Age, 60 seconds if it has none
abbrev pub news_of : Message → List Opt
news_of valid = with_max_age (max_age_of valid) (safe_options valid.options)

-- The stored response renewed by a 2.03, whose options replace those with the same numbers.
abbrev pub renewed : Message → Message → Message
renewed response valid = record response { options = updated (news_of valid) response.options }

-- the message has this tag
abbrev pub has_tag : List ℕ → Message → Bool
has_tag tag m = option_map_or (same_bytes tag) (tag_of m.options) false

-- A 2.03 validates a stored 2.05 if it has the same tag (RFC 7252, 5.6.2 and 5.9.1.3). Without a
-- tag nothing is validated.
abbrev pub is_validated : Message → Message → Bool
is_validated response valid =
    is_code response.code CONTENT && is_code valid.code VALID
    && option_map_or (λ tag. has_tag tag valid) (tag_of response.options) false
