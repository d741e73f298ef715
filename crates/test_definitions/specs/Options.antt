-- Messages for the examples, and what is computed over the whole option table.
use Rattle.std.specs.Prelude.{ℕ, ◌+◌, ◌-◌, ◌==◌, ◌&&◌, ◌||◌, Bool, not, List, [], ◌∷◌, Option, Some, replicate}
use Rattle.coap_message.specs.declared.kind.Kind.TheVariants.{Con}
use Rattle.coap_message.specs.declared.options.Opt.{Opt}
use Rattle.coap_message.specs.Message.{Message, message_of}
use Rattle.coap_message.specs.Options.{option_of}
use Rattle.coap_option.specs.declared.side.Side.{Side}
use Rattle.coap_option.specs.declared.survey.Span.{Span}
use Rattle.coap_option.specs.declared.survey.Survey.{Survey}
use Rattle.coap_option.specs.Places.{places}
use Rattle.coap_option.specs.Recognition.{is_recognised}
use Rattle.coap_option.specs.Survey.{of_none, with_all}

-- an option with this number, whose value is this many zero bytes
abbrev pub zeros : ℕ → ℕ → Opt
zeros number length = record { number = number; value = replicate length 0 }

-- a message with this code and these options
abbrev pub message : ℕ → List Opt → Message
message code options =
    message_of (record { kind = Con; code = record { 0 = code }; id = 7 }) [] options []

-- GET, PUT and 2.05
abbrev pub get : List Opt → Message
get options = message 0x01 options

abbrev pub put : List Opt → Message
put options = message 0x03 options

abbrev pub content : List Opt → Message
content options = message 0x45 options

-- What the first option with a number may be in a request: its number, and the least and the
-- greatest length of its value (RFC 7252, 5.10; RFC 7641, 2). If-Match, Uri-Host, ETag,
-- If-None-Match, Observe, Uri-Port, Uri-Path, Content-Format, Max-Age, Uri-Query, Accept,
-- Proxy-Uri, Proxy-Scheme, Size1.
abbrev pub of_requests : List (ℕ × ℕ × ℕ)
of_requests =
    (1, 0, 8) ∷ (3, 1, 255) ∷ (4, 1, 8) ∷ (5, 0, 0) ∷ (6, 0, 3) ∷ (7, 0, 2) ∷ (11, 0, 255)
    ∷ (12, 0, 2) ∷ (14, 0, 4) ∷ (15, 0, 255) ∷ (17, 0, 2) ∷ (35, 1, 1034)
    ∷ (39, 1, 255) ∷ (60, 0, 4) ∷ []

-- and those that a response may have: ETag, Observe, Location-Path, Content-Format, Max-Age,
-- Location-Query, Size1
abbrev pub of_responses : List (ℕ × ℕ × ℕ)
of_responses =
    (4, 1, 8) ∷ (6, 0, 3) ∷ (8, 0, 255) ∷ (12, 0, 2) ∷ (14, 0, 4) ∷ (20, 0, 255) ∷ (60, 0, 4) ∷ []

-- on this side, the first option with this number is recognised at these two lengths, and not just
-- outside them
abbrev pub has_range : Side → ℕ × ℕ × ℕ → Bool
has_range side (number, least, greatest) =
    let is_at : ℕ → Bool = λ length. is_recognised side number length 0 in
    is_at least
    && is_at greatest
    && not (is_at (greatest + 1))
    && (least == 0 || not (is_at (least - 1)))

-- whether an option after `before` with its number is recognised, with a value of no byte or of one
abbrev pub is_known : Side → ℕ → ℕ → Bool
is_known side before number =
    is_recognised side number 0 before || is_recognised side number 1 before

-- If-Match, ETag, If-None-Match, Content-Format, Accept, Size1
abbrev pub not_used_up : List Opt
not_used_up = zeros 1 1 ∷ zeros 4 1 ∷ zeros 5 0 ∷ zeros 12 1 ∷ zeros 17 1 ∷ zeros 60 1 ∷ []

-- an ETag, an empty Accept and an empty Size1
abbrev pub tagged : List Opt
tagged = option_of 4 (7 ∷ []) ∷ zeros 17 0 ∷ zeros 60 0 ∷ []

-- two ETags, a Uri-Path, two Uri-Queries and an Accept
abbrev pub longer : List Opt
longer =
    option_of 4 (7 ∷ []) ∷ option_of 4 (8 ∷ 9 ∷ []) ∷ option_of 11 (0x74 ∷ [])
    ∷ option_of 15 (0x61 ∷ []) ∷ option_of 15 (0x62 ∷ []) ∷ option_of 17 (0x3C ∷ []) ∷ []

-- two options that aren't recognised, the second of which is NoCacheKey
abbrev pub unknown : List Opt
unknown = option_of 65000 (0xAA ∷ 0x0B ∷ []) ∷ zeros 65532 0 ∷ []

-- what the pass over the options of a request tells
abbrev pub survey_of : Message → Survey
survey_of m = with_all m.code of_none (places m.options)

-- a survey of options of which the last that isn't part of the key has this number
abbrev pub outside : ℕ → Survey
outside number = record of_none { last_outside_key = number }

-- options with numbers from the one to the other
abbrev pub from_to : ℕ → ℕ → Option Span
from_to least greatest = Some (record { least = least; greatest = greatest })
