-- Datagrams whose reading and encoding are computed with the definitions.
use Rattle.std.specs.Prelude.{◌≡◌, ℕ, List, [], ◌∷◌, codes, Err}
use Rattle.coap_message.specs.declared.error.DecodeError.{DecodeError}
use Rattle.coap_message.specs.declared.error.DecodeError.TheVariants.{Format}
use Rattle.coap_message.specs.declared.kind.Kind.{Kind}
use Rattle.coap_message.specs.declared.kind.Kind.TheVariants.{Con, Non, Ack}
use Rattle.coap_message.specs.declared.message.Head.{Head}
use Rattle.coap_message.specs.Message.{Message, message_of}
use Rattle.coap_message.specs.Options.{option_of}
use Rattle.coap_message.specs.Reading.{read_message}
use Rattle.coap_message.specs.Spelling.{bits_of, more_of}

-- what the first four bytes say
abbrev pub head : Kind → ℕ → ℕ → Head
head kind code id = record { kind = kind; code = record { 0 = code }; id = id }

-- a Non-confirmable GET of the path `t`
abbrev pub get_bytes : List ℕ
get_bytes = 0x50 ∷ 1 ∷ 0 ∷ 7 ∷ 0xB1 ∷ 0x74 ∷ []

abbrev pub get_message : Message
get_message =
    message_of (head Non 1 7) [] (option_of 11 (0x74 ∷ []) ∷ []) []

-- a Confirmable 2.05 with a token, a Max-Age of ten seconds and a payload
abbrev pub content_bytes : List ℕ
content_bytes = 0x41 ∷ 0x45 ∷ 1 ∷ 2 ∷ 0xAA ∷ 0xD1 ∷ 1 ∷ 10 ∷ 0xFF ∷ 0x32 ∷ 0x31 ∷ []

abbrev pub content_message : Message
content_message =
    message_of (head Con 0x45 258) (0xAA ∷ []) (option_of 14 (10 ∷ []) ∷ []) (0x32 ∷ 0x31 ∷ [])

-- a request for a temperature, without a token and with one, and their piggybacked responses (RFC
-- 7252, Appendix A)
abbrev pub asking_bytes : List ℕ
asking_bytes = 0x40 ∷ 0x01 ∷ 0x7D ∷ 0x34 ∷ 0xBB ∷ codes "temperature"

abbrev pub asking_by_token_bytes : List ℕ
asking_by_token_bytes = 0x41 ∷ 0x01 ∷ 0x7D ∷ 0x35 ∷ 0x20 ∷ 0xBB ∷ codes "temperature"

abbrev pub asking : ℕ → List ℕ → Message
asking id token =
    message_of (head Con 1 id) token (option_of 11 (codes "temperature") ∷ []) []

abbrev pub told_bytes : List ℕ
told_bytes = 0x60 ∷ 0x45 ∷ 0x7D ∷ 0x34 ∷ 0xFF ∷ codes "22.3 C"

abbrev pub told_by_token_bytes : List ℕ
told_by_token_bytes = 0x61 ∷ 0x45 ∷ 0x7D ∷ 0x35 ∷ 0x20 ∷ 0xFF ∷ codes "22.3 C"

abbrev pub told : ℕ → List ℕ → Message
told id token =
    message_of (head Ack 0x45 id) token [] (codes "22.3 C")

-- an Empty message: an Acknowledgement, or a Reset (RFC 7252, 4.2 and 4.3)
abbrev pub empty : Kind → ℕ → Message
empty kind id = message_of (head kind 0 id) [] [] []

-- a GET with a token of eight bytes, the maximum
abbrev pub longest_token_bytes : List ℕ
longest_token_bytes = 0x58 ∷ 1 ∷ 0 ∷ 7 ∷ 1 ∷ 2 ∷ 3 ∷ 4 ∷ 5 ∷ 6 ∷ 7 ∷ 8 ∷ []

abbrev pub longest_token_message : Message
longest_token_message =
    message_of (head Non 1 7) (1 ∷ 2 ∷ 3 ∷ 4 ∷ 5 ∷ 6 ∷ 7 ∷ 8 ∷ []) [] []

abbrev pub refused : List ℕ → DecodeError → Type 0
refused bytes error = read_message bytes ≡ Err error

-- fewer than four bytes, and version 0
abbrev pub short_bytes : List ℕ
short_bytes = 0x50 ∷ 1 ∷ 0 ∷ []

abbrev pub old_bytes : List ℕ
old_bytes = 0x10 ∷ 1 ∷ 0 ∷ 7 ∷ []

-- a token of nine bytes; the nibble 15 as a delta; a value past the end; a marker with nothing
-- after it; an option number of 65,536; and an Empty message with one byte too many
abbrev pub malformed : List (List ℕ)
malformed =
    (0x59 ∷ 1 ∷ 0 ∷ 7 ∷ 0 ∷ 0 ∷ 0 ∷ 0 ∷ 0 ∷ 0 ∷ 0 ∷ 0 ∷ 0 ∷ [])
    ∷ (0x50 ∷ 1 ∷ 0 ∷ 7 ∷ 0xF0 ∷ [])
    ∷ (0x50 ∷ 1 ∷ 0 ∷ 7 ∷ 0xB5 ∷ 0x74 ∷ [])
    ∷ (0x50 ∷ 1 ∷ 0 ∷ 7 ∷ 0xFF ∷ [])
    ∷ (0x50 ∷ 1 ∷ 0 ∷ 7 ∷ 0xE0 ∷ 0xFE ∷ 0xF3 ∷ [])
    ∷ (0x40 ∷ 0 ∷ 0 ∷ 9 ∷ 0 ∷ []) ∷ []

abbrev pub AllRefused : List (List ℕ) → Type 0
AllRefused [] = Unit {0}
AllRefused (bytes ∷ others) = refused bytes Format × AllRefused others

-- one option, with the greatest number
abbrev pub last_option_bytes : List ℕ
last_option_bytes = 0x50 ∷ 1 ∷ 0 ∷ 7 ∷ 0xE0 ∷ 0xFE ∷ 0xF2 ∷ []

abbrev pub last_option_message : Message
last_option_message =
    message_of (head Non 1 7) [] (option_of 65535 [] ∷ []) []

-- the boundaries between the three ways to encode a delta or a length
abbrev pub Boundaries : Type 0
Boundaries =
    (bits_of 12 ≡ 12) × (more_of 12 ≡ [])
    × (bits_of 13 ≡ 13) × (more_of 13 ≡ 0 ∷ [])
    × (bits_of 268 ≡ 13) × (more_of 268 ≡ 255 ∷ [])
    × (bits_of 269 ≡ 14) × (more_of 269 ≡ 0 ∷ 0 ∷ [])
    × (more_of 65535 ≡ 0xFE ∷ 0xF2 ∷ []) × (more_of 65804 ≡ 0xFF ∷ 0xFF ∷ [])
