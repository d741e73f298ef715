-- How a message is encoded as bytes (RFC 7252, 3 and 3.1): first as a relation, case by case, and
-- then as the function that writes it.
use Rattle.std.specs.Prelude.{◌≡◌, ℕ, ◌+◌, ◌-◌, ◌*◌, ◌/◌, ◌%◌, ◌<◌, ◌≤◌, nat_lt, if◌then◌else◌, List, [], ◌∷◌, ◌++◌, length, slice_index}
use Rattle.coap_message.specs.declared.message.Head.{Head}
use Rattle.coap_message.specs.declared.options.Opt.{Opt}
use Rattle.coap_message.specs.Kind.{kind_number}
use Rattle.coap_message.specs.Options.{AreOptions}
use Rattle.coap_message.specs.Message.{Message, IsBareIfEmpty}

-- A delta or a length is encoded as four bits and the bytes that extend them: 0 to 12 as the four
-- bits alone; from 13 on as 13 and one byte, which holds the number less 13; from 269 on as 14 and
-- two bytes, which hold the number less 269. The four bits 15 are not used.
abbrev pub Extends : ℕ → List ℕ → ℕ → Type 0
Extends bits [] n = (bits ≡ n) × (n < 13)
Extends bits (a ∷ []) n = (bits ≡ 13) × (a < 256) × (n ≡ a + 13)
Extends bits (a ∷ b ∷ []) n = (bits ≡ 14) × (a < 256) × (b < 256) × (n ≡ 256 * a + b + 269)
Extends bits (a ∷ b ∷ c ∷ more) n = ⊥

-- An option is encoded after one with the number `before` (0 for the first): a byte with four bits
-- each for the delta of its number and the length of its value, the bytes that extend them, and the
-- value.
pub record SpellsOption (before : ℕ) (bytes : List ℕ) (option : Opt) : Type 0 where
  pub delta : ℕ
  pub delta_bits : ℕ
  pub delta_more : List ℕ
  pub length_bits : ℕ
  pub length_more : List ℕ
  pub number : option.number ≡ before + delta
  pub delta_is : Extends delta_bits delta_more delta
  pub length_is : Extends length_bits length_more (length option.value)
  pub bytes_are :
      bytes ≡ (16 * delta_bits + length_bits) ∷ (delta_more ++ (length_more ++ option.value))

-- options are encoded one after the other
abbrev pub SpellsOptions : ℕ → List ℕ → List Opt → Type 0
SpellsOptions before bytes [] = bytes ≡ []
SpellsOptions before bytes (o ∷ os) =
    (first others : List ℕ)
    × (bytes ≡ first ++ others)
    × SpellsOption before first o
    × SpellsOptions o.number others os

-- a payload is written after the marker; if there is no payload there is no marker
abbrev pub SpellsPayload : List ℕ → List ℕ → Type 0
SpellsPayload bytes [] = bytes ≡ []
SpellsPayload bytes (p ∷ ps) = bytes ≡ 255 ∷ p ∷ ps

-- what a message is, in addition to the ranges given by the types of its fields: a code below 256,
-- an id below 65,536, values of bytes
pub record IsMessage (m : Message) : Type 0 where
  pub token : length m.token ≤ 8
  pub options : AreOptions 0 m.options
  pub bare : IsBareIfEmpty m

-- version 1, the type and the length of the token; the code; and the id, its high byte first
abbrev pub header_spelling : Head → ℕ → List ℕ
header_spelling head token_length =
    (64 + 16 * kind_number head.kind + token_length) ∷ head.code.0
    ∷ head.id / 256 ∷ head.id % 256 ∷ []

-- the header of a message
abbrev pub header : Message → List ℕ
header m = header_spelling (record { kind = m.kind; code = m.code; id = m.id }) (length m.token)

-- the bytes encode the message
pub record Spells (bytes : List ℕ) (m : Message) : Type 0 where
  pub message : IsMessage m
  pub options : List ℕ
  pub payload : List ℕ
  pub options_are : SpellsOptions 0 options m.options
  pub payload_is : SpellsPayload payload m.payload
  pub bytes_are : bytes ≡ header m ++ (m.token ++ (options ++ payload))

-- the bytes encode no message
abbrev pub SpellsNone : List ℕ → Type 0
SpellsNone bytes = (m : Message) → Spells bytes m → ⊥

-- a datagram's version is in the two high bits of its first byte
abbrev pub IsVersionOne : List ℕ → Type 0
IsVersionOne bytes = slice_index bytes 0 / 64 ≡ 1

-- ---- the function

-- the four bits for a delta or a length
abbrev pub bits_of : ℕ → ℕ
bits_of n = if nat_lt n 13 then n else (if nat_lt n 269 then 13 else 14)

-- and the bytes that extend them
abbrev pub more_of : ℕ → List ℕ
more_of n =
    if nat_lt n 13
    then []
    else (if nat_lt n 269 then (n - 13) ∷ [] else (n - 269) / 256 ∷ (n - 269) % 256 ∷ [])

-- an option after one with the number `before`
unfoldable pub option_spelling : ℕ → Opt → List ℕ
option_spelling before o =
    (16 * bits_of (o.number - before) + bits_of (length o.value))
    ∷ (more_of (o.number - before) ++ (more_of (length o.value) ++ o.value))

-- options, the first after one with the number `before`
abbrev pub options_spelling : ℕ → List Opt → List ℕ
options_spelling before [] = []
options_spelling before (o ∷ os) = option_spelling before o ++ options_spelling o.number os

-- a payload after its marker, if there is one
abbrev pub payload_spelling : List ℕ → List ℕ
payload_spelling [] = []
payload_spelling (p ∷ ps) = 255 ∷ p ∷ ps

-- what a message begins with: the header and the token
abbrev pub head_spelling : Head → List ℕ → List ℕ
head_spelling head token = header_spelling head (length token) ++ token

-- the unique encoding of a message
unfoldable pub spelling : Message → List ℕ
spelling m = header m ++ (m.token ++ (options_spelling 0 m.options ++ payload_spelling m.payload))

-- an encoded message with its Message ID replaced
unfoldable pub with_id : ℕ → List ℕ → List ℕ
with_id id [] = []
with_id id (a ∷ []) = a ∷ []
with_id id (a ∷ b ∷ []) = a ∷ b ∷ []
with_id id (a ∷ b ∷ c ∷ []) = a ∷ b ∷ c ∷ []
with_id id (a ∷ b ∷ c ∷ d ∷ rest) = a ∷ b ∷ id / 256 ∷ id % 256 ∷ rest

-- ---- the length of the encoding

abbrev pub more_length : ℕ → ℕ
more_length n = if nat_lt n 13 then 0 else (if nat_lt n 269 then 1 else 2)

abbrev pub option_length : ℕ → Opt → ℕ
option_length before o =
    1 + more_length (o.number - before) + more_length (length o.value) + length o.value

abbrev pub options_length : ℕ → List Opt → ℕ
options_length before [] = 0
options_length before (o ∷ os) = option_length before o + options_length o.number os

abbrev pub payload_length : List ℕ → ℕ
payload_length [] = 0
payload_length (p ∷ ps) = 1 + length (p ∷ ps)

abbrev pub spelling_length : Message → ℕ
spelling_length m = 4 + length m.token + options_length 0 m.options + payload_length m.payload
