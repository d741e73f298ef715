-- Reading a message from its bytes, from left to right (RFC 7252, 3 and 3.1).
use Rattle.std.specs.Prelude.{◌≡◌, ℕ, zero, suc, ◌+◌, ◌*◌, ◌/◌, ◌%◌, ◌==◌, ◌||◌, nat_lt, if◌then◌else◌, List, [], ◌∷◌, length, take, drop, Option, Some, None, option_map, Bool, false, not, Result, Ok, Err, IsOk}
use Rattle.coap_message.specs.declared.error.DecodeError.{DecodeError}
use Rattle.coap_message.specs.declared.error.DecodeError.TheVariants as errors
use Rattle.coap_message.specs.declared.message.Head.{Head}
use Rattle.coap_message.specs.declared.options.Opt.{Opt}
use Rattle.coap_message.specs.Kind.{kind_of}
use Rattle.coap_message.specs.Message.{Message, message_of}

-- a second step, if the first gave something
infixl 10 ◌>>=◌
abbrev pub ◌>>=◌ : {A B : Type 0} → Option A → (A → Option B) → Option B
None >>= f = None
(Some x) >>= f = f x

-- the first byte, and what follows it
abbrev pub one_more : List ℕ → Option (ℕ × List ℕ)
one_more [] = None
one_more (a ∷ rest) = Some (a + 13, rest)

-- the first two bytes, and what follows them
abbrev pub two_more : List ℕ → Option (ℕ × List ℕ)
two_more [] = None
two_more (a ∷ []) = None
two_more (a ∷ b ∷ rest) = Some (256 * a + b + 269, rest)

-- a delta or a length with these four bits, and what follows the bytes that extend it
unfoldable pub extended : ℕ → List ℕ → Option (ℕ × List ℕ)
extended bits bytes =
    if nat_lt bits 13
    then Some (bits, bytes)
    else (if bits == 13 then one_more bytes else (if bits == 14 then two_more bytes else None))

-- the option with this delta whose value is the next `len` bytes, and what follows it
abbrev pub option_cut : ℕ → ℕ → ℕ → List ℕ → Option (Opt × List ℕ)
option_cut before delta len bytes =
    if nat_lt 65535 (before + delta) || nat_lt (length bytes) len
    then None
    else Some (record { number = before + delta; value = take len bytes }, drop len bytes)

-- the option with these four bits for its delta and for its length
abbrev pub option_behind : ℕ → ℕ → ℕ → List ℕ → Option (Opt × List ℕ)
option_behind before delta_bits length_bits bytes = do
  delta ← extended delta_bits bytes
  len ← extended length_bits delta.1
  option_cut before delta.0 len.0 len.1

-- the option after one with the number `before`, and what follows it
unfoldable pub option_at : ℕ → List ℕ → Option (Opt × List ℕ)
option_at before [] = None
option_at before (first ∷ rest) = option_behind before (first / 16) (first % 16) rest

-- whether an option begins here: there is neither the end nor the payload marker
abbrev pub begins_option : List ℕ → Bool
begins_option [] = false
begins_option (first ∷ rest) = not (first == 255)

-- what comes if no option begins: nothing, or the marker and a payload of at least one byte
abbrev pub payload_at : List ℕ → Option (List ℕ)
payload_at [] = Some []
payload_at (marker ∷ []) = None
payload_at (marker ∷ p ∷ ps) = Some (p ∷ ps)

-- a payload without options before it
abbrev pub no_options : List ℕ → List Opt × List ℕ
no_options payload = ([], payload)

-- one more option, in front of what was found
abbrev pub one_option_more : Opt → List Opt × List ℕ → List Opt × List ℕ
one_option_more o found = (o ∷ found.0, found.1)

-- the options from here on, at most this many, and the payload
unfoldable pub options_within : ℕ → ℕ → List ℕ → Option (List Opt × List ℕ)
options_within zero before bytes = option_map no_options (payload_at bytes)
options_within (suc most) before bytes =
    if begins_option bytes
    then (option_at before bytes >>=
    λ o. option_map (one_option_more o.0) (options_within most o.0.number o.1))
    else option_map no_options (payload_at bytes)

-- the options from here on, each of which takes at least one byte, and the payload
abbrev pub options_at : ℕ → List ℕ → Option (List Opt × List ℕ)
options_at before bytes = options_within (length bytes) before bytes

-- what comes after the header of a message
pub record Body : Type 0 where
  pub token : List ℕ
  pub options : List Opt
  pub payload : List ℕ

-- a token of this many bytes, options and a payload
unfoldable pub body_at : ℕ → List ℕ → Option Body
body_at token_length bytes =
    if nat_lt 8 token_length || nat_lt (length bytes) token_length
    then None
    else option_map
    (λ found. record { token = take token_length bytes; options = found.0; payload = found.1 })
    (options_at 0 (drop token_length bytes))

-- nothing follows the code 0.00
abbrev pub body_behind : ℕ → ℕ → List ℕ → Option Body
body_behind zero zero [] = Some (record { token = []; options = []; payload = [] })
body_behind zero zero (b ∷ bytes) = None
body_behind zero (suc n) bytes = None
body_behind (suc code) token_length bytes = body_at token_length bytes

-- what the first four bytes of a datagram say, apart from its version and the length of the token
abbrev pub head_from : ℕ → ℕ → ℕ → ℕ → Head
head_from first code high low =
    record {
      kind = kind_of (first / 16 % 4);
      code = record { 0 = code };
      id = 256 * high + low;
    }

-- the message with a header and what was read after it
abbrev pub with_header : Head → Option Body → Result Message DecodeError
with_header head None = Err errors.Format
with_header head (Some body) = Ok (message_of head body.token body.options body.payload)

-- the message that the bytes encode, or why there is none
unfoldable pub read_message : List ℕ → Result Message DecodeError
read_message (first ∷ code ∷ high ∷ low ∷ rest) =
    if first / 64 == 1
    then with_header (head_from first code high low) (body_behind code (first % 16) rest)
    else Err errors.Version
read_message _ = Err errors.Short

-- the same, if the version is 1
abbrev pub header_at : ℕ → ℕ → ℕ → ℕ → Option Head
header_at first code high low =
    if first / 64 == 1 then Some (head_from first code high low) else None

-- the head of a datagram that has at least four bytes and version 1
abbrev pub head_at : List ℕ → Option Head
head_at (first ∷ code ∷ high ∷ low ∷ rest) = header_at first code high low
head_at _ = None

-- A decoder gives what reading gives, and it runs out of memory only for what can be read.
abbrev pub Decodes : Result Message DecodeError → Result Message DecodeError → Type 0
Decodes (Ok m) read = read ≡ Ok m
Decodes (Err errors.OutOfMemory) read = IsOk read
Decodes (Err errors.Short) read = read ≡ Err errors.Short
Decodes (Err errors.Version) read = read ≡ Err errors.Version
Decodes (Err errors.Format) read = read ≡ Err errors.Format
