-- Endpoints as texts: `a.b.c.d:port`, and `[g:g:g:g:g:g:g:g]:port`.
use Rattle.std.specs.Prelude.{◌≡◌, ◌==◌, ◌/◌, ◌%◌, ℕ, false, List, [], ◌∷◌, ◌++◌, length, map, codes, Option, Some, None, option_map, if◌then◌else◌}
use Rattle.std.specs.Borrow.{Bor}
use Rattle.std.specs.Fmt.{decimal, digit_glyph}
use Rattle.std.specs.List.{AllZip, join_with_byte, slice_split}
use Rattle.std.specs.Net.Addr.{octets_of}
use Rattle.std.specs.Net.Grammar.{IsDotted, IsGroup}
use Rattle.std.specs.Net.Reader.{read_byte}
use Rattle.coap_endpoint.specs.declared.endpoint.Endpoint.{Endpoint}
use Rattle.coap_endpoint.specs.declared.endpoint.Ip.{Ip}
use Rattle.coap_endpoint.specs.declared.endpoint.Ip.TheVariants.{V4, V6}
use Rattle.coap_uri.specs.Address.{address_text, ipv4_of}
use Rattle.coap_target.specs.RouteTexts.{all_of}
use Rattle.coap_message.specs.Reading.{◌>>=◌}
use Rattle.coap_lines.specs.Texts.{colon, cut, dot, left_bracket, right_bracket, space}
use Rattle.coap_lines.specs.Numbers.{IsNumber, group_of, number_before, number_of}

-- eight groups of one to four hexadecimal digits each, with colons between them
abbrev pub AreGroups : List ℕ → List ℕ → Type 0
AreGroups text segments = (groups : List (List ℕ)) × (text ≡ join_with_byte colon groups)
    × AllZip IsGroup groups segments × (length segments ≡ 8)

-- a text encodes an address: four numbers of 0 to 255 without leading zeros, with dots between
-- them, or eight groups in brackets
abbrev pub IsAddress : List ℕ → Ip → Type 0
IsAddress text (V4 octets) = IsDotted text octets
IsAddress text (V6 octets) = (inner segments : List ℕ)
    × (text ≡ left_bracket ∷ inner ++ right_bracket ∷ []) × AreGroups inner segments
    × (octets ≡ octets_of segments)

-- a text encodes an endpoint: an address, a colon, and a port of 0 to 65,535 without leading zeros
abbrev pub IsEndpoint : List ℕ → Endpoint → Type 0
IsEndpoint text endpoint = (address port : List ℕ) × (text ≡ address ++ colon ∷ port)
    × IsAddress address endpoint.ip × IsNumber 65535 port endpoint.port

abbrev pub endpoint_at : Ip → ℕ → Endpoint
endpoint_at ip port = record { ip = ip; port = port }

-- the endpoint of an IPv4 address and a port
unfoldable pub v4_endpoint : List ℕ → Option Endpoint
v4_endpoint text = do
  parts ← cut colon text
  ip ← option_map V4 (ipv4_of parts.0)
  port ← number_of 65535 parts.1
  Some (endpoint_at ip port)

-- the numbers, if there are eight
abbrev pub if_eight : List ℕ → Option (List ℕ)
if_eight segments = if length segments == 8 then Some segments else None

-- the eight numbers of the groups of an IPv6 address
unfoldable pub segments_read : List ℕ → Option (List ℕ)
segments_read text = all_of (map group_of (slice_split (λ b. b == colon) text)) >>= if_eight

-- the endpoint of an IPv6 address and a port, after the opening bracket
unfoldable pub v6_endpoint : List ℕ → Option Endpoint
v6_endpoint text = do
  parts ← cut right_bracket text
  segments ← segments_read parts.0
  after ← read_byte colon parts.1
  port ← number_of 65535 after
  Some (endpoint_at (V6 (octets_of segments)) port)

-- the endpoint that a text encodes
abbrev pub endpoint_of : List ℕ → Option Endpoint
endpoint_of [] = None
endpoint_of (b ∷ text) = if b == left_bracket then v6_endpoint text else v4_endpoint (b ∷ text)

-- the endpoint and the text that a call returns, which is borrowed
abbrev pub source_seen : Option (Endpoint × Bor (List ℕ)) → Option (Endpoint × List ℕ)
source_seen found = option_map (λ p. (p.0, p.1.now)) found

-- the endpoint of an IPv4 address and a port before a space, and what follows that space
unfoldable pub v4_source : List ℕ → Option (Endpoint × List ℕ)
v4_source text = do
  a ← number_before dot 255 text
  b ← number_before dot 255 a.1
  c ← number_before dot 255 b.1
  d ← number_before colon 255 c.1
  port ← number_before space 65535 d.1
  Some (endpoint_at (V4 (a.0 ∷ b.0 ∷ c.0 ∷ d.0 ∷ [])) port.0, port.1)

-- the same of an IPv6 address, after the opening bracket
unfoldable pub v6_source : List ℕ → Option (Endpoint × List ℕ)
v6_source text = do
  parts ← cut space text
  from ← v6_endpoint parts.0
  Some (from, parts.1)

-- the endpoint before a space, and what follows that space
abbrev pub source_of : List ℕ → Option (Endpoint × List ℕ)
source_of [] = None
source_of (b ∷ text) = if b == left_bracket then v6_source text else v4_source (b ∷ text)

-- the last three hexadecimal digits of a number, in lower case
abbrev pub three_digits : ℕ → List ℕ
three_digits n =
    digit_glyph false (n / 256) ∷ digit_glyph false (n / 16 % 16) ∷ digit_glyph false (n % 16) ∷ []

-- the text of an endpoint
abbrev pub endpoint_text : Endpoint → List ℕ
endpoint_text endpoint = address_text endpoint.ip ++ codes ":" ++ decimal endpoint.port
