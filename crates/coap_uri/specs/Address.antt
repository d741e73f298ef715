-- Addresses written as text.
use Rattle.std.specs.Prelude.{◌≡◌, ℕ, zero, suc, ◌-◌, ◌%◌, ◌<◌, Bool, false, ◌&&◌, ◌||◌, ◌==◌, List, [], ◌∷◌, ◌++◌, get_or, length, slice_index, slice_range, map, codes, Option, Some, None, Result, Ok, Err, option_map, option_and_then, if◌then◌else◌}
use Rattle.std.specs.Option.{option_or}
use Rattle.std.specs.List.{AllByRecursion, join_with_byte, list_all}
use Rattle.std.specs.Char.{is_digit}
use Rattle.std.specs.Fmt.{digits}
use Rattle.std.specs.Net.Addr.{ipv6_octets, segments_of}
use Rattle.std.specs.Net.Reader.{whole_value, read_ipv4}
use Rattle.std.specs.Net.Text.{ipv4_text}
use Rattle.url.specs.declared.host.Host.{Host}
use Rattle.url.specs.declared.host.Host.TheVariants.{Domain, Ipv4, Ipv6}
use Rattle.url.specs.Ascii.{colon, dot, left_bracket, right_bracket}
use Rattle.url.specs.Parser.{parse_url}
use Rattle.url.specs.Parts.{Parts, nonempty_host}
use Rattle.coap_endpoint.specs.declared.endpoint.Ip.{Ip}
use Rattle.coap_endpoint.specs.declared.endpoint.Ip.TheVariants.{V4, V6}

-- the four bytes of an IPv4 address in dotted-decimal form, without leading zeros (RFC 3986, 3.2.2)
unfoldable pub ipv4_of : List ℕ → Option (List ℕ)
ipv4_of text = whole_value (read_ipv4 text)

-- a byte that may occur between the brackets of an IPv6 address: hexadecimal digit, colon or dot
abbrev pub is_address_byte : ℕ → Bool
is_address_byte b = is_digit b 16 || (b == colon || b == dot)

-- what is between the brackets of a text in brackets
abbrev pub inner_of : List ℕ → Option (List ℕ)
inner_of text =
    if (slice_index text 0 == left_bracket) && (slice_index text (length text - 1) == right_bracket)
    then Some (slice_range text 1 (length text - 1))
    else None

-- so many bytes; the octets of an address are exactly as many
abbrev pub bytes : ℕ → List ℕ → List ℕ
bytes zero octets = []
bytes (suc n) [] = 0 ∷ bytes n []
bytes (suc n) (octet ∷ octets) = (octet % 256) ∷ bytes n octets

-- the sixteen bytes of a host that is an IPv6 address
abbrev pub ipv6_host : Option (Host (List ℕ)) → Option (List ℕ)
ipv6_host None = None
ipv6_host (Some (Domain name)) = None
ipv6_host (Some (Ipv4 address)) = None
ipv6_host (Some (Ipv6 address)) = Some (bytes 16 (ipv6_octets address))

abbrev pub ipv6_read : {E : Type 0} → Result Parts E → Option (List ℕ)
ipv6_read (Ok url) = ipv6_host (nonempty_host url)
ipv6_read (Err e) = None

-- the URI of a host in brackets
abbrev pub bracketed_uri : List ℕ → List ℕ
bracketed_uri inner = codes "coap://[" ++ inner ++ codes "]"

-- what is between brackets is an IPv6 address if `url` reads it as the host of a URI
unfoldable pub ipv6_between : List ℕ → Option (List ℕ)
ipv6_between inner =
    if list_all is_address_byte inner
    then ipv6_read (parse_url None (bracketed_uri inner))
    else None

-- the sixteen bytes of an IPv6 address in brackets
abbrev pub ipv6_of : List ℕ → Option (List ℕ)
ipv6_of text = option_and_then ipv6_between (inner_of text)

-- the address that a text is: IPv4, or IPv6 in brackets (RFC 3986, 3.2.2)
abbrev pub ip_of : List ℕ → Option Ip
ip_of text = option_or (option_map V4 (ipv4_of text)) (option_map V6 (ipv6_of text))

-- an address has four bytes, or sixteen
abbrev pub IsIp : Ip → Type 0
IsIp (V4 octets) = (length octets ≡ 4) × AllByRecursion (λ b. b < 256) octets
IsIp (V6 octets) = (length octets ≡ 16) × AllByRecursion (λ b. b < 256) octets

-- ---- as they are written

-- a group of an IPv6 address, in lower case without leading zeros
abbrev pub group_text : ℕ → List ℕ
group_text n = digits 16 false n

-- the groups in brackets, with colons between them; none is left out
abbrev pub groups_text : List ℕ → List ℕ
groups_text segments = codes "[" ++ join_with_byte colon (map group_text segments) ++ codes "]"

-- four groups, with colons between them
abbrev pub four_groups : ℕ → ℕ → ℕ → ℕ → List ℕ
four_groups a b c d =
    group_text a ++ codes ":" ++ group_text b ++ codes ":"
    ++ group_text c ++ codes ":" ++ group_text d

-- eight groups in brackets, one after the other
abbrev pub eight_groups : List ℕ → List ℕ
eight_groups s =
    codes "[" ++ four_groups (get_or s 0 0) (get_or s 1 0) (get_or s 2 0) (get_or s 3 0)
    ++ codes ":" ++ four_groups (get_or s 4 0) (get_or s 5 0) (get_or s 6 0) (get_or s 7 0)
    ++ codes "]"

-- the text of an address: four numbers with dots between them, or eight groups in brackets
abbrev pub address_text : Ip → List ℕ
address_text (V4 octets) = ipv4_text octets
address_text (V6 octets) = groups_text (segments_of octets)
