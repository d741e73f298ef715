-- How endpoints stand in a line, and the URIs of targets (RFC 7252, 6.1): nothing that a peer chose
-- begins a word, a line, or another part of the URI.
use Rattle.std.specs.Prelude.{ℕ, ◌+◌, ◌-◌, ◌/◌, ◌%◌, ◌==◌, ◌&&◌, ◌||◌, Bool, false, nat_le, nat_lt, if◌then◌else◌, List, [], ◌∷◌, ◌++◌, codes, length, slice_index, slice_range, unwrap_or, Option, None, Some}
use Rattle.std.specs.Char.{is_ascii_alphanumeric}
use Rattle.std.specs.Fmt.{decimal, digits}
use Rattle.std.specs.List.{flat_map, list_any}
use Rattle.std.specs.Net.Addr.{segments_of}
use Rattle.coap_endpoint.specs.declared.endpoint.Endpoint.{Endpoint}
use Rattle.coap_endpoint.specs.declared.endpoint.Ip.{Ip}
use Rattle.coap_endpoint.specs.declared.endpoint.Ip.TheVariants.{V4, V6}
use Rattle.coap_endpoint.specs.declared.target.Target.{Target}

-- ---- endpoints

-- four numbers, with dots between them
abbrev pub octets_text : List ℕ → List ℕ
octets_text o =
    decimal (slice_index o 0) ++ codes "." ++ decimal (slice_index o 1) ++ codes "."
    ++ decimal (slice_index o 2) ++ codes "." ++ decimal (slice_index o 3)

-- a group of an IPv6 address in hexadecimal digits
abbrev pub group_text : ℕ → List ℕ
group_text n = digits 16 false n

-- eight groups in brackets, with colons between them
abbrev pub first_groups : ℕ → ℕ → ℕ → ℕ → List ℕ
first_groups a b c d =
    codes "[" ++ group_text a ++ codes ":" ++ group_text b ++ codes ":" ++ group_text c
    ++ codes ":" ++ group_text d ++ codes ":"

abbrev pub last_groups : ℕ → ℕ → ℕ → ℕ → List ℕ
last_groups e f g h =
    group_text e ++ codes ":" ++ group_text f ++ codes ":" ++ group_text g ++ codes ":"
    ++ group_text h ++ codes "]"

abbrev pub segments_text : List ℕ → List ℕ
segments_text s =
    first_groups (slice_index s 0) (slice_index s 1) (slice_index s 2) (slice_index s 3)
    ++ last_groups (slice_index s 4) (slice_index s 5) (slice_index s 6) (slice_index s 7)

abbrev pub groups_text : List ℕ → List ℕ
groups_text octets = segments_text (segments_of octets)

abbrev pub ip_text : Ip → List ℕ
ip_text (V4 octets) = octets_text octets
ip_text (V6 octets) = groups_text octets

-- an address, a colon, and the port
abbrev pub endpoint_text : Endpoint → List ℕ
endpoint_text e = ip_text e.ip ++ codes ":" ++ decimal e.port

-- ---- what peers choose

-- what stands for itself beside letters and digits: in a name, in an IPv6 address, and in a part of
-- a path or of a query (RFC 3986, 3.2.2, 3.3 and 3.4)
abbrev pub plain_in_names : List ℕ
plain_in_names = codes "-._~!$&'()*+,;="

abbrev pub plain_in_addresses : List ℕ
plain_in_addresses = codes ":."

abbrev pub plain_in_parts : List ℕ
plain_in_parts = codes "-._~!$'()*+,;=:@"

-- a hexadecimal digit, in upper case
abbrev pub upper_hex_digit : ℕ → ℕ
upper_hex_digit n = if nat_lt n 10 then 48 + n else 55 + n

-- a byte, or a percent sign and its two hexadecimal digits
abbrev pub escape : List ℕ → ℕ → List ℕ
escape plain b =
    if is_ascii_alphanumeric b || list_any (λ p. p == b) plain then b ∷ []
    else 0x25 ∷ upper_hex_digit (b / 16) ∷ upper_hex_digit (b % 16) ∷ []

abbrev pub escaped : List ℕ → List ℕ → List ℕ
escaped plain bytes = flat_map (escape plain) bytes

-- ---- URIs

-- it begins and ends with brackets, as an IPv6 address does
abbrev pub is_bracketed : List ℕ → Bool
is_bracketed host =
    nat_le 2 (length host)
    && (slice_index host 0 == 0x5B) && (slice_index host (length host - 1) == 0x5D)

abbrev pub host_text : List ℕ → List ℕ
host_text host =
    if is_bracketed host
    then codes "[" ++ escaped plain_in_addresses (slice_range host 1 (length host - 1))
    ++ codes "]"
    else escaped plain_in_names host

-- behind a colon, unless it is the default port (RFC 7252, 6.1)
abbrev pub port_text : ℕ → List ℕ
port_text port = if port == 5683 then [] else codes ":" ++ decimal port

-- the host that a target is requested by, or its address
abbrev pub host_or_ip : Option (List ℕ) → Ip → List ℕ
host_or_ip None ip = ip_text ip
host_or_ip (Some host) ip = host_text host

abbrev pub authority_text : Target → List ℕ
authority_text t =
    codes "coap://" ++ host_or_ip t.host t.at.ip ++ port_text (unwrap_or t.port t.at.port)

-- parts, the first behind a mark and the next ones behind another
abbrev pub parts_text : ℕ → ℕ → List (List ℕ) → List ℕ
parts_text first next [] = []
parts_text first next (part ∷ parts) =
    (first ∷ []) ++ escaped plain_in_parts part ++ parts_text next next parts

abbrev pub path_text : List (List ℕ) → List ℕ
path_text [] = codes "/"
path_text (part ∷ parts) = parts_text 0x2F 0x2F (part ∷ parts)

-- the URI of a target
abbrev pub target_text : Target → List ℕ
target_text t = authority_text t ++ path_text t.path ++ parts_text 0x3F 0x26 t.query
