-- Labels of metrics: the part of a proxy that a number is about.
use Rattle.std.specs.Prelude.{◌≢◌, ℕ, ◌==◌, ◌||◌, if◌then◌else◌, List, [], ◌∷◌, ◌++◌, codes}
use Rattle.std.specs.Char.{is_ascii_alphanumeric}
use Rattle.std.specs.Fmt.{decimal}
use Rattle.std.specs.List.{flat_map, list_any}
use Rattle.std.specs.declared.net.ip_addr.IpAddr.{IpAddr}
use Rattle.std.specs.declared.net.ip_addr.IpAddr.TheVariants as system
use Rattle.std.specs.Net.Addr.{ipv4_octets, ipv6_segments, segments_of}
use Rattle.std.specs.Net.Text.{ipv4_text, ipv6_text}
use Rattle.percent_encoding.specs.Percent.{percent_encode_byte}
use Rattle.coap_endpoint.specs.declared.endpoint.Endpoint.{Endpoint}
use Rattle.coap_endpoint.specs.declared.endpoint.Ip.{Ip}
use Rattle.coap_endpoint.specs.declared.endpoint.Ip.TheVariants.{V4, V6}
use Rattle.coap_core.specs.Holders.{table_name}
use Rattle.coap_core.specs.declared.holders.Holder as program_holder
use Rattle.coap_stats.specs.declared.labels.Whose as program_whose
use Rattle.coap_stats.specs.declared.labels.Whose.TheVariants as program

-- ---- prefixes

-- what stands for itself in a segment of a path beside letters and digits (RFC 3986, 2.3)
abbrev pub plain : List ℕ
plain = codes "-._~"

-- a byte, or a percent sign and its two hexadecimal digits
abbrev pub escape : ℕ → List ℕ
escape b =
    if is_ascii_alphanumeric b || list_any (λ p. p == b) plain then b ∷ []
    else percent_encode_byte b

-- a segment behind its slash
abbrev pub segment_text : List ℕ → List ℕ
segment_text bytes = codes "/" ++ flat_map escape bytes

-- a prefix as a path; that of no segments is a slash
abbrev pub path_text : List (List ℕ) → List ℕ
path_text [] = codes "/"
path_text (segment ∷ segments) = flat_map segment_text (segment ∷ segments)

-- a byte that ends no value of a label and no line, and begins no escape there
pub record EndsNothing (b : ℕ) : Type 0 where
  pub quotation : b ≢ 0x22
  pub backslash : b ≢ 0x5C
  pub line_feed : b ≢ 0x0A

-- ---- addresses

-- an address as RFC 5952 writes it
abbrev pub address_text : Ip → List ℕ
address_text (V4 octets) = ipv4_text octets
address_text (V6 octets) = ipv6_text (segments_of octets)

-- an address and a port, with brackets around an IPv6 address
abbrev pub socket_text : Ip → ℕ → List ℕ
socket_text (V4 octets) port = ipv4_text octets ++ codes ":" ++ decimal port
socket_text (V6 octets) port =
    codes "[" ++ ipv6_text (segments_of octets) ++ codes "]:" ++ decimal port

-- the same of an address of the system's
abbrev pub with_port : IpAddr → ℕ → List ℕ
with_port (system.V4 ip) port = ipv4_text (ipv4_octets ip) ++ codes ":" ++ decimal port
with_port (system.V6 ip) port =
    codes "[" ++ ipv6_text (ipv6_segments ip) ++ codes "]:" ++ decimal port

abbrev pub endpoint_text : Endpoint → List ℕ
endpoint_text at = socket_text at.ip at.port

-- ---- parts

-- the part that a number is about: the whole proxy; the maps with a prefix; the requests that go
-- another way; an origin; the origins that aren't counted one by one; or the address that had most
-- of a table
pub data Part : Type 0 where
  All : Part
  Map : List (List ℕ) → Part
  Way : List ℕ → Part
  Origin : Endpoint → Part
  Others : Part
  Holder : List ℕ → Ip → Part

-- a label behind others
abbrev pub label_text : List ℕ → List ℕ → List ℕ
label_text key value = codes "," ++ key ++ codes "=\"" ++ value ++ codes "\""

abbrev pub part_text : Part → List ℕ
part_text All = []
part_text (Map prefix) = label_text (codes "map") (path_text prefix)
part_text (Way word) = label_text (codes "map") word
part_text (Origin at) = label_text (codes "origin") (endpoint_text at)
part_text Others = label_text (codes "origin") (codes "other")
part_text (Holder table ip) =
    label_text (codes "table") table ++ label_text (codes "address") (address_text ip)

abbrev pub holder_part : program_holder.Holder → Part
holder_part h = Holder (table_name h.table) h.ip

-- the part as the program has it
abbrev pub part_seen : program_whose.Whose → Part
part_seen program.All = All
part_seen (program.Map prefix) = Map prefix.now
part_seen (program.Way word) = Way word.now
part_seen (program.Origin at) = Origin at
part_seen program.Others = Others
part_seen (program.Holder h) = holder_part h
