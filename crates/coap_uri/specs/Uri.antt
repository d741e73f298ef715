-- What the text of a `coap` URI means (RFC 7252, 6.1 and 6.4), in terms of what `url` reads in it.
use Rattle.std.specs.Prelude.{ℕ, Bool, true, not, ◌&&◌, ◌==◌, nat_le, List, [], ◌∷◌, length, drop, map, codes, bytes_eq, Option, Some, None, is_some, unwrap_or, Result, Ok, Err, if◌then◌else◌}
use Rattle.std.specs.List.{list_all, slice_split}
use Rattle.std.specs.Char.{to_ascii_lowercase}
use Rattle.std.specs.Net.Addr.{ipv4_octets, ipv6_octets}
use Rattle.percent_encoding.specs.Percent.{percent_decode}
use Rattle.url.specs.declared.error.ParseError.{ParseError}
use Rattle.url.specs.declared.host.Host.{Host}
use Rattle.url.specs.declared.host.Host.TheVariants.{Domain, Ipv4, Ipv6}
use Rattle.url.specs.Ascii.{slash}
use Rattle.url.specs.Parser.{parse_url}
use Rattle.url.specs.Parts.{Parts, nonempty_host, has_credentials}
use Rattle.coap_endpoint.specs.declared.endpoint.Ip.{Ip}
use Rattle.coap_endpoint.specs.declared.endpoint.Ip.TheVariants.{V4, V6}
use Rattle.coap_uri.specs.declared.uri.HostPart.{HostPart}
use Rattle.coap_uri.specs.declared.uri.HostPart.TheVariants.{Name, Addr}
use Rattle.coap_uri.specs.declared.uri.UriParts.{UriParts}
use Rattle.coap_uri.specs.declared.error.UriError.{UriError}
use Rattle.coap_uri.specs.declared.error.UriError.TheVariants.{Bad, Scheme}
use Rattle.coap_uri.specs.Address.{address_text, bytes, ipv4_of, ip_of}

-- the parts of a text between separators, if there is a text
abbrev pub parts_left : ℕ → Option (List ℕ) → List (List ℕ)
parts_left separator None = []
parts_left separator (Some text) = slice_split (λ b. b == separator) text

-- the parts of a text between separators, each percent-decoded; there is at least one
abbrev pub decoded_parts : ℕ → List ℕ → List (List ℕ)
decoded_parts separator text = map percent_decode (slice_split (λ b. b == separator) text)

-- the segments of a path: those after its first slash, or none if nothing follows it
abbrev pub segments_after : List ℕ → List (List ℕ)
segments_after [] = []
segments_after (b ∷ rest) = decoded_parts slash (b ∷ rest)

abbrev pub path_parts : List ℕ → List (List ℕ)
path_parts path = segments_after (drop 1 path)

-- the parts of a query between `&`; an empty query has one, which is empty
abbrev pub query_parts : Option (List ℕ) → List (List ℕ)
query_parts None = []
query_parts (Some query) = decoded_parts 0x26 query

-- the text of a host: the IPv4 address that it is, or a name in ASCII lower case, then decoded
abbrev pub name_or : Option (List ℕ) → List ℕ → HostPart
name_or (Some octets) text = Addr (V4 octets)
name_or None text = Name (percent_decode (map to_ascii_lowercase text))

abbrev pub host_part : Host (List ℕ) → HostPart
host_part (Domain text) = name_or (ipv4_of text) text
host_part (Ipv4 address) = Addr (V4 (bytes 4 (ipv4_octets address)))
host_part (Ipv6 address) = Addr (V6 (bytes 16 (ipv6_octets address)))

-- a host on its own, as in Uri-Host (RFC 7252, 5.10.1), in ASCII lower case: an address, or
-- otherwise a name, which isn't decoded
abbrev pub host_or : Option Ip → List ℕ → HostPart
host_or (Some ip) lower = Addr ip
host_or None lower = Name lower

abbrev pub host_of : List ℕ → HostPart
host_of text = let lower : List ℕ = map to_ascii_lowercase text in host_or (ip_of lower) lower

-- a host as text, as Uri-Host has it: a name, or an address (RFC 7252, 5.10.1)
abbrev pub host_text : HostPart → List ℕ
host_text (Name name) = name
host_text (Addr ip) = address_text ip

-- a port is a number from 1 to 65,535
abbrev pub is_port : ℕ → Bool
is_port port = nat_le 1 port && nat_le port 65535

-- hosts, path segments and query parts have at most 255 bytes (RFC 7252, 5.10)
abbrev pub is_short : List ℕ → Bool
is_short bytes = nat_le (length bytes) 255

abbrev pub is_short_host : HostPart → Bool
is_short_host (Name name) = is_short name
is_short_host (Addr ip) = true

abbrev pub are_short : UriParts → Bool
are_short uri =
    is_short_host uri.host && (list_all is_short uri.path && list_all is_short uri.query)

-- the port, or 5683 if none is given (RFC 7252, 6.1)
abbrev pub port_part : Option ℕ → ℕ
port_part port = unwrap_or port 5683

-- no user name, no password and no fragment, which `coap` URIs don't have (RFC 7252, 6.1 and 6.4)
abbrev pub is_plain : Parts → Bool
is_plain url = not (has_credentials url) && not (is_some url.fragment)

-- the parts of a URI with this host, decoded
abbrev pub parts_of : Parts → Host (List ℕ) → UriParts
parts_of url host =
    record {
      host = host_part host;
      port = port_part url.port;
      path = path_parts url.path;
      query = query_parts url.query;
    }

-- the URI has a host, and nothing that a request can't carry
abbrev pub with_host : Parts → Option (Host (List ℕ)) → Result UriParts UriError
with_host url None = Err Bad
with_host url (Some host) =
    let uri : UriParts = parts_of url host in
    if is_plain url && (is_port uri.port && are_short uri) then Ok uri else Err Bad

-- what `url` rejects isn't a URI
abbrev pub url_or_bad : Result Parts ParseError → Result Parts UriError
url_or_bad (Ok url) = Ok url
url_or_bad (Err e) = Err Bad

abbrev pub uri_read : Result Parts UriError → Result UriParts UriError
uri_read (Err e) = Err e
uri_read (Ok url) =
    if bytes_eq url.scheme (codes "coap") then with_host url (nonempty_host url) else Err Scheme

-- the parts of a `coap` URI, or why the text isn't one
unfoldable pub uri_of : List ℕ → Result UriParts UriError
uri_of text = uri_read (url_or_bad (parse_url None text))
