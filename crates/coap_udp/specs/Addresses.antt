-- Endpoints and socket addresses.
use Rattle.std.specs.Prelude.{◌≡◌, ℕ, Bool, true, false, List, ◌∷◌}
use Rattle.std.specs.declared.net.ip_addr.IpAddr.{IpAddr}
use Rattle.std.specs.declared.net.ip_addr.IpAddr.TheVariants as ip
use Rattle.std.specs.Net.Addr.{IsIpv4Mapped, ipv4_octets, ipv6_octets, ipv6_segments, low_octets, segments_of}
use Rattle.coap_endpoint.specs.declared.endpoint.Ip.{Ip}
use Rattle.coap_endpoint.specs.declared.endpoint.Ip.TheVariants.{V4, V6}

-- An IPv4 address is kept as it is, and so is an IPv6 address, except for those in ::ffff:0:0/96,
-- whose last four octets are an IPv4 address.
abbrev pub IsEndpoint : IpAddr → Ip → Type 0
IsEndpoint (ip.V4 a) (V4 octets) = octets ≡ ipv4_octets a
IsEndpoint (ip.V4 a) (V6 octets) = ⊥
IsEndpoint (ip.V6 a) (V4 octets) = IsIpv4Mapped (ipv6_segments a) × (octets ≡ low_octets a)
IsEndpoint (ip.V6 a) (V6 octets) = ¬ (IsIpv4Mapped (ipv6_segments a)) × (octets ≡ ipv6_octets a)

-- the segments of ::ffff:a.b.c.d
abbrev pub mapped : List ℕ → List ℕ
mapped octets = 0 ∷ 0 ∷ 0 ∷ 0 ∷ 0 ∷ 0xFFFF ∷ segments_of octets

-- an IPv4 address for an IPv6 socket (`true`) or for an IPv4 socket
abbrev pub IsByFamily : Bool → List ℕ → IpAddr → Type 0
IsByFamily true octets (ip.V4 a) = ⊥
IsByFamily true octets (ip.V6 a) = ipv6_segments a ≡ mapped octets
IsByFamily false octets (ip.V4 a) = ipv4_octets a ≡ octets
IsByFamily false octets (ip.V6 a) = ⊥

-- what an address is for such a socket
abbrev pub IsAddress : Bool → Ip → IpAddr → Type 0
IsAddress is_ipv6 (V4 octets) a = IsByFamily is_ipv6 octets a
IsAddress is_ipv6 (V6 octets) (ip.V4 a) = ⊥
IsAddress is_ipv6 (V6 octets) (ip.V6 a) = ipv6_segments a ≡ segments_of octets
