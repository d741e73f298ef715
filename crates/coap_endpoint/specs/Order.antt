-- The order of addresses.
use Rattle.std.specs.Prelude.{ℕ, List}
use Rattle.std.specs.declared.cmp.Ordering.{Ordering}
use Rattle.std.specs.Ordering.{nat_cmp, on, then_cmp}
use Rattle.std.specs.Cmp.Lexicographic.{slice_cmp}
use Rattle.coap_endpoint.specs.declared.endpoint.Ip.{Ip}
use Rattle.coap_endpoint.specs.declared.endpoint.Ip.TheVariants.{V4, V6}

-- the version of the protocol whose addresses are of this form
abbrev pub version : Ip → ℕ
version (V4 a) = 4
version (V6 a) = 6

abbrev pub address : Ip → List ℕ
address (V4 a) = a
address (V6 a) = a

-- IPv4 before IPv6, and each byte by byte
abbrev pub ip_cmp : Ip → Ip → Ordering
ip_cmp = then_cmp (on version nat_cmp) (on address (slice_cmp nat_cmp))
