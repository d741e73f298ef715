-- When hosts and URIs are equal, part by part.
use Rattle.std.specs.Prelude.{Bool, false, nat_eq, ◌&&◌, ◌==◌}
use Rattle.std.specs.Cmp.Lexicographic.{pointwise}
use Rattle.coap_endpoint.specs.Endpoint.{same_ip}
use Rattle.coap_endpoint.specs.Equality.{same_parts}
use Rattle.coap_uri.specs.declared.uri.HostPart.{HostPart}
use Rattle.coap_uri.specs.declared.uri.HostPart.TheVariants.{Name, Addr}
use Rattle.coap_uri.specs.declared.uri.UriParts.{UriParts}

abbrev pub same_host : HostPart → HostPart → Bool
same_host (Name a) (Name b) = pointwise nat_eq a b
same_host (Addr a) (Addr b) = same_ip a b
same_host (Name a) (Addr b) = false
same_host (Addr a) (Name b) = false

abbrev pub same_uri : UriParts → UriParts → Bool
same_uri a b =
    same_host a.host b.host
    && ((a.port == b.port) && (same_parts a.path b.path && same_parts a.query b.query))
