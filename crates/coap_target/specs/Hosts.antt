-- The hosts of requests: a proxy's own names, and the hosts that it knows.
use Rattle.std.specs.Prelude.{ℕ, Bool, nat_eq, List, Option, find, option_map}
use Rattle.std.specs.List.{list_any}
use Rattle.std.specs.Cmp.Lexicographic.{pointwise}
use Rattle.coap_endpoint.specs.declared.endpoint.Ip.{Ip}
use Rattle.coap_target.specs.declared.map.KnownHost.{KnownHost}
use Rattle.coap_uri.specs.declared.uri.HostPart.{HostPart}
use Rattle.coap_uri.specs.Uris.{same_host}

-- a host is one of a proxy's own names
abbrev pub is_own : List HostPart → HostPart → Bool
is_own names host = list_any (λ name. same_host name host) names

-- the address of a name: that of the first host with this name
abbrev pub address_of : List KnownHost → List ℕ → Option Ip
address_of hosts name = option_map (λ h. h.ip) (find (λ h. pointwise nat_eq h.name name) hosts)
