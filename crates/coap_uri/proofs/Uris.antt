-- Hosts and URIs that compare as equal, part by part, are equal.
use Rattle.std.proofs.Common.{◌≡◌, ◌==◌, true, ap, refl, eq-eqb}
use Rattle.std.proofs.lemmas.Bool.{eqb-true}
use Rattle.coap_endpoint.specs.Equality.{same_parts}
use Rattle.coap_endpoint.proofs.Equality.{Tells, Tells-bytes, Tells-parts, Tells-ip, four, of_four}
use Rattle.coap_uri.specs.declared.uri.HostPart.{HostPart}
use Rattle.coap_uri.specs.declared.uri.HostPart.TheVariants.{Name, Addr}
use Rattle.coap_uri.specs.declared.uri.UriParts.{UriParts}
use Rattle.coap_uri.specs.Uris.{same_host, same_uri}

-- hosts that compare as equal are equal
host-only : (a b : HostPart) → same_host a b ≡ true → a ≡ b
host-only (Name a) (Name b) e = ap Name (Tells-bytes.only a b e)
host-only (Addr a) (Addr b) e = ap Addr (Tells-ip.only a b e)
host-only (Name a) (Addr b) e = absurd cc
host-only (Addr a) (Name b) e = absurd cc

-- and each compares as equal to itself
host-itself : (a : HostPart) → same_host a a ≡ true
host-itself (Name a) = Tells-bytes.itself a
host-itself (Addr a) = Tells-ip.itself a

-- for hosts
pub Tells-host : Tells same_host
Tells-host = record { only = host-only; itself = host-itself }

-- URIs that compare as equal are equal
uri-only : (a b : UriParts) → same_uri a b ≡ true → a ≡ b
uri-only a b e =
    let parts = four (same_host a.host b.host) (a.port == b.port) (same_parts a.path b.path) (same_parts a.query b.query) e in
    let host : a.host ≡ b.host = host-only a.host b.host parts.0 in
    let port : a.port ≡ b.port = eqb-true a.port b.port parts.1 in
    let path : a.path ≡ b.path = Tells-parts.only a.path b.path parts.2 in
    let query : a.query ≡ b.query = Tells-parts.only a.query b.query parts.3 in
    λ i. record { host = host i; port = port i; path = path i; query = query i }

-- for URIs
pub Tells-uri : Tells same_uri
Tells-uri = record { only = uri-only; itself = λ a. of_four (same_host a.host a.host) (a.port == a.port) (same_parts a.path a.path) (same_parts a.query a.query) (host-itself a.host) (eq-eqb a.port a.port refl) (Tells-parts.itself a.path) (Tells-parts.itself a.query) }
