-- Endpoints that are one are equal.
use Rattle.std.proofs.Common.{◌≡◌, true, refl}
use Rattle.coap_endpoint.specs.declared.endpoint.Endpoint.{Endpoint}
use Rattle.coap_endpoint.specs.Endpoint.{same_endpoint}
use Rattle.coap_endpoint.proofs.Equality.{Tells-endpoint}
use Rattle.endpoint_counts.specs.Endpoints.{is_one}

pub one-same : (a b : Endpoint) → is_one a b ≡ same_endpoint a b
one-same a b = refl

pub one-only : (a b : Endpoint) → is_one a b ≡ true → a ≡ b
one-only a b e = Tells-endpoint.only a b e
