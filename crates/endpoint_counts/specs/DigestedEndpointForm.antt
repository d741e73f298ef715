-- An endpoint with its digest is given back by the endpoint.
use Rattle.std.specs.Prelude.{◌≡◌}
use Rattle.std.proofs.Common.{sym}
use Rattle.coap_endpoint.specs.declared.endpoint.Endpoint.{Endpoint}
use Rattle.endpoint_counts.specs.declared.digested_endpoint.DigestedEndpoint.TheInside.{Inside}
use Rattle.endpoint_counts.specs.Digests.{digest_of_endpoint}

-- an endpoint, with its digest
abbrev pub with_digest : Endpoint → Inside
with_digest at = record { digest = digest_of_endpoint at; at = at }

-- that of an endpoint with its digest is that
pub one_form : (p : Inside) → p.digest ≡ digest_of_endpoint p.at → with_digest p.at ≡ p
one_form p is = λ i. record { digest = sym is i; at = p.at }
