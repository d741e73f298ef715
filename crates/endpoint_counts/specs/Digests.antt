-- Digests of endpoints, by which they are found.
use Rattle.std.specs.Prelude.{ℕ, ◌+◌, ◌*◌, ◌%◌, ◌^◌}
use Rattle.std.specs.Int.{w32, from_be_bytes}
use Rattle.std.specs.Hash.{HashWrites}
use Rattle.std.specs.Hash.DefaultHasher as sip
use Rattle.std.specs.List.{fold}
use Rattle.coap_endpoint.specs.contracts.endpoint.EndpointHash.TheImpl as endpoints
use Rattle.coap_endpoint.specs.declared.endpoint.Endpoint.{Endpoint}
use Rattle.coap_endpoint.specs.declared.endpoint.Ip.{Ip}
use Rattle.coap_endpoint.specs.declared.endpoint.Ip.TheVariants.{V4, V6}

-- what a hasher makes of what is written into it
abbrev pub digest_of : HashWrites → ℕ
digest_of writes = sip.finish (fold sip.write sip.initial writes)

-- the digest of an endpoint: an IPv4 address and a port are one number, which is spread by
-- multiplication; of others a hasher makes one
abbrev pub digest_with : Ip → Endpoint → ℕ
digest_with (V4 octets) at =
    ((from_be_bytes w32 octets * 65536 + at.port) * 11400714819323198485) % 2 ^ 64
digest_with (V6 octets) at = digest_of ((endpoints.ghosts).hash_input at)

abbrev pub digest_of_endpoint : Endpoint → ℕ
digest_of_endpoint at = digest_with at.ip at
