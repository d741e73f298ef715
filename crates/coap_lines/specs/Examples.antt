-- Endpoints and a message, for examples.
use Rattle.std.specs.Prelude.{ℕ, List, [], ◌∷◌}
use Rattle.coap_endpoint.specs.declared.endpoint.Endpoint.{Endpoint}
use Rattle.coap_endpoint.specs.declared.endpoint.Ip.TheVariants.{V4, V6}
use Rattle.coap_lines.specs.Endpoints.{endpoint_at}

abbrev pub home : Endpoint
home = endpoint_at (V4 (127 ∷ 0 ∷ 0 ∷ 1 ∷ [])) 40001

abbrev pub eight : Endpoint
eight = endpoint_at (V6 (0 ∷ 1 ∷ 0 ∷ 2 ∷ 0 ∷ 3 ∷ 0 ∷ 4 ∷ 0 ∷ 5 ∷ 0 ∷ 6 ∷ 0 ∷ 7 ∷ 0 ∷ 8 ∷ [])) 5683

abbrev pub sixth : Endpoint
sixth = endpoint_at
    (V6 (0x20 ∷ 0x01 ∷ 0x0D ∷ 0xB8 ∷ 0 ∷ 0 ∷ 0 ∷ 0 ∷ 0 ∷ 0 ∷ 0 ∷ 0 ∷ 0xAB ∷ 0xCD ∷ 0 ∷ 0xEF ∷ []))
    0

-- a GET for the path `t`, without a token
abbrev pub get : List ℕ
get = 0x50 ∷ 0x01 ∷ 0x00 ∷ 0x07 ∷ 0xB1 ∷ 0x74 ∷ []
