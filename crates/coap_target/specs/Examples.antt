-- An endpoint, a map and routes for examples.
use Rattle.std.specs.Prelude.{ℕ, [], ◌∷◌, None}
use Rattle.coap_endpoint.specs.declared.endpoint.Endpoint.{Endpoint}
use Rattle.coap_endpoint.specs.declared.endpoint.Ip.TheVariants.{V4}
use Rattle.coap_target.specs.declared.map.Map.{Map}
use Rattle.coap_target.specs.declared.routes.Routes.{Routes}

-- a port on the loopback address
abbrev pub loopback : ℕ → Endpoint
loopback port = record { ip = V4 (127 ∷ 0 ∷ 0 ∷ 1 ∷ []); port = port }

-- the path `t` is mapped to `coap://127.0.0.1:5690/temp`
abbrev pub fixed_map : Map
fixed_map = record {
  prefix = (0x74 ∷ []) ∷ [];
  origin = record {
    host = None;
    at = loopback 5690;
    port = None;
    path = (0x74 ∷ 0x65 ∷ 0x6D ∷ 0x70 ∷ []) ∷ [];
    query = [];
  };
}

-- no own names, no hosts, that one map, and no next proxy
abbrev pub fixed_routes : Routes
fixed_routes = record { names = []; hosts = []; maps = fixed_map ∷ []; next = None }
