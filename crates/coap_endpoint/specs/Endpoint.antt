-- When two endpoints are equal.
use Rattle.std.specs.Prelude.{Bool, false, ◌&&◌, ◌==◌, nat_eq}
use Rattle.std.specs.Cmp.Lexicographic.{pointwise}
use Rattle.coap_endpoint.specs.declared.endpoint.Ip.{Ip}
use Rattle.coap_endpoint.specs.declared.endpoint.Ip.TheVariants.{V4, V6}
use Rattle.coap_endpoint.specs.declared.endpoint.Endpoint.{Endpoint}

abbrev pub same_ip : Ip → Ip → Bool
same_ip (V4 a) (V4 b) = pointwise nat_eq a b
same_ip (V6 a) (V6 b) = pointwise nat_eq a b
same_ip (V4 a) (V6 b) = false
same_ip (V6 a) (V4 b) = false

abbrev pub same_endpoint : Endpoint → Endpoint → Bool
same_endpoint a b = same_ip a.ip b.ip && (a.port == b.port)
