use Rattle.std.proofs.Common.{◌≡◌, ◌<◌, ℕ, length, get_or, ap, sym, ◌∙◌, rules}
use Rattle.coap_endpoint.specs.declared.endpoint.Ip.TheVariants.{V6}
use Rattle.coap_uri.specs.Address.{bytes}
use Rattle.coap_uri.proofs.AddressTexts.{bytes-same}
use Rattle.coap_uri.proofs.address.bytes_of_ipv6.Goals as goal

-- there are as many bytes
all : (c : goal.After-octets) → length c.octets.result ≡ 16
all c = search rules

-- each is one
each : (c : goal.After-octets) (i : ℕ) → get_or c.octets.result i 0 < 256
each c i = search rules

pub returns : goal.returns
returns c = ap V6 (sym (bytes-same 16 c.octets.result (all c) (each c)) ∙ ap (bytes 16) c.octets.ensures)
