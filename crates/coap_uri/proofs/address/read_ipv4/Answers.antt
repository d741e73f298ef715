use Rattle.std.proofs.Common.{refl}
use Rattle.coap_uri.proofs.Addresses.{ipv4_of-dotted, ipv4_of-none}
use Rattle.coap_uri.proofs.address.read_ipv4.Goals as goal

pub returns-in-Ok : goal.returns-in-Ok
returns-in-Ok c = rw (c.octets.ensures, ipv4_of-dotted _ _ c.in-Ok.ensures) refl

pub returns-in-Err : goal.returns-in-Err
returns-in-Err c = rw (ipv4_of-none c.args.text.now (λ octets dotted. c.in-Err.ensures (record { octets = octets }) dotted)) refl
