use Rattle.std.proofs.Common.{refl, sym, ◌∙◌}
use Rattle.coap_uri.proofs.Addresses.{ipv6_between-other, ipv6_between-not_text, ipv6_between-read}
use Rattle.coap_uri.proofs.address.read_ipv6.Goals as goal

pub returns-then-not-are_address_bytes : goal.returns-then-not-are_address_bytes
returns-then-not-are_address_bytes c = rw (ipv6_between-other _ (sym c.are_address_bytes.ensures ∙ c.if-not-are_address_bytes.true)) refl

pub returns-in-Ok : goal.returns-in-Ok
returns-in-Ok c = rw (ipv6_between-read _ (sym c.are_address_bytes.ensures ∙ c.if-not-are_address_bytes.false), ← c.in-Ok.ensures.cases.0) c.read_between.ensures

pub returns-in-Err : goal.returns-in-Err
returns-in-Err c = rw (ipv6_between-not_text _ c.in-Err.ensures.cases.0) refl
