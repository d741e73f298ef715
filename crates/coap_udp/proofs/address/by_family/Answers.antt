use Rattle.std.proofs.Common.{rules}
use Rattle.coap_udp.proofs.address.by_family.Goals as goal

pub returns-then-is_ipv6 : goal.returns-then-is_ipv6
returns-then-is_ipv6 c = search rules

pub returns-else-is_ipv6 : goal.returns-else-is_ipv6
returns-else-is_ipv6 c = search rules
