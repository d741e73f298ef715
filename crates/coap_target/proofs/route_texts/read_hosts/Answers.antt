use Rattle.std.proofs.Common.{rules}
use Rattle.coap_target.proofs.route_texts.read_hosts.Goals as goal

pub returns-then-are_distinct : goal.returns-then-are_distinct
returns-then-are_distinct c = search rules
