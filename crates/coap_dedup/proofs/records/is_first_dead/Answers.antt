use Rattle.std.proofs.Common.{rules}
use Rattle.coap_dedup.proofs.records.is_first_dead.Goals as goal

pub returns-in-Some : goal.returns-in-Some
returns-in-Some c = search rules
