use Rattle.std.proofs.Common.{rules}
use Rattle.coap_dedup.proofs.record.Record.is_living.Goals as goal

pub returns-in-Some : goal.returns-in-Some
returns-in-Some c = search rules
