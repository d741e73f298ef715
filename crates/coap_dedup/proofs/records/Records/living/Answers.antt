use Rattle.std.proofs.Common.{rules}
use Rattle.coap_dedup.proofs.records.Records.living.Goals as goal

pub returns : goal.returns
returns c = search rules
