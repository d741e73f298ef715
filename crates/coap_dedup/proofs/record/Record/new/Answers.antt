use Rattle.std.proofs.Common.{rules}
use Rattle.coap_dedup.proofs.record.Record.new.Goals as goal

pub returns : goal.returns
returns c = search rules
