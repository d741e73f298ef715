use Rattle.std.proofs.Common.{arith}
use Rattle.coap_config.proofs.Numbers.{narrowed-option}
use Rattle.coap_config.proofs.words.number.Goals as goal

pub returns : goal.returns
returns c =
    rw c.narrow.ensures (narrowed-option c.args.least c.args.most _ c.any_number.result (omega arith) c.any_number.ensures)
