use Rattle.std.proofs.Common.{codes}
use Rattle.coap_log.proofs.Fitting.{three}
use Rattle.coap_log.proofs.line.Line.key.Goals as goal

pub returns : goal.returns
returns c =
    three c.args.self.now c.put.new.self c.put-2.new.self c.put-3.new.self (codes " ") c.args.key.now (codes "=") c.put.ensures c.put-2.ensures c.put-3.ensures
