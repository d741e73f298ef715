use Rattle.std.proofs.Common.{length, arith, ap}
use Rattle.coap_message.proofs.OptionSpellings.{few_options}
use Rattle.coap_message.proofs.options.Options.iter.Goals as goal

pub returns-clause-few : goal.returns-clause-few
returns-clause-few c = omega (arith, few_options c.self.inside.bytes.now c.self.invariant.spelled, ap length c.self.view_is)
