use Rattle.std.proofs.Common.{rules}
use Rattle.coap_lines.proofs.WrittenTurns.{all-bytes}
use Rattle.coap_lines.proofs.laws.octets_are_below_256.Goals as goal

pub returns : goal.returns
returns c = all-bytes c.args.octets.now (search rules)
