use Rattle.std.proofs.Common.{refl}
use Rattle.std.specs.Fmt.{digits}
use Rattle.coap_stats.proofs.examples.lines.Goals as goal

pub returns : goal.returns
unfolding digits
returns c = refl
