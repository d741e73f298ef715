use Rattle.std.proofs.Common.{refl}
use Rattle.std.specs.Fmt.{digits}
use Rattle.coap_proxyd.proofs.examples.texts.Goals as goal

pub returns : goal.returns
unfolding digits
returns c = record { arguments = refl; file = refl; socket = refl; memory = refl; memory_at = refl }
