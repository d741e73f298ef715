use Rattle.std.proofs.Common.{refl}
use Rattle.clap.proofs.OnLiterals.{clap_on_literals}
use Rattle.coap_config.proofs.examples.receive_buffers.Goals as goal

pub returns : goal.returns
unfolding clap_on_literals
returns c = record { given = refl; none = refl; largest = refl; too_large = refl }
