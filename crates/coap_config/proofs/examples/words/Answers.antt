use Rattle.std.proofs.Common.{refl}
use Rattle.clap.proofs.OnLiterals.{clap_on_literals}
use Rattle.coap_config.proofs.examples.words.Goals as goal

pub returns : goal.returns
unfolding clap_on_literals
returns c = record { none = refl; none_given = refl; no_port = refl; address = refl; port = refl; port_is_taken = refl; port_joined = refl; port_0 = refl; last_port = refl; great_port = refl; names = refl; map = refl; replay = refl; config = refl; first_id = refl; great_id = refl; salt = refl; great_salt = refl; turns = refl; no_turns = refl }
