use Rattle.std.proofs.Common.{refl}
use Rattle.clap.proofs.OnLiterals.{clap_on_literals}
use Rattle.coap_config.proofs.examples.refused_words.Goals as goal

pub returns : goal.returns
unfolding clap_on_literals
returns c = record { twice = refl; flag_twice = refl; unknown = refl; stray = refl; no_value = refl; help = refl; version = refl; help_ends_well = refl; version_ends_well = refl; others_end_badly = refl }
