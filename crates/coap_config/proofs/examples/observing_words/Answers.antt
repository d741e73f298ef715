use Rattle.std.proofs.Common.{refl}
use Rattle.clap.proofs.OnLiterals.{clap_on_literals}
use Rattle.coap_config.proofs.examples.observing_words.Goals as goal

pub returns : goal.returns
unfolding clap_on_literals
returns c = record { recording = refl; explain = refl; not_explained = refl; stats = refl; every_second = refl; no_period = refl; a_day = refl; long_period = refl; stats_file = refl; not_a_period = refl; log = refl; no_log = refl; record_bytes = refl; no_bytes = refl }
