use Rattle.std.proofs.Common.{refl}
use Rattle.std.specs.Fmt.{digits}
use Rattle.coap_stats.proofs.examples.origins_in_words.Goals as goal

pub returns : goal.returns
unfolding digits
returns c = record { sent = refl; resent = refl; gave_up = refl; answers = refl; silence = refl; no_answer = refl }
