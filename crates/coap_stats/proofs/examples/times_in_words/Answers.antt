use Rattle.std.proofs.Common.{refl}
use Rattle.std.specs.Fmt.{digits}
use Rattle.coap_stats.proofs.examples.times_in_words.Goals as goal

pub returns : goal.returns
unfolding digits
returns c = record { ends = refl; histogram = refl }
