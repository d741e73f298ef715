use Rattle.std.proofs.Common.{refl}
use Rattle.std.specs.Fmt.{digits}
use Rattle.percent_encoding.specs.Percent.{percent_encode_byte}
use Rattle.coap_stats.proofs.examples.ways_in_words.Goals as goal

pub returns : goal.returns
unfolding digits percent_encode_byte
returns c = refl
