use Rattle.std.proofs.Common.{rules}
use Rattle.coap_stats.proofs.words.traffic_words.Goals as goal

pub returns : goal.returns
returns c = search rules
