use Rattle.std.proofs.Common.{rules}
use Rattle.coap_config.proofs.words.without_texts.Goals as goal

pub returns : goal.returns
returns c = search rules
