use Rattle.std.proofs.lemmas.Str.Pattern.{split_once_first}
use Rattle.coap_config.proofs.Cuts.{cut-is}
use Rattle.coap_config.proofs.texts.cut.Goals as goal

pub returns : goal.returns
returns c =
    cut-is c.args.at c.args.text.now c.split_once.result
    (split_once_first c.args.at c.args.text.now c.split_once.result c.split_once.ensures.cases c.requires)
