use Rattle.std.specs.Str.Parse.{ParsesUnsigned, ExplainsUnsignedError, HasUnsignedDigitsIfOk}
use Rattle.clap.specs.Words.{found_of, one_of, rows_of}
use Rattle.clap.proofs.WalkLemmas.{one_text-rows}
use Rattle.coap_config.proofs.Numbers.{reads-option}
use Rattle.coap_config.proofs.words.any_number.Goals as goal

pub returns : goal.returns
returns c =
    reads-option (λ bs r. ParsesUnsigned 64 10 bs r × ExplainsUnsignedError 10 bs r × HasUnsignedDigitsIfOk bs r)
    (one_of c.args.id.now (rows_of (found_of c.args.matches.now))) _ c.get_one.result
    (one_text-rows (found_of c.args.matches.now) c.args.id.now) (λ u x g. g.0) c.get_one.ensures.none c.get_one.ensures.value
