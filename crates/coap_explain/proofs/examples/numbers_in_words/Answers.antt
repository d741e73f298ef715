use Rattle.std.proofs.Common.{refl}
use Rattle.std.specs.Fmt.{digits}
use Rattle.coap_explain.proofs.examples.numbers_in_words.Goals as goal

pub returns-clause-lacks : goal.returns-clause-lacks
unfolding digits
returns-clause-lacks c = refl

pub returns-clause-content : goal.returns-clause-content
unfolding digits
returns-clause-content c = refl

pub returns-clause-too_large : goal.returns-clause-too_large
unfolding digits
returns-clause-too_large c = refl
