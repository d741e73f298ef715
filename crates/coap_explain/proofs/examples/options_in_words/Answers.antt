use Rattle.std.proofs.Common.{refl}
use Rattle.std.specs.Fmt.{digits}
use Rattle.coap_explain.proofs.examples.options_in_words.Goals as goal

pub returns-clause-max_age : goal.returns-clause-max_age
unfolding digits
returns-clause-max_age c = refl

pub returns-clause-longest : goal.returns-clause-longest
unfolding digits
returns-clause-longest c = refl
