use Rattle.std.proofs.Common.{refl}
use Rattle.std.specs.Fmt.{digits}
use Rattle.coap_explain.proofs.examples.refusals_in_words.Goals as goal

pub returns-clause-option : goal.returns-clause-option
unfolding digits
returns-clause-option c = refl

pub returns-clause-gateway : goal.returns-clause-gateway
unfolding digits
returns-clause-gateway c = refl
