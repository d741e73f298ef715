use Rattle.std.proofs.Common.{refl}
use Rattle.test_promises.proofs.Validating.{renewal-whole}
use Rattle.test_promises.proofs.validations.a_validated_response_is_renewed.Goals as goal

pub returns : goal.returns
returns c = record { tag = refl; whole = renewal-whole }
