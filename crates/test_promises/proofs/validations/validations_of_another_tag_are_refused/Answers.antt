use Rattle.std.proofs.Common.{refl}
use Rattle.test_promises.proofs.Validating.{not_other_get, other_get_asked, valid_fits, valid_lasts}
use Rattle.test_promises.proofs.validations.validations_of_another_tag_are_refused.Goals as goal

pub returns : goal.returns
returns c = record { another = not_other_get; but_for_the_tag_of_the_request = (other_get_asked, refl, valid_fits, valid_lasts) }
