use Rattle.test_promises.proofs.Validating.{not_other_valid, other_valid_asked, other_valid_fits, other_valid_lasts, other_valid_tags}
use Rattle.test_promises.proofs.validations.validations_with_another_tag_are_refused.Goals as goal

pub returns : goal.returns
returns c = record { another = not_other_valid; but_for_its_tag = (other_valid_asked, other_valid_tags, other_valid_fits, other_valid_lasts) }
