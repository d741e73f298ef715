use Rattle.std.proofs.Common.{refl}
use Rattle.test_promises.proofs.Validating.{format_fits, format_is_asked, format_lasts, format_tags, not_format}
use Rattle.test_promises.proofs.validations.validations_that_grow_too_long_are_refused.Goals as goal

pub returns : goal.returns
returns c = record { fitting = format_fits; too_long = not_format; but_for_its_length = (format_is_asked, format_tags, refl, format_lasts) }
