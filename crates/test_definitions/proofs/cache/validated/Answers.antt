use Rattle.std.proofs.Common.{refl}
use Rattle.coap_message.specs.Uint.{uint_spelling}
use Rattle.test_definitions.proofs.cache.validated.Goals as goal

pub returns : goal.returns
unfolding uint_spelling
returns c = record {
  no_max_age = refl;
  two_kinds = refl;
  nothing_new = refl;
  many_of_a_kind = refl;
  nothing_unsafe = refl;
  leading_zeros = refl;
  the_tag = refl;
  other_tag = refl;
  first_tag = refl;
  long_first_tag = refl;
  no_tag = refl;
  same_tag = refl;
  wrong_tag = refl;
  unrecognised_tag = refl;
  without_tags = refl;
  no_valid = refl;
  stored_error = refl;
}
