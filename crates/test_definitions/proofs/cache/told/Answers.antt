use Rattle.std.proofs.Common.{refl}
use Rattle.coap_message.specs.Uint.{uint_spelling}
use Rattle.test_definitions.proofs.cache.told.Goals as goal

pub returns : goal.returns
unfolding uint_spelling
returns c = record {
  left = refl;
  nothing_left = refl;
  as_stored = refl;
  not_held = refl;
  held = refl;
  held_as_stored = refl;
  error = refl;
  server_error = refl;
  tagged_error = refl;
  changed = refl;
  in_its_place = refl;
}
