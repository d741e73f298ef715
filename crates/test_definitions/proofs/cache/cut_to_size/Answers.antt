use Rattle.std.proofs.Common.{refl}
use Rattle.test_definitions.proofs.cache.cut_to_size.Goals as goal

pub returns : goal.returns
returns c = record {
  grown = refl;
  replaced = refl;
  shrunk = refl;
  exact = refl;
  one_byte_less = refl;
  emptied = refl;
  two_entries = refl;
  first_two = refl;
  first_alone = refl;
  nothing_behind_a_gap = refl;
  no_bytes = refl;
  no_entries = refl;
  all = refl;
  bytes = refl;
  of_budget = refl;
  over_budget = refl;
  without_budget = refl;
}
