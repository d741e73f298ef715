use Rattle.std.proofs.Common.{rules}
use Rattle.ordered_index.proofs.place.place_of.Goals as goal

pub returns-clause-exact : goal.returns-clause-exact
returns-clause-exact c = search rules
