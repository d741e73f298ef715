use Rattle.std.proofs.Common.{rules}
use Rattle.ordered_index.proofs.hashed.HashedIndex.rekey.Goals as goal

pub enter-requires-clause-room : goal.enter-requires-clause-room
enter-requires-clause-room c = search rules

pub returns-then-ne-clause-length : goal.returns-then-ne-clause-length
returns-then-ne-clause-length c = search rules

pub returns-then-ne-clause-rekeyed : goal.returns-then-ne-clause-rekeyed
returns-then-ne-clause-rekeyed c = search rules
