use Rattle.std.proofs.Common.{rules}
use Rattle.ordered_index.proofs.pair_buffer.make_way.Goals as goal

pub returns-then-len-capacity-clause-room : goal.returns-then-len-capacity-clause-room
returns-then-len-capacity-clause-room c = search rules
