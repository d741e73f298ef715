use Rattle.std.proofs.Common.{◌≡◌, length}
use Rattle.ordered_index.specs.Chains.{AreLinkedBack}
use Rattle.ordered_index.proofs.table.free_slots.Given as goal

abbrev pub invariant-loop-link : goal.invariant-loop-link
invariant-loop-link l = (length l.nexts.items ≡ l.link) × AreLinkedBack l.nexts.items
