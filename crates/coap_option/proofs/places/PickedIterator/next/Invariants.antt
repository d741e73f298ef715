use Rattle.std.proofs.Common.{◌≡◌, length}
use Rattle.coap_option.specs.Passing.{IsAt, picked_after}
use Rattle.coap_option.specs.Table.{row_of}
use Rattle.coap_option.proofs.places.PickedIterator.next.Given as goal

abbrev pub invariant-loop-option : goal.invariant-loop-option
invariant-loop-option g l = (picked_after (g.T.Test.holds l.self-inside.test.now) l.self-inside.run l.self-inside.left ≡ l.fn.self) × IsAt l.self-inside.left l.self-inside.run × (l.self-inside.row ≡ row_of l.self-inside.run.number)

abbrev pub decreases-loop-option : goal.decreases-loop-option
decreases-loop-option g l = length l.self-inside.left
