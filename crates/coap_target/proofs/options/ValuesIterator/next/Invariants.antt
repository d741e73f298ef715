use Rattle.std.proofs.Common.{◌≡◌, length}
use Rattle.coap_message.specs.Options.{AreOptions}
use Rattle.coap_target.specs.Routes.{values_of}
use Rattle.coap_target.proofs.options.ValuesIterator.next.Given as goal

abbrev pub invariant-loop-option : goal.invariant-loop-option
invariant-loop-option l = (values_of l.self-inside.number l.self-inside.left ≡ l.fn.self) × AreOptions 0 l.self-inside.left

abbrev pub decreases-loop-option : goal.decreases-loop-option
decreases-loop-option l = length l.self-inside.left
