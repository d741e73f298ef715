use Rattle.std.proofs.Common.{◌-◌, ◌<◌, ◌^◌}
use Rattle.coap_exchange.proofs.WaiterIndexing.{NoneSentUpTo}
use Rattle.coap_exchange.proofs.waiters.Waiters.sent_as.Given as goal

abbrev pub invariant-loop-number : goal.invariant-loop-number
invariant-loop-number l = (l.after < 2 ^ 64) × NoneSentUpTo l.at l.id l.now l.self-inside.table l.after

abbrev pub decreases-loop-number : goal.decreases-loop-number
decreases-loop-number l = 2 ^ 64 - l.after
