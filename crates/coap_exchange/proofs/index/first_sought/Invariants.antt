use Rattle.std.proofs.Common.{◌≡◌, ℕ, ◌-◌, ◌≤◌, ◌^◌, false}
use Rattle.coap_exchange.specs.Index.{is_met}
use Rattle.coap_pending.specs.Table.{item_at, passes}
use Rattle.coap_exchange.proofs.index.first_sought.Given as goal

abbrev pub invariant-loop-number : goal.invariant-loop-number
invariant-loop-number l = (m : ℕ) → m ≤ l.after → passes (is_met l.sought) (item_at m l.exchanges.items) ≡ false

abbrev pub decreases-loop-number : goal.decreases-loop-number
decreases-loop-number l = 2 ^ 64 - l.after
