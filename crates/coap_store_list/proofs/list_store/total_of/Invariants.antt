use Rattle.std.proofs.Common.{◌≡◌, ◌+◌, drop}
use Rattle.coap_store.specs.Entries.{entry_size}
use Rattle.coap_store.specs.Lists.{total}
use Rattle.coap_store_list.proofs.list_store.total_of.Given as goal

abbrev pub invariant-loop-key : goal.invariant-loop-key
invariant-loop-key l = l.total + total entry_size (drop l.key-index l.entries) ≡ total entry_size l.entries
