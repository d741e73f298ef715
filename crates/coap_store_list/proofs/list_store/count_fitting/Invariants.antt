use Rattle.std.proofs.Common.{◌≡◌, ◌≤◌, ◌<◌, ◌^◌, ◌++◌, ◌-◌, drop, take}
use Rattle.coap_store.specs.Entries.{entry_size}
use Rattle.coap_store.specs.Lists.{cut}
use Rattle.coap_store_list.proofs.list_store.count_fitting.Given as goal

abbrev pub invariant-loop-key : goal.invariant-loop-key
invariant-loop-key l = record {
  at : l.count ≡ l.key-index;
  most : l.count ≤ l.most;
  small : l.left < 2 ^ 63;
  cut_so_far : cut entry_size l.bytes l.most l.entries ≡ take l.key-index l.entries ++ cut entry_size l.left (l.most - l.count) (drop l.key-index l.entries);
}
