use Rattle.std.proofs.Common.{◌≡◌, ◌≤◌, count_by, take}
use Rattle.coap_store.specs.Entries.{Entry}
use Rattle.coap_store.specs.Freshness.{is_fresh}
use Rattle.coap_store_list.proofs.list_store.count_evicted.Given as goal

-- the fresh ones so far were counted
abbrev pub invariant-loop-stored : goal.invariant-loop-stored
invariant-loop-stored l = record {
  counted : l.fresh ≡ count_by (λ (e : Entry). is_fresh l.now e.1) (take l.stored-index l.entries);
  few : l.fresh ≤ l.stored-index;
}
