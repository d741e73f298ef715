use Rattle.std.proofs.Common.{◌≡◌, ◌≤◌, ◌++◌, drop, map, take, count_by}
use Rattle.coap_store.specs.Entries.{is_for, marked}
use Rattle.coap_store_list.proofs.list_store.mark_entries.Given as goal

abbrev pub invariant-loop-entry : goal.invariant-loop-entry
invariant-loop-entry l = record {
  counted : l.count ≡ count_by (is_for l.target) (take l.entry-index l.initial.entries);
  few : l.count ≤ l.entry-index;
  marked : l.entries ≡ map (marked l.target) (take l.entry-index l.initial.entries) ++ drop l.entry-index l.initial.entries;
}
