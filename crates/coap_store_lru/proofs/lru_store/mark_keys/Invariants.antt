use Rattle.std.proofs.Common.{◌≡◌, ◌&&◌, ◌+◌, true, count_by, map}
use Rattle.std.specs.HashSet.{contains}
use Rattle.std.specs.List.{list_any}
use Rattle.coap_store.specs.Digested.{digested, same_digested}
use Rattle.coap_store.specs.Entries.{entry_key}
use Rattle.coap_store.specs.Lists.{are_distinct}
use Rattle.coap_store_lru.specs.Indexing.{is_of, is_own, marked_by}
use Rattle.coap_store_lru.proofs.lru_store.mark_keys.Given as goal

abbrev pub invariant-loop-key : goal.invariant-loop-key
invariant-loop-key g l = record {
  distinct : are_distinct entry_key l.recent.entries ≡ true;
  secret : l.recent.secret ≡ l.initial.recent.secret;
  marks : map (marked_by (λ k. is_of l.target k && list_any (same_digested (digested l.initial.recent.secret k)) l.key-iterator)) l.recent.entries ≡ map (marked_by (λ k. is_of l.target k && contains same_digested l.keys (digested l.initial.recent.secret k))) l.initial.recent.entries;
  counted : l.count + count_by (is_own l.initial.recent.secret l.target) l.key-iterator ≡ count_by (is_own l.initial.recent.secret l.target) l.keys.keys;
}
