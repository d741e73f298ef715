use Rattle.std.proofs.Common.{◌≡◌, ◌+◌, length}
use Rattle.std.specs.Prelude.{count_by}
use Rattle.coap_store.specs.Entries.{Entry, entry_size}
use Rattle.coap_store.specs.Freshness.{is_fresh}
use Rattle.coap_store_lru.specs.Indexing.{AreThoseOf, is_indexed}
use Rattle.coap_store.specs.Lists.{cut}
use Rattle.coap_store_lru.proofs.lru_store.cut_to.Given as goal

-- each entry is either held or was counted
abbrev pub invariant-over : goal.invariant-over
invariant-over g l = record {
  those : AreThoseOf l.recent.entries l.total (is_indexed l.index.secret l.index.groups);
  secret : l.recent.secret ≡ l.initial.recent.secret;
  hashed : l.index.secret ≡ l.initial.index.secret;
  alike : cut entry_size l.room.bytes l.room.entries l.recent.entries ≡ cut entry_size l.room.bytes l.room.entries l.initial.recent.entries;
  all : l.evicted.entries + length l.recent.entries ≡ length l.initial.recent.entries;
  fresh : l.evicted.fresh + count_by (λ (e : Entry). is_fresh l.room.now e.1) l.recent.entries ≡ count_by (λ (e : Entry). is_fresh l.room.now e.1) l.initial.recent.entries;
}

abbrev pub decreases-over : goal.decreases-over
decreases-over g l = length l.recent.entries
