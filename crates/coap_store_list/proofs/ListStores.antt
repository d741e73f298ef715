-- The store as a plain list satisfies the invariant of a store.
use Rattle.std.proofs.Common.{◌≡◌, List, sym, subst}
use Rattle.coap_store_list.specs.declared.list_store.ListStore.{ListStore}
use Rattle.coap_store.specs.Entries.{Entry, Limits, IsStore}

-- the limits of a store
abbrev pub limits_of : ListStore → Limits
limits_of s = record { bytes = s.most_bytes; entries = s.most_entries }

-- it stays within its limits, and its keys are distinct
pub is_store : (s : ListStore) → IsStore (limits_of s) s.entries.items
is_store s = record { distinct = s.distinct; within_bytes = s.within_bytes; within_entries = s.within_entries }

-- so does one with equal entries
pub IsStore-along : (limits : Limits) (new entries : List Entry) → new ≡ entries → IsStore limits entries → IsStore limits new
IsStore-along limits new entries same is = subst (IsStore limits) (sym same) is
