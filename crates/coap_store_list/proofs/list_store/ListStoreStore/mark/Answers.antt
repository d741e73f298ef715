use Rattle.coap_store.specs.Entries.{IsStore}
use Rattle.coap_store_list.proofs.ListStores.{IsStore-along, is_store, limits_of}
use Rattle.coap_store.proofs.Held.{IsStore-marked}
use Rattle.coap_store_list.proofs.list_store.ListStoreStore.mark.Goals as goal

pub invariant_of-self : goal.invariant_of-self
invariant_of-self c =
    let s = c.args.self.now in
    let is : IsStore (limits_of s) c.mark_all.new.entries.items = IsStore-along (limits_of s) _ _ c.mark_all.ensures.marked (IsStore-marked (limits_of s) c.args.target.now s.entries.items (is_store s)) in
    record { distinct = is.distinct; within_bytes = is.within_bytes; within_entries = is.within_entries; small = s.small }
