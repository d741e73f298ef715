use Rattle.std.proofs.Common.{◌≡◌, ap, ◌∙◌}
use Rattle.coap_store.specs.Entries.{Entry, IsStore, entry_key, entry_size}
use Rattle.coap_store.specs.Evicting.{beyond, evictions_of, with_evictions}
use Rattle.coap_store.specs.Lists.{cut, put}
use Rattle.coap_store_list.proofs.ListStores.{IsStore-along, is_store, limits_of}
use Rattle.coap_store.proofs.Held.{IsStore-others, IsStore-put}
use Rattle.coap_store_list.proofs.list_store.ListStoreStore.put.Goals as goal

pub invariant_of-self : goal.invariant_of-self
invariant_of-self c =
    let s = c.args.self.now in
    let is : IsStore (limits_of s) c.forget_entry.new.entries.items = IsStore-along (limits_of s) _ _ c.forget_entry.ensures.others (IsStore-others (limits_of s) c.args.key s.entries.items (is_store s)) in
    record { distinct = is.distinct; within_bytes = is.within_bytes; within_entries = is.within_entries; small = s.small }

pub invariant_of-self-in-Ok : goal.invariant_of-self-in-Ok
invariant_of-self-in-Ok c =
    let s = c.args.self.now in
    let x : Entry = (c.args.key, c.args.stored) in
    let cut_is : c.cut_to-more.new.entries.items ≡ put entry_key entry_size s.most_bytes s.most_entries x s.entries.items = c.cut_to-more.ensures.kept ∙ ap (cut entry_size s.most_bytes s.most_entries) c.in-Ok.ensures.ok in
    let is : IsStore (limits_of s) c.cut_to-more.new.entries.items = IsStore-along (limits_of s) _ _ cut_is (IsStore-put (limits_of s) x s.entries.items (is_store s)) in
    record { distinct = is.distinct; within_bytes = is.within_bytes; within_entries = is.within_entries; small = s.small }

pub returns-in-Ok-clause-evicted : goal.returns-in-Ok-clause-evicted
returns-in-Ok-clause-evicted c same =
    let s = c.args.self.now in
    c.add.ensures ∙ ap (λ more. with_evictions more s.evicted) c.cut_to-more.ensures.counted ∙ ap (λ es. with_evictions (evictions_of c.args.stored.got (beyond entry_size s.most_bytes s.most_entries es)) s.evicted) c.in-Ok.ensures.ok
