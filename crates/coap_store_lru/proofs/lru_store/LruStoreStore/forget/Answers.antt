use Rattle.std.proofs.Common.{◌≡◌, length, sym, ap, arith, ◌∙◌}
use Rattle.coap_store.specs.Entries.{entry_key, entry_size}
use Rattle.coap_store.specs.Lists.{has_other_key, others, total}
use Rattle.coap_store.proofs.Held.{filter-length, filter-total}
use Rattle.coap_store_lru.proofs.lru_store.LruStoreStore.forget.Goals as goal

pub invariant_of-self : goal.invariant_of-self
invariant_of-self g c =
    let s = c.args.self.now in
    let k = c.args.key.now in
    let es = s.recent.entries in
    let are : c.take_out.new.recent.entries ≡ others entry_key k es = ap (λ m. m.entries) c.take_out.ensures.others in
    record {
      are_those = c.take_out.ensures.those;
      hashed = ap (λ m. m.secret) c.take_out.ensures.others ∙ s.hashed ∙ sym c.take_out.ensures.secret;
      within_bytes = omega (arith, s.within_bytes, s.are_those.counted, c.take_out.ensures.those.counted, ap (total entry_size) are, filter-total entry_size (has_other_key entry_key k) es);
      within_entries = omega (arith, s.within_entries, ap length are, filter-length (has_other_key entry_key k) es);
      small = s.small;
    }
