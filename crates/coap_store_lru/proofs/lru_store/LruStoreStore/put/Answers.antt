use Rattle.std.proofs.Common.{◌≡◌, ◌∷◌, length, sym, ap, arith, ◌∙◌}
use Rattle.coap_store.specs.Entries.{entry_key, entry_size}
use Rattle.coap_store.specs.Evicting.{beyond, evictions_of, with_evictions}
use Rattle.coap_store.specs.Digested.{Digested}
use Rattle.coap_store.specs.Lists.{cut, others, total}
use Rattle.coap_store.proofs.Cuts.{cut-bytes, cut-count}
use Rattle.coap_store_lru.proofs.lru_store.LruStoreStore.put.Goals as goal

pub invariant_of-self : goal.invariant_of-self
invariant_of-self g c =
    let s = c.args.self.now in
    let es = c.put_first.new.recent.entries in
    let are : c.cut_to-more.new.recent.entries ≡ cut entry_size s.most_bytes s.most_entries es = ap (λ m. m.entries) c.cut_to-more.ensures.kept in
    record {
      are_those = c.cut_to-more.ensures.those;
      hashed = ap (λ m. m.secret) c.cut_to-more.ensures.kept ∙ ap (λ m. m.secret) c.in-Ok.ensures.ok ∙ s.hashed ∙ sym c.put_first.ensures.secret ∙ sym c.cut_to-more.ensures.secret;
      within_bytes = omega (arith, c.cut_to-more.ensures.those.counted, ap (total entry_size) are, cut-bytes entry_size s.most_bytes s.most_entries es);
      within_entries = omega (arith, ap length are, cut-count entry_size s.most_bytes s.most_entries es);
      small = s.small;
    }

pub returns-in-Ok-clause-evicted : goal.returns-in-Ok-clause-evicted
returns-in-Ok-clause-evicted g c same =
    let s = c.args.self.now in
    c.add.ensures ∙ ap (λ more. with_evictions more s.evicted) c.cut_to-more.ensures.counted ∙ ap (λ es. with_evictions (evictions_of c.args.stored.got (beyond entry_size s.most_bytes s.most_entries es)) s.evicted) (ap (λ m. m.entries) c.in-Ok.ensures.ok) ∙ ap (λ (d : Digested). with_evictions (evictions_of c.args.stored.got (beyond entry_size s.most_bytes s.most_entries ((d.key, c.args.stored) ∷ others entry_key d.key s.recent.entries))) s.evicted) c.into_digested-key.ensures
