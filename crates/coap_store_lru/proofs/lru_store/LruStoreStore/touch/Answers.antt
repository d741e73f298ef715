use Rattle.std.proofs.Common.{◌≡◌, ◌∷◌, length, sym, ap, subst, arith, ◌∙◌}
use Rattle.std.specs.Option.{option_map_or}
use Rattle.coap_store.specs.Entries.{Entry, entry_key}
use Rattle.coap_store.specs.Lists.{others, used}
use Rattle.coap_store_lru.specs.Indexing.{AreThoseOf, is_indexed}
use Rattle.coap_store_lru.proofs.Kept.{AreThoseOf-used, length-used}
use Rattle.coap_store_lru.proofs.Recency.{not_held}
use Rattle.coap_store_lru.proofs.lru_store.LruStoreStore.touch.Goals as goal

pub invariant_of-self-in-Some : goal.invariant_of-self-in-Some
invariant_of-self-in-Some g c =
    let s = c.args.self.now in
    let k = c.in-Some.own.now.key in
    let es = s.recent.entries in
    let are : c.promote.new.self.entries ≡ used entry_key k es = ap (λ m. m.entries) c.promote.ensures in
    record {
      are_those = subst (λ l. AreThoseOf l s.total (is_indexed s.index.secret s.index.groups)) (sym are) (AreThoseOf-used es s.total (is_indexed s.index.secret s.index.groups) s.are_those k);
      hashed = ap (λ m. m.secret) c.promote.ensures ∙ s.hashed;
      within_bytes = s.within_bytes;
      within_entries = omega (arith, s.within_entries, ap length are, length-used k es);
      small = s.small;
    }

pub returns-in_default-clause-moved : goal.returns-in_default-clause-moved
returns-in_default-clause-moved g c =
    let s = c.args.self.now in
    let k = c.args.key.now in
    let es = s.recent.entries in
    ap (λ found. option_map_or (λ (x : Entry). x ∷ others entry_key k es) found es) (sym (not_held k es (sym (s.are_those.indexed_are k) ∙ c.in_default.ensures.missing)))
