use Rattle.std.proofs.Common.{◌≡◌, length, [], refl, sym, ap, subst, arith}
use Rattle.std.proofs.Math.Nat.{min-le_right}
use Rattle.coap_store_lru.specs.Indexing.{AreThoseOf, is_indexed}
use Rattle.coap_store_lru.proofs.lru_store.LruStoreStore.with_limits.Goals as goal

pub invariant_of-result : goal.invariant_of-result
invariant_of-result g c =
    let made = c.in_ok-new.ensures in
    let none : c.in_ok-new.field-0.entries ≡ [] = ap (λ m. m.entries) made in
    record {
      are_those = subst (λ es. AreThoseOf es 0 (is_indexed c.new-index.result.secret c.new-index.result.groups)) (sym none) (record { distinct = refl; counted = refl; indexed_are = c.new-index.ensures.empty });
      hashed = ap (λ m. m.secret) made;
      within_bytes = omega arith;
      within_entries = omega (arith, ap length none);
      small = omega (arith, min-le_right c.args.most_bytes 9223372036854775807);
    }
