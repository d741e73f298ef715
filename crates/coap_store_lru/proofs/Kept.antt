-- Operations on the entries, their total and their groups keep the three consistent.
use Rattle.std.proofs.Common.{◌≡◌, ℕ, ◌+◌, ◌≤◌, ◌&&◌, ◌||◌, Bool, true, false, not, length, List, [], ◌∷◌, Option, Some, None, map, refl, sym, ap, subst, ◌∙◌, arith}
use Rattle.std.specs.List.{list_any}
use Rattle.std.specs.Option.{option_map, option_map_or}
use Rattle.std.proofs.lemmas.List.Sums.{sum_by-cons}
use Rattle.coap_endpoint.specs.declared.target.Target.{Target}
use Rattle.coap_store.specs.declared.key.CacheKey.{CacheKey}
use Rattle.coap_store.specs.Entries.{Entry, entry_key, entry_size, has_usable, marked, stored_for}
use Rattle.coap_store.specs.Freshness.{is_usable}
use Rattle.coap_store_lru.specs.Indexing.{AreThoseOf, is_held}
use Rattle.coap_store.specs.Keys.{same_key}
use Rattle.coap_store.specs.Lists.{are_distinct, has_other_key, of_key, others, total, used}
use Rattle.coap_store.proofs.Distinct.{distinct-filter, distinct-front, distinct-map}
use Rattle.coap_store.proofs.Held.{IsStore-used, front-length, map-total, marked-key, marked-size}
use Rattle.coap_store.specs.Alike.{same_key-only}
use Rattle.coap_store_lru.proofs.Recency.{found-held, held-front, held-others, held-used, none_held, total-others}

module _ (entries : List Entry) (bytes : ℕ) (indexed : CacheKey → Bool) (are : AreThoseOf entries bytes indexed) where
  -- without the entry with a key
  pub AreThoseOf-others : (k : CacheKey) (x : Entry) (new : CacheKey → Bool) (left : ℕ) → of_key entry_key k entries ≡ Some x → ((q : CacheKey) → new q ≡ (not (same_key k q) && indexed q)) → left + entry_size x ≡ bytes
      → AreThoseOf (others entry_key k entries) left new
  AreThoseOf-others k x new left found less counts = record {
    distinct = distinct-filter entry_key (has_other_key entry_key k) entries are.distinct;
    counted = omega (arith, counts, are.counted, total-others k entries x are.distinct found);
    indexed_are = λ q. less q ∙ ap (λ b. not (same_key k q) && b) (are.indexed_are q) ∙ sym (held-others k entries q);
  }

  -- with an entry in front of those with other keys
  pub AreThoseOf-front : (x : Entry) (new : CacheKey → Bool) (more : ℕ) → ((q : CacheKey) → new q ≡ (same_key x.0 q || indexed q)) → more ≡ entry_size x + total entry_size (others entry_key x.0 entries)
      → AreThoseOf (x ∷ others entry_key x.0 entries) more new
  AreThoseOf-front x new more adds counts = record {
    distinct = distinct-front entry_key x entries are.distinct;
    counted = omega (arith, counts, sum_by-cons entry_size x (others entry_key x.0 entries));
    indexed_are = λ q. adds q ∙ ap (λ b. same_key x.0 q || b) (are.indexed_are q) ∙ sym (held-front x entries q);
  }

  -- with the same keys in the groups
  pub AreThoseOf-along : (new : CacheKey → Bool) → ((q : CacheKey) → new q ≡ indexed q) → AreThoseOf entries bytes new
  AreThoseOf-along new same = record { distinct = are.distinct; counted = are.counted; indexed_are = λ q. same q ∙ are.indexed_are q }

  -- with the entry with a key moved to the front
  pub AreThoseOf-used : (k : CacheKey) → AreThoseOf (used entry_key k entries) bytes indexed
  AreThoseOf-used k = record {
    distinct = used-distinct k;
    counted = are.counted ∙ sym (total-used (of_key entry_key k entries) refl);
    indexed_are = λ q. are.indexed_are q ∙ sym (held-used k entries q);
  }
    where
      used-distinct : (j : CacheKey) → are_distinct entry_key (used entry_key j entries) ≡ true
      used-distinct j = (IsStore-used (record { bytes = total entry_size entries; entries = length entries }) j entries (record { distinct = are.distinct; within_bytes = omega arith; within_entries = omega arith })).distinct

      total-used : (found : Option Entry) → of_key entry_key k entries ≡ found → total entry_size (option_map_or (λ x. x ∷ others entry_key k entries) found entries) ≡ total entry_size entries
      total-used None e = refl
      total-used (Some x) e = omega (arith, sum_by-cons entry_size x (others entry_key k entries), total-others k entries x are.distinct e)

  -- with the entries for a target marked
  pub AreThoseOf-marked : (target : Target) → AreThoseOf (map (marked target) entries) bytes indexed
  AreThoseOf-marked target = record {
    distinct = distinct-map entry_key (marked target) entries (marked-key target) are.distinct;
    counted = are.counted ∙ sym (map-total entry_size (marked target) entries (marked-size target));
    indexed_are = λ q. are.indexed_are q ∙ ap (λ ks. list_any (same_key q) ks) (sym (keys-marked entries));
  }
    where
      keys-marked : (es : List Entry) → map entry_key (map (marked target) es) ≡ map entry_key es
      keys-marked [] = refl
      keys-marked (e ∷ es) = rw (marked-key target e, keys-marked es) refl

-- a use doesn't increase the number of entries
pub length-used : (k : CacheKey) (es : List Entry) → length (used entry_key k es) ≤ length es
length-used k es = go (of_key entry_key k es) refl
  where
    go : (found : Option Entry) → of_key entry_key k es ≡ found → length (option_map_or (λ x. x ∷ others entry_key k es) found es) ≤ length es
    go None e = omega arith
    go (Some x) e = front-length entry_key k es x e

-- a key with an entry is in its group already
pub held_already : (indexed : CacheKey → Bool) (entries : List Entry) (k : CacheKey) (x : Entry) → ((q : CacheKey) → indexed q ≡ is_held entries q) → of_key entry_key k entries ≡ Some x → (q : CacheKey) → indexed q ≡ (same_key k q || indexed q)
held_already indexed entries k x are found q = go (same_key k q) refl
  where
    go : (p : Bool) → same_key k q ≡ p → indexed q ≡ (p || indexed q)
    go true e = subst (λ j. indexed j ≡ true) (same_key-only k q e) (are k ∙ found-held k entries x found)
    go false e = refl

-- a key without an entry that was added to the groups, and removed again, left them as they were
pub added_removed : (indexed : CacheKey → Bool) (entries : List Entry) (k : CacheKey) → ((q : CacheKey) → indexed q ≡ is_held entries q) → of_key entry_key k entries ≡ None → (q : CacheKey) → (not (same_key k q) && (same_key k q || indexed q)) ≡ indexed q
added_removed indexed entries k are none q = go (same_key k q) refl
  where
    go : (p : Bool) → same_key k q ≡ p → (not p && (p || indexed q)) ≡ indexed q
    go true e = sym (subst (λ j. indexed j ≡ false) (same_key-only k q e) (are k ∙ none_held k entries none))
    go false e = refl

-- whether there is a usable entry, by what is stored for its key
pub usable-of : (k : CacheKey) (now : ℕ) (es : List Entry) → has_usable k now es ≡ option_map_or (is_usable now) (stored_for k es) false
usable-of k now es = go (of_key entry_key k es)
  where
    go : (o : Option Entry) → option_map_or (λ (e : Entry). is_usable now e.1) o false ≡ option_map_or (is_usable now) (option_map (λ (e : Entry). e.1) o) false
    go None = refl
    go (Some x) = refl
