-- What a push into an LRU map of keys with digests, which has no limit of its own, does to the
-- entries that it shows.
use Rattle.std.proofs.Common.{◌≡◌, ◌<◌, ◌≤◌, ◌^◌, ◌-◌, ℕ, is_some, length, map, take, true, List, ◌∷◌, Option, Some, None, IfSome, refl, sym, ap, ◌∙◌, arith}
use Rattle.std.specs.Map.{lookup, lookup_entry, remove_entry}
use Rattle.std.specs.Option.{option_map, option_map_or}
use Rattle.std.proofs.lemmas.List.{take_all}
use Rattle.std.proofs.lemmas.Option.{slice_get_past}
use Rattle.lru.specs.LruCache.{LruCache, displaced, put_entries}
use Rattle.coap_store.specs.declared.key.CacheKey.{CacheKey}
use Rattle.coap_store.specs.declared.stored.Stored.{Stored}
use Rattle.coap_store.specs.Digested.{Digested, same_digested}
use Rattle.coap_store.specs.Entries.{Entry, entry_key, stored_for}
use Rattle.coap_store.specs.Lists.{of_key, others, are_distinct}
use Rattle.coap_store.proofs.Distinct.{of_key-key}
use Rattle.coap_store.proofs.Found.{others-none}
use Rattle.coap_store_lru.specs.Recent.{AreOf, DigestedEntry, shown}
use Rattle.coap_store_lru.proofs.Recency.{lookup-is, lookup_entry-is, none_stored, remove_entry-is}
use Rattle.coap_store_lru.proofs.Shown.{AreOf-removed, AreOf-take, found-of, lookup-shown, lookup_entry-shown, remove-shown}

-- an entry of a key
abbrev paired : CacheKey → Stored → Entry
paired k s = (k, s)

module _ (d : Digested) (es : List DigestedEntry) (all : AreOf d.secret es) where
  -- the entry with the key, and what is stored in it
  entry-is : option_map shown (lookup_entry (same_digested d) es) ≡ of_key entry_key d.key (map shown es)
  entry-is = lookup_entry-shown d es all ∙ lookup_entry-is d.key (map shown es)

  stored-is : lookup (same_digested d) es ≡ stored_for d.key (map shown es)
  stored-is = lookup-shown d es all ∙ lookup-is d.key (map shown es)

  -- a put is refused only if its key is new
  pub refused-new : (is_some (lookup (same_digested d) es) ≡ true → ⊥) → of_key entry_key d.key (map shown es) ≡ None
  refused-new new = none_stored d.key (map shown es) (go (stored_for d.key (map shown es)) refl)
    where
      go : (o : Option Stored) → stored_for d.key (map shown es) ≡ o → stored_for d.key (map shown es) ≡ None
      go None e = e
      go (Some s) e = absurd (new (ap is_some (stored-is ∙ e)))

module _ (c : LruCache Digested Stored) (d : Digested) (v : Stored) (len : ℕ) (is : len ≡ length c.entries) (fits : len < 2 ^ 63) (unlimited : c.cap ≡ 2 ^ 64 - 1) (all : AreOf d.secret c.entries) where
  -- there is room for one more
  few : length c.entries ≤ c.cap - 1
  few = omega arith

  -- what is returned is the entry with the key
  pub displaced-shown : option_map shown (displaced same_digested c d v) ≡ of_key entry_key d.key (map shown c.entries)
  displaced-shown = rw (slice_get_past c.entries (c.cap - 1) few, stored-is d c.entries all) (go (of_key entry_key d.key (map shown c.entries)) refl)
    where
      go : (o : Option Entry) → of_key entry_key d.key (map shown c.entries) ≡ o → option_map shown (option_map_or (λ (s : Stored). Some (d, s)) (option_map (λ (x : Entry). x.1) o) None) ≡ o
      go None e = refl
      go (Some x) e = ap (λ (k : CacheKey). Some (paired k x.1)) (sym (of_key-key entry_key d.key (map shown c.entries) x e))

  -- the new entry is put before those with other keys
  pub put-shown : are_distinct entry_key (map shown c.entries) ≡ true → map shown (put_entries same_digested c d v) ≡ paired d.key v ∷ others entry_key d.key (map shown c.entries)
  put-shown distinct = go (lookup_entry (same_digested d) c.entries) (entry-is d c.entries all)
    where
      go : (o : Option DigestedEntry) → option_map shown o ≡ of_key entry_key d.key (map shown c.entries)
          → map shown (option_map_or (λ e. (e.0, v) ∷ remove_entry (same_digested d) c.entries) o ((d, v) ∷ take (c.cap - 1) c.entries)) ≡ paired d.key v ∷ others entry_key d.key (map shown c.entries)
      go None none = rw (take_all (c.cap - 1) c.entries few, others-none entry_key d.key (map shown c.entries) (sym none)) refl
      go (Some e) found =
          rw (remove-shown d c.entries all, remove_entry-is d.key (map shown c.entries) distinct)
          (ap (λ (k : CacheKey). paired k v ∷ others entry_key d.key (map shown c.entries)) (of_key-key entry_key d.key (map shown c.entries) (shown e) (sym found)))

  -- and has the secret of the others
  pub AreOf-put : AreOf d.secret (put_entries same_digested c d v)
  AreOf-put = go (lookup_entry (same_digested d) c.entries) (found-of d.secret (same_digested d) c.entries all)
    where
      go : (o : Option DigestedEntry) → IfSome o (λ e. e.0.secret ≡ d.secret) → AreOf d.secret (option_map_or (λ e. (e.0, v) ∷ remove_entry (same_digested d) c.entries) o ((d, v) ∷ take (c.cap - 1) c.entries))
      go None of = (refl, AreOf-take d.secret (c.cap - 1) c.entries all)
      go (Some e) of = (of, AreOf-removed d.secret (same_digested d) c.entries all)
