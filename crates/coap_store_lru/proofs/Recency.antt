-- Entries as an LRU map has them: it compares keys the other way round, and removes the first entry
-- that it finds.
use Rattle.std.proofs.Common.{◌≡◌, ◌+◌, slice_get, ◌&&◌, ◌||◌, Bool, true, false, cond, not, List, [], ◌∷◌, Option, Some, None, refl, sym, ap, subst, ◌∙◌, arith}
use Rattle.std.specs.List.{list_all}
use Rattle.std.specs.Map.{lookup, lookup_entry, remove_entry}
use Rattle.std.specs.Option.{option_map, option_map_or}
use Rattle.std.proofs.lemmas.Bool.{and_parts}
use Rattle.std.proofs.lemmas.List.Sums.{sum_by-cons}
use Rattle.lru.specs.LruCache.{promoted}
use Rattle.coap_store.specs.declared.key.CacheKey.{CacheKey}
use Rattle.coap_store.specs.declared.stored.Stored.{Stored}
use Rattle.coap_store.specs.Entries.{Entry, entry_key, entry_size, stored_for}
use Rattle.coap_store_lru.specs.Indexing.{is_held}
use Rattle.coap_store.specs.Keys.{same_key}
use Rattle.coap_store.specs.Lists.{has_other_key, of_key, others, used, are_distinct, total}
use Rattle.coap_store.proofs.Distinct.{of_key-key}
use Rattle.coap_store.proofs.Found.{filter-all}
use Rattle.coap_store.specs.Alike.{same_key-itself, same_key-only}

-- comparing keys is symmetric
pub same_key-flips : (a b : CacheKey) → same_key a b ≡ same_key b a
same_key-flips a b = go (same_key a b) (same_key b a) refl refl
  where
    go : (p q : Bool) → same_key a b ≡ p → same_key b a ≡ q → p ≡ q
    go true true e f = refl
    go false false e f = refl
    go true false e f = sym (subst (λ x. same_key b x ≡ true) (sym (same_key-only a b e)) (same_key-itself b)) ∙ f
    go false true e f = sym e ∙ subst (λ x. same_key a x ≡ true) (sym (same_key-only b a f)) (same_key-itself a)

module _ (k : CacheKey) where
  -- the entry that is found is the one with the key
  pub lookup_entry-is : (es : List Entry) → lookup_entry (same_key k) es ≡ of_key entry_key k es
  lookup_entry-is [] = refl
  lookup_entry-is (e ∷ es) = rw (same_key-flips k e.0, lookup_entry-is es) refl

  -- and so is what is stored in it
  pub lookup-is : (es : List Entry) → lookup (same_key k) es ≡ stored_for k es
  lookup-is [] = refl
  lookup-is (e ∷ es) = rw (same_key-flips k e.0, lookup-is es) (go (same_key e.0 k))
    where
      go : (b : Bool) → cond b (Some e.1) (stored_for k es) ≡ option_map (λ (x : Entry). x.1) (cond b (Some e) (of_key entry_key k es))
      go true = refl
      go false = refl

  -- the entries after the one with the key have other keys
  rest-others : (e : Entry) (es : List Entry) → same_key e.0 k ≡ true → are_distinct entry_key (e ∷ es) ≡ true → others entry_key k es ≡ es
  rest-others e es is distinct =
      let parts = and_parts (list_all (has_other_key entry_key e.0) es) (are_distinct entry_key es) distinct in
      filter-all (has_other_key entry_key k) es (subst (λ q. list_all (has_other_key entry_key q) es ≡ true) (same_key-only e.0 k is) parts.0)

  -- using the first entry leaves all as they are
  pub first-used : (es : List Entry) (x : Entry) → are_distinct entry_key es ≡ true → slice_get es 0 ≡ Some x → same_key x.0 k ≡ true → used entry_key k es ≡ es
  first-used [] x distinct first is = absurd cc
  first-used (e ∷ es) x distinct first is =
      let one : e ≡ x = cc in
      let same : same_key e.0 k ≡ true = ap (λ (y : Entry). same_key y.0 k) one ∙ is in
      rw same (ap (λ l. e ∷ l) (rest-others e es same distinct))

  -- its removal leaves the others
  pub remove_entry-is : (es : List Entry) → are_distinct entry_key es ≡ true → remove_entry (same_key k) es ≡ others entry_key k es
  remove_entry-is [] distinct = refl
  remove_entry-is (e ∷ es) distinct =
      let parts = and_parts (list_all (has_other_key entry_key e.0) es) (are_distinct entry_key es) distinct in
      rw (same_key-flips k e.0) (go (same_key e.0 k) refl (remove_entry-is es parts.1))
    where
      go : (b : Bool) → same_key e.0 k ≡ b → remove_entry (same_key k) es ≡ others entry_key k es → cond b es (e ∷ remove_entry (same_key k) es) ≡ cond (not b) (e ∷ others entry_key k es) (others entry_key k es)
      go true is rest = sym (rest-others e es is distinct)
      go false is rest = ap (λ l. e ∷ l) rest

  -- the entry with a key that is used moves to the front
  pub promoted-is : (es : List Entry) → are_distinct entry_key es ≡ true → promoted (same_key k) es ≡ used entry_key k es
  promoted-is es distinct = rw (lookup_entry-is es, remove_entry-is es distinct) refl

  -- the entry with a key and the others count for as many bytes as all
  pub total-others : (es : List Entry) (x : Entry) → are_distinct entry_key es ≡ true → of_key entry_key k es ≡ Some x → total entry_size (others entry_key k es) + entry_size x ≡ total entry_size es
  total-others [] x distinct found = absurd cc
  total-others (e ∷ es) x distinct found =
      let parts = and_parts (list_all (has_other_key entry_key e.0) es) (are_distinct entry_key es) distinct in
      go (same_key e.0 k) refl (total-others es x parts.1) found
    where
      go : (b : Bool) → same_key e.0 k ≡ b → (of_key entry_key k es ≡ Some x → total entry_size (others entry_key k es) + entry_size x ≡ total entry_size es) → cond b (Some e) (of_key entry_key k es) ≡ Some x
          → total entry_size (cond (not b) (e ∷ others entry_key k es) (others entry_key k es)) + entry_size x ≡ total entry_size (e ∷ es)
      go true is rest f =
          let same : e ≡ x = cc in
          omega (arith, ap entry_size same, ap (total entry_size) (rest-others e es is distinct), sum_by-cons entry_size e es)
      go false is rest f = omega (arith, rest f, sum_by-cons entry_size e es, sum_by-cons entry_size e (others entry_key k es))

-- the others have all keys except for that one
pub held-others : (k : CacheKey) (es : List Entry) (q : CacheKey) → is_held (others entry_key k es) q ≡ (not (same_key k q) && is_held es q)
held-others k [] q = go (same_key k q)
  where
    go : (b : Bool) → false ≡ (not b && false)
    go true = refl
    go false = refl
held-others k (e ∷ es) q = go (same_key e.0 k) (same_key k q) (same_key q e.0) refl refl refl (held-others k es q)
  where
    go : (b p r : Bool) → same_key e.0 k ≡ b → same_key k q ≡ p → same_key q e.0 ≡ r → is_held (others entry_key k es) q ≡ (not p && is_held es q)
        → is_held (cond (not b) (e ∷ others entry_key k es) (others entry_key k es)) q ≡ (not p && (r || is_held es q))
    go true true r is same at rest = rest
    go true false true is same at rest =
        let also : same_key k q ≡ true = subst (λ x. same_key x q ≡ true) (same_key-only e.0 k is) (same_key-flips e.0 q ∙ at) in
        absurd (cc)
    go true false false is same at rest = rest
    go false true true is same at rest =
        let also : same_key e.0 k ≡ true = subst (λ x. same_key e.0 x ≡ true) (sym (same_key-only k q same)) (same_key-flips e.0 q ∙ at) in
        absurd (cc)
    go false true false is same at rest = rw (at, rest) refl
    go false false true is same at rest = rw at refl
    go false false false is same at rest = rw (at, rest) refl

-- an entry in front of the others adds its key
pub held-front : (x : Entry) (es : List Entry) (q : CacheKey) → is_held (x ∷ others entry_key x.0 es) q ≡ (same_key x.0 q || is_held es q)
held-front x es q = rw (held-others x.0 es q, same_key-flips q x.0) (go (same_key x.0 q) (is_held es q))
  where
    go : (p h : Bool) → (p || (not p && h)) ≡ (p || h)
    go true h = refl
    go false h = refl

-- a key with an entry is held
pub found-held : (k : CacheKey) (es : List Entry) (x : Entry) → of_key entry_key k es ≡ Some x → is_held es k ≡ true
found-held k [] x found = absurd cc
found-held k (e ∷ es) x found = rw (same_key-flips k e.0) (go (same_key e.0 k) (λ f. found-held k es x f) found)
  where
    go : (b : Bool) → (of_key entry_key k es ≡ Some x → is_held es k ≡ true) → cond b (Some e) (of_key entry_key k es) ≡ Some x → (b || is_held es k) ≡ true
    go true rest f = refl
    go false rest f = rest f

-- and one without isn't
pub none_held : (k : CacheKey) (es : List Entry) → of_key entry_key k es ≡ None → is_held es k ≡ false
none_held k [] none = refl
none_held k (e ∷ es) none = rw (same_key-flips k e.0) (go (same_key e.0 k) (λ f. none_held k es f) none)
  where
    go : (b : Bool) → (of_key entry_key k es ≡ None → is_held es k ≡ false) → cond b (Some e) (of_key entry_key k es) ≡ None → (b || is_held es k) ≡ false
    go true rest f = absurd cc
    go false rest f = rest f

-- a use keeps the keys
pub held-used : (k : CacheKey) (es : List Entry) (q : CacheKey) → is_held (used entry_key k es) q ≡ is_held es q
held-used k es q = go (of_key entry_key k es) refl
  where
    again : (x : Entry) → of_key entry_key k es ≡ Some x → (p : Bool) → same_key k q ≡ p → (p || is_held es q) ≡ is_held es q
    again x found true e = sym (subst (λ j. is_held es j ≡ true) (same_key-only k q e) (found-held k es x found))
    again x found false e = refl

    go : (found : Option Entry) → of_key entry_key k es ≡ found → is_held (option_map_or (λ x. x ∷ others entry_key k es) found es) q ≡ is_held es q
    go None e = refl
    go (Some x) e =
        let key : x.0 ≡ k = of_key-key entry_key k es x e in
        let front : is_held (x ∷ others entry_key k es) q ≡ (same_key k q || is_held es q) = subst (λ j. is_held (x ∷ others entry_key j es) q ≡ (same_key j q || is_held es q)) key (held-front x es q) in
        front ∙ again x e (same_key k q) refl

module _ (k : CacheKey) (es : List Entry) where
  -- nothing is stored for a key without an entry
  pub none_stored : stored_for k es ≡ None → of_key entry_key k es ≡ None
  none_stored = go (of_key entry_key k es)
    where
      go : (o : Option Entry) → option_map (λ (x : Entry). x.1) o ≡ None → o ≡ None
      go None e = refl
      go (Some x) e = absurd cc

  -- what is stored for a key is in its entry
  pub some_stored : (s : Stored) → stored_for k es ≡ Some s → (x : Entry) × (of_key entry_key k es ≡ Some x) × (x.1 ≡ s)
  some_stored s = go (of_key entry_key k es)
    where
      go : (o : Option Entry) → option_map (λ (x : Entry). x.1) o ≡ Some s → (x : Entry) × (o ≡ Some x) × (x.1 ≡ s)
      go None e = absurd cc
      go (Some x) e = (x, refl, cc)

-- a key that isn't held has no entry
pub not_held : (k : CacheKey) (es : List Entry) → is_held es k ≡ false → of_key entry_key k es ≡ None
not_held k es none = go (of_key entry_key k es) refl
  where
    go : (o : Option Entry) → of_key entry_key k es ≡ o → of_key entry_key k es ≡ None
    go None e = e
    go (Some x) e = absurd (let held : is_held es k ≡ true = found-held k es x e in cc)
