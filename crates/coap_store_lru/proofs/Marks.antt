-- Entries are marked by key, one key after the other.
use Rattle.std.proofs.Common.{◌≡◌, ◌&&◌, ◌||◌, Bool, true, false, cond, not, List, [], ◌∷◌, Some, None, map, refl, sym, ap, subst, ◌∙◌}
use Rattle.std.specs.List.{list_all}
use Rattle.std.specs.Map.{lookup, set_value}
use Rattle.std.proofs.lemmas.Bool.{and_parts}
use Rattle.coap_store.specs.declared.key.CacheKey.{CacheKey}
use Rattle.coap_store.specs.declared.stored.Stored.{Stored}
use Rattle.coap_store.specs.Entries.{Entry, entry_key}
use Rattle.coap_store_lru.specs.Indexing.{marked_by}
use Rattle.coap_store.specs.Keys.{same_key}
use Rattle.coap_store.specs.Lists.{has_other_key, are_distinct}
use Rattle.coap_store.proofs.Distinct.{distinct-map}
use Rattle.coap_store.specs.Alike.{same_key-only}
use Rattle.coap_store_lru.proofs.Recency.{same_key-flips}

-- marking keeps the key
pub marked_by-key : (test : CacheKey → Bool) (e : Entry) → (marked_by test e).0 ≡ e.0
marked_by-key test e = go (test e.0)
  where
    go : (b : Bool) → (cond b (e.0, record e.1 { marked = true }) e).0 ≡ e.0
    go true = refl
    go false = refl

-- marking by two tests is marking by either
pub marked_by-twice : (p q : CacheKey → Bool) (e : Entry) → marked_by q (marked_by p e) ≡ marked_by (λ k. p k || q k) e
marked_by-twice p q e = go (p e.0) (q e.0) refl refl
  where
    go : (a b : Bool) → p e.0 ≡ a → q e.0 ≡ b → marked_by q (cond a (e.0, record e.1 { marked = true }) e) ≡ cond (a || b) (e.0, record e.1 { marked = true }) e
    go true true e1 e2 = rw e2 refl
    go true false e1 e2 = rw e2 refl
    go false true e1 e2 = rw e2 refl
    go false false e1 e2 = rw e2 refl

-- two changes in sequence are one change
map-map : (f g : Entry → Entry) (es : List Entry) → map f (map g es) ≡ map (λ e. f (g e)) es
map-map f g [] = refl
map-map f g (e ∷ es) = ap (λ l. f (g e) ∷ l) (map-map f g es)

-- changes that agree on each entry agree on all
map-same : (f g : Entry → Entry) (es : List Entry) → ((e : Entry) → f e ≡ g e) → map f es ≡ map g es
map-same f g [] same = refl
map-same f g (e ∷ es) same = rw (same e, map-same f g es same) refl

-- so marking entries by two tests in sequence is marking them by either
pub map-marked_twice : (p q : CacheKey → Bool) (es : List Entry) → map (marked_by q) (map (marked_by p) es) ≡ map (marked_by (λ k. p k || q k)) es
map-marked_twice p q es = map-map (marked_by q) (marked_by p) es ∙ map-same (λ e. marked_by q (marked_by p e)) (marked_by (λ k. p k || q k)) es (marked_by-twice p q)

-- marking by a test that no entry passes changes nothing
map-unmarked : (test : CacheKey → Bool) (es : List Entry) → list_all (λ (e : Entry). not (test e.0)) es ≡ true → map (marked_by test) es ≡ es
map-unmarked test [] none = refl
map-unmarked test (e ∷ es) none =
    let parts = and_parts (not (test e.0)) (list_all (λ (x : Entry). not (test x.0)) es) none in
    go (test e.0) parts.0 (map-unmarked test es parts.1)
  where
    go : (b : Bool) → not b ≡ true → map (marked_by test) es ≡ es → cond b (e.0, record e.1 { marked = true }) e ∷ map (marked_by test) es ≡ e ∷ es
    go true n rest = absurd cc
    go false n rest = ap (λ l. e ∷ l) rest

-- the entries after one with the key have other keys
others-unmarked : (k : CacheKey) (es : List Entry) → list_all (has_other_key entry_key k) es ≡ true → list_all (λ (e : Entry). not (same_key k e.0)) es ≡ true
others-unmarked k [] all = refl
others-unmarked k (e ∷ es) all =
    let parts = and_parts (not (same_key e.0 k)) (list_all (has_other_key entry_key k) es) all in
    rw (same_key-flips k e.0, parts.0, others-unmarked k es parts.1) refl

-- the same, with the keys compared the other way round
from_behind : (k : CacheKey) (es : List Entry) → map (marked_by (same_key k)) es ≡ map (marked_by (λ j. same_key j k)) es
from_behind k es = map-same (marked_by (same_key k)) (marked_by (λ j. same_key j k)) es (λ e. ap (λ b. cond b (e.0, record e.1 { marked = true }) e) (same_key-flips k e.0))

-- marking what is stored for a key marks only its entry
set_marked : (k : CacheKey) (es : List Entry) (s : Stored) → are_distinct entry_key es ≡ true → lookup (same_key k) es ≡ Some s
    → set_value (same_key k) es (record s { marked = true }) ≡ map (marked_by (same_key k)) es
set_marked k [] s distinct found = absurd cc
set_marked k (e ∷ es) s distinct found =
    let parts = and_parts (list_all (has_other_key entry_key e.0) es) (are_distinct entry_key es) distinct in
    go (same_key k e.0) refl parts.0 (λ f. set_marked k es s parts.1 f) found
  where
    go : (b : Bool) → same_key k e.0 ≡ b → list_all (has_other_key entry_key e.0) es ≡ true
        → (lookup (same_key k) es ≡ Some s → set_value (same_key k) es (record s { marked = true }) ≡ map (marked_by (same_key k)) es)
        → cond b (Some e.1) (lookup (same_key k) es) ≡ Some s
        → cond b ((e.0, record s { marked = true }) ∷ es) (e ∷ set_value (same_key k) es (record s { marked = true })) ≡ cond b (e.0, record e.1 { marked = true }) e ∷ map (marked_by (same_key k)) es
    go true is apart rest f =
        let same : e.1 ≡ s = cc in
        let key : e.0 ≡ k = sym (same_key-only k e.0 is) in
        let none = map-unmarked (same_key k) es (others-unmarked k es (subst (λ q. list_all (has_other_key entry_key q) es ≡ true) key apart)) in
        rw none (ap (λ (t : Stored). (e.0, record t { marked = true }) ∷ es) (sym same))
    go false is apart rest f = ap (λ l. e ∷ l) (rest f)

-- if nothing is stored for it, no entry is marked
none_marked : (k : CacheKey) (es : List Entry) → lookup (same_key k) es ≡ None → map (marked_by (same_key k)) es ≡ es
none_marked k [] none = refl
none_marked k (e ∷ es) none = go (same_key k e.0) (λ f. none_marked k es f) none
  where
    go : (b : Bool) → (lookup (same_key k) es ≡ None → map (marked_by (same_key k)) es ≡ es) → cond b (Some e.1) (lookup (same_key k) es) ≡ None
        → cond b (e.0, record e.1 { marked = true }) e ∷ map (marked_by (same_key k)) es ≡ e ∷ es
    go true rest f = absurd cc
    go false rest f = ap (λ l. e ∷ l) (rest f)

-- what a write to the entry with a key makes of the entries
pub marked-written : (k : CacheKey) (es : List Entry) (s : Stored) → are_distinct entry_key es ≡ true → lookup (same_key k) es ≡ Some s → set_value (same_key k) es (record s { marked = true }) ≡ map (marked_by (λ j. same_key j k)) es
marked-written k es s distinct found = set_marked k es s distinct found ∙ from_behind k es

-- if nothing is written, no entry is marked
pub unmarked-unwritten : (k : CacheKey) (es : List Entry) → lookup (same_key k) es ≡ None → es ≡ map (marked_by (λ j. same_key j k)) es
unmarked-unwritten k es none = sym (none_marked k es none) ∙ from_behind k es

-- either of two tests, combined with a third
pub either : (p a b : Bool) → ((p && a) || (p && b)) ≡ (p && (a || b))
either true a b = refl
either false a b = refl

-- marking by no key changes nothing
pub marked_by_none : (es : List Entry) → es ≡ map (marked_by (λ k. false)) es
marked_by_none [] = refl
marked_by_none (e ∷ es) = ap (λ l. e ∷ l) (marked_by_none es)

-- tests with the same results mark the same entries
pub map-same_marks : (p q : CacheKey → Bool) (es : List Entry) → ((k : CacheKey) → p k ≡ q k) → map (marked_by p) es ≡ map (marked_by q) es
map-same_marks p q es same = map-same (marked_by p) (marked_by q) es (λ e. ap (λ b. cond b (e.0, record e.1 { marked = true }) e) (same e.0))

-- marking keeps entries distinct
pub marked_by-distinct : (test : CacheKey → Bool) (es : List Entry) → are_distinct entry_key es ≡ true → are_distinct entry_key (map (marked_by test) es) ≡ true
marked_by-distinct test es distinct = distinct-map entry_key (marked_by test) es (marked_by-key test) distinct
