-- The keys with a target in the group of its digest are those of the entries for the target, each
-- once.
use Rattle.std.proofs.Common.{◌≡◌, ◌≢◌, ◌==◌, ℕ, nat_eq, eq-eqb, ◌&&◌, ◌||◌, Bool, true, false, cond, not, List, [], ◌∷◌, Option, Some, None, map, filter, length, count_by, refl, sym, ap, subst, ◌∙◌}
use Rattle.std.specs.HashMap.{get}
use Rattle.std.specs.List.{list_all, list_any, IsDistinct, AllByRecursion}
use Rattle.std.specs.Option.{option_map_or}
use Rattle.std.specs.Set.{is_member}
use Rattle.std.proofs.lemmas.Bool.{and_parts, and_from, eqb-true, or_right}
use Rattle.std.proofs.lemmas.List.{length-map}
use Rattle.std.proofs.lemmas.List.Sums.{length-filter}
use Rattle.std.proofs.lemmas.Map.Keys.{IsDistinct-cons}
use Rattle.std.proofs.lemmas.Map.Made.{length-from_same_keys}
use Rattle.coap_endpoint.specs.declared.target.Target.{Target}
use Rattle.coap_endpoint.specs.Equality.{same_target}
use Rattle.coap_endpoint.proofs.Equality.{Tells-target}
use Rattle.coap_store.specs.declared.key.CacheKey.{CacheKey}
use Rattle.coap_store.specs.Entries.{Entry, entry_key, is_for, marked}
use Rattle.coap_store_lru.specs.declared.group.Group.{Group}
use Rattle.coap_store.specs.Digests.{digest_of_target}
use Rattle.coap_store_lru.specs.Indexing.{Groups, AreFilled, IsFilled, has, in_group, is_indexed, is_held, is_of, is_own, keys_in, marked_by}
use Rattle.coap_store.specs.Keys.{same_key}
use Rattle.coap_store.specs.Lists.{has_other_key, are_distinct}
use Rattle.coap_store.proofs.Distinct.{distinct-filter}
use Rattle.coap_store.specs.Alike.{same_key-itself, same_key-only}
use Rattle.coap_store.specs.Digested.{Digested, digested, same_digested}
use Rattle.coap_store.specs.DigestedAlike.{digested_equiv, same_digested-itself, same_digested-only}
use Rattle.coap_store_lru.proofs.Recency.{same_key-flips}
use Rattle.coap_store_lru.proofs.Shown.{same-secret}

-- comparing keys with secrets is symmetric
pub same_digested-flips : (a b : Digested) → same_digested a b ≡ same_digested b a
same_digested-flips a b = go (same_digested a b) (same_digested b a) refl refl
  where
    go : (p q : Bool) → same_digested a b ≡ p → same_digested b a ≡ q → p ≡ q
    go true true e f = refl
    go false false e f = refl
    go true false e f = sym (subst (λ x. same_digested b x ≡ true) (sym (same_digested-only a b e)) (same_digested-itself b)) ∙ f
    go false true e f = sym e ∙ subst (λ x. same_digested a x ≡ true) (sym (same_digested-only b a f)) (same_digested-itself a)

-- entries with other keys have no key equal to this one
apart_all : (k : CacheKey) (es : List Entry) → list_all (has_other_key entry_key k) es ≡ true → AllByRecursion (λ y. same_key k y ≡ false) (map entry_key es)
apart_all k [] all = tt
apart_all k (e ∷ es) all =
    let parts = and_parts (not (same_key e.0 k)) (list_all (has_other_key entry_key k) es) all in
    (same_key-flips k e.0 ∙ go (same_key e.0 k) parts.0, apart_all k es parts.1)
  where
    go : (b : Bool) → not b ≡ true → b ≡ false
    go true n = sym n
    go false n = refl

-- so no key of distinct entries occurs twice
pub distinct-keys : (es : List Entry) → are_distinct entry_key es ≡ true → IsDistinct same_key (map entry_key es)
unfolding IsDistinct
distinct-keys [] distinct = tt
distinct-keys (e ∷ es) distinct =
    let parts = and_parts (list_all (has_other_key entry_key e.0) es) (are_distinct entry_key es) distinct in
    IsDistinct-cons same_key e.0 (map entry_key es) (apart_all e.0 es parts.0) (distinct-keys es parts.1)

-- the entries for a target have the keys with that target that have entries
held-of : (target : Target) (es : List Entry) (q : CacheKey) → is_held (filter (is_for target) es) q ≡ (same_target q.target target && is_held es q)
held-of target [] q = go (same_target q.target target)
  where
    go : (b : Bool) → false ≡ (b && false)
    go true = refl
    go false = refl
held-of target (e ∷ es) q = go (is_for target e) (same_key q e.0) refl refl (held-of target es q)
  where
    alike : same_key q e.0 ≡ true → same_target q.target target ≡ is_for target e
    alike same = ap (λ (k : CacheKey). same_target k.target target) (same_key-only q e.0 same)

    go : (b p : Bool) → is_for target e ≡ b → same_key q e.0 ≡ p → is_held (filter (is_for target) es) q ≡ (same_target q.target target && is_held es q)
        → is_held (cond b (e ∷ filter (is_for target) es) (filter (is_for target) es)) q ≡ (same_target q.target target && (p || is_held es q))
    go true true of same rest = rw (same, alike same, of) refl
    go true false of same rest = rw (same, rest) refl
    go false true of same rest = rw (rest, alike same, of) refl
    go false false of same rest = rest

-- the keys with a target in a list are those in the list that have the target
keys-of : (secret : ℕ) (target : Target) (ks : List Digested) (q : Digested) → is_member same_digested (filter (is_own secret target) ks) q ≡ (is_own secret target q && is_member same_digested ks q)
keys-of secret target [] q = go (is_own secret target q)
  where
    go : (b : Bool) → false ≡ (b && false)
    go true = refl
    go false = refl
keys-of secret target (k ∷ ks) q = go (is_own secret target k) (same_digested q k) refl refl (keys-of secret target ks q)
  where
    alike : same_digested q k ≡ true → is_own secret target q ≡ is_own secret target k
    alike same = ap (is_own secret target) (same_digested-only q k same)

    go : (b p : Bool) → is_own secret target k ≡ b → same_digested q k ≡ p → is_member same_digested (filter (is_own secret target) ks) q ≡ (is_own secret target q && is_member same_digested ks q)
        → is_member same_digested (cond b (k ∷ filter (is_own secret target) ks) (filter (is_own secret target) ks)) q ≡ (is_own secret target q && (p || is_member same_digested ks q))
    go true true of same rest = rw (same, alike same, of) refl
    go true false of same rest = rw (same, rest) refl
    go false true of same rest = rw (rest, alike same, of) refl
    go false false of same rest = rest

-- no key occurs twice among none
pub distinct-none : IsDistinct same_digested []
unfolding IsDistinct
distinct-none = tt

-- a single key is distinct
pub distinct-one : (key : Digested) → IsDistinct same_digested (key ∷ [])
unfolding IsDistinct
distinct-one key = IsDistinct-cons same_digested key [] tt tt

-- what holds for all keys holds for some of them
all-filtered : (apart : Digested → Type 0) (test : Digested → Bool) (ks : List Digested) → AllByRecursion apart ks → AllByRecursion apart (filter test ks)
all-filtered apart test [] all = tt
all-filtered apart test (k ∷ ks) all = go (test k) (all-filtered apart test ks all.1)
  where
    go : (b : Bool) → AllByRecursion apart (filter test ks) → AllByRecursion apart (cond b (k ∷ filter test ks) (filter test ks))
    go true rest = (all.0, rest)
    go false rest = rest

-- distinct keys stay distinct when some are removed
distinct-of : (secret : ℕ) (target : Target) (ks : List Digested) → IsDistinct same_digested ks → IsDistinct same_digested (filter (is_own secret target) ks)
unfolding IsDistinct
distinct-of secret target [] distinct = tt
distinct-of secret target (k ∷ ks) distinct = go (is_own secret target k) (all-filtered (λ y. same_digested k y ≡ false) (is_own secret target) ks distinct.0) (distinct-of secret target ks distinct.1)
  where
    go : (b : Bool) → AllByRecursion (λ y. same_digested k y ≡ false) (filter (is_own secret target) ks) → IsDistinct same_digested (filter (is_own secret target) ks) → IsDistinct same_digested (cond b (k ∷ filter (is_own secret target) ks) (filter (is_own secret target) ks))
    go true apart rest = IsDistinct-cons same_digested k (filter (is_own secret target) ks) apart rest
    go false apart rest = rest

-- the key of each entry is held
all_held : (all es : List Entry) → ((k : CacheKey) → is_held es k ≡ true → is_held all k ≡ true) → list_all (λ (e : Entry). is_held all e.0) es ≡ true
all_held all [] within = refl
all_held all (e ∷ es) within =
    and_from (is_held all e.0) (list_all (λ (x : Entry). is_held all x.0) es)
    (within e.0 (rw (same_key-itself e.0) refl))
    (all_held all es (λ k h. within k (or_right (same_key k e.0) (is_held es k) h)))

-- among entries that are all held, a test that also asks for that marks the same ones
map-marked_held : (p q : CacheKey → Bool) (all es : List Entry) → ((k : CacheKey) → p k ≡ (q k && is_held all k)) → list_all (λ (e : Entry). is_held all e.0) es ≡ true → map (marked_by p) es ≡ map (marked_by q) es
map-marked_held p q all [] same held = refl
map-marked_held p q all (e ∷ es) same held =
    let parts = and_parts (is_held all e.0) (list_all (λ (x : Entry). is_held all x.0) es) held in
    let here : p e.0 ≡ q e.0 = same e.0 ∙ go (q e.0) (is_held all e.0) parts.0 in
    rw (here, map-marked_held p q all es same parts.1) refl
  where
    go : (a b : Bool) → b ≡ true → (a && b) ≡ a
    go true b e = e
    go false b e = refl

-- a set contains the key that was put into it, and those from before
pub put_in : (p b : Bool) → cond p true b ≡ (p || b)
put_in true b = refl
put_in false b = refl

-- and it doesn't contain the key that was removed
pub taken_out : (p b : Bool) → cond p false b ≡ (not p && b)
taken_out true b = refl
taken_out false b = refl

-- a list that contains a key isn't empty
pub some-keys : (ks : List Digested) (k : Digested) → list_any (same_digested k) ks ≡ true → length ks ≢ 0
some-keys [] k is = absurd cc
some-keys (x ∷ ks) k is = λ none. absurd cc

-- and with more keys it still isn't empty
pub still-keys : (ks more : List Digested) (added : Digested → Bool) → ((k : Digested) → list_any (same_digested k) more ≡ (added k || list_any (same_digested k) ks)) → length ks ≢ 0 → length more ≢ 0
still-keys [] more added changed some = absurd (some refl)
still-keys (x ∷ ks) more added changed some = some-keys more x (changed x ∙ ap (λ b. added x || (b || list_any (same_digested x) ks)) (same_digested-itself x) ∙ go (added x))
  where
    go : (b : Bool) → (b || true) ≡ true
    go true = refl
    go false = refl

-- adding no key changes nothing
pub none_added : (added b : Bool) → ((added && false) || b) ≡ b
none_added true b = refl
none_added false b = refl

-- removing a key from a group with one key, whether it is that key or another
pub only-left : (only key k : Digested) → (not (same_digested only key) && (same_digested k only || false)) ≡ (not (same_digested key k) && (same_digested k only || false))
only-left only key k = go (same_digested only key) (same_digested k only) refl refl
  where
    go : (p q : Bool) → same_digested only key ≡ p → same_digested k only ≡ q → (not p && (q || false)) ≡ (not (same_digested key k) && (q || false))
    go true true e f = let same : same_digested key k ≡ true = same_digested-flips key k ∙ ap (λ j. same_digested j key) (same_digested-only k only f) ∙ e in rw same refl
    go false true e f = let other : same_digested key k ≡ false = same_digested-flips key k ∙ ap (λ j. same_digested j key) (same_digested-only k only f) ∙ e in rw other refl
    go true false e f = go_none (same_digested key k)
      where
        go_none : (b : Bool) → false ≡ (not b && false)
        go_none true = refl
        go_none false = refl
    go false false e f = go_none (same_digested key k)
      where
        go_none : (b : Bool) → false ≡ (not b && false)
        go_none true = refl
        go_none false = refl

-- the keys of the group that was found
pub in_group-found : {H J S : Type 0} (groups : Groups H J S) (at : ℕ) (group : Option (Group H J)) → group ≡ get nat_eq groups at → (k : Digested) → option_map_or (λ held. has held k) group false ≡ in_group groups at k
in_group-found groups at group is k = ap (λ found. option_map_or (λ held. has held k) found false) is

-- if a group is put or removed, that is what is found for its digest
module _ {H J S : Type 0} (groups new : Groups H J S) (at : ℕ) (group : Option (Group H J)) (put : (e : ℕ) → get nat_eq new e ≡ cond (nat_eq at e) group (get nat_eq groups e)) where
  pub put-here : get nat_eq new at ≡ group
  put-here = put at ∙ ap (λ b. cond b group (get nat_eq groups at)) (eq-eqb at at refl)

  -- and for other digests what was found before
  pub put-elsewhere : (e : ℕ) → nat_eq at e ≡ false → get nat_eq new e ≡ get nat_eq groups e
  put-elsewhere e other = put e ∙ ap (λ b. cond b group (get nat_eq groups e)) other

-- a digest whose group contains keys is filled
pub filled_by : {H J S : Type 0} (groups : Groups H J S) (at : ℕ) (group : Group H J) → get nat_eq groups at ≡ Some group → length (keys_in group) ≢ 0 → IsFilled groups at
filled_by groups at group is some held found =
    let one : Some group ≡ Some held = sym is ∙ found in
    let same : group ≡ held = cc in
    subst (λ (g : Group _ _). length (keys_in g) ≢ 0) same some

-- so is one without a group
pub filled_none : {H J S : Type 0} (groups : Groups H J S) (at : ℕ) → get nat_eq groups at ≡ None → IsFilled groups at
filled_none groups at none held found = let differ : None ≡ Some held = sym none ∙ found in absurd (cc)

-- a digest without a group has no key
pub none-in_group : {H J S : Type 0} (groups : Groups H J S) (at : ℕ) → get nat_eq groups at ≡ None → (k : Digested) → in_group groups at k ≡ false
none-in_group groups at none k = ap (λ found. option_map_or (λ held. has held k) found false) none

-- and removing a key from it changes nothing
pub none_left : {H J S : Type 0} (groups : Groups H J S) (at : ℕ) (key : Digested) → get nat_eq groups at ≡ None → (k : Digested) → in_group groups at k ≡ (not (same_digested key k) && in_group groups at k)
none_left groups at key none k = none-in_group groups at none k ∙ go (same_digested key k) ∙ ap (λ b. not (same_digested key k) && b) (sym (none-in_group groups at none k))
  where
    go : (b : Bool) → false ≡ (not b && false)
    go true = refl
    go false = refl

-- a group with one key contains just that key
pub one-key : (ks : List Digested) (key : Digested) → ks ≡ key ∷ [] → (k : Digested) → list_any (same_digested k) ks ≡ (same_digested key k || false)
one-key ks key are k = ap (list_any (same_digested k)) are ∙ ap (λ b. b || false) (same_digested-flips k key)

-- no key passes both a test and one that always fails
pub and_none : (b : Bool) → (b && false) ≡ false
and_none true = refl
and_none false = refl

-- if a key doesn't have the target, no key with the target equals it
pub none_of : (target : Target) (key : CacheKey) → is_of target key ≡ false → (k : CacheKey) → (is_of target k && same_key k key) ≡ false
none_of target key other k = go (same_key k key) refl
  where
    go : (b : Bool) → same_key k key ≡ b → (is_of target k && b) ≡ false
    go true same = rw (same_key-only k key same, other) refl
    go false e = and_none (is_of target k)

-- if it does, the keys that equal it have the target
pub one_of : (target : Target) (key : CacheKey) → is_of target key ≡ true → (k : CacheKey) → (is_of target k && same_key k key) ≡ same_key k key
one_of target key of k = go (same_key k key) refl
  where
    go : (b : Bool) → same_key k key ≡ b → (is_of target k && b) ≡ b
    go true same = rw (same_key-only k key same, of) refl
    go false e = and_none (is_of target k)

-- One group is changed or removed.
module _ {H J S : Type 0} (groups new : Groups H J S) (at : ℕ) (others : (e : ℕ) → nat_eq at e ≡ false → get nat_eq new e ≡ get nat_eq groups e) where
  -- then each contains a key, if this one does
  pub filled-but : AreFilled groups → IsFilled new at → AreFilled new
  filled-but filled here e held is = go (nat_eq at e) refl
    where
      go : (b : Bool) → nat_eq at e ≡ b → length (keys_in held) ≢ 0
      go true same = here held (ap (λ n. get nat_eq new n) (eqb-true at e same) ∙ is)
      go false other = filled e held (sym (others e other) ∙ is)

  -- and what is indexed changes as that group does
  pub is_indexed-changed : (secret : ℕ) (key : Digested) (change : Bool → Bool → Bool) → key.secret ≡ secret → at ≡ digest_of_target secret key.key.target → ((b : Bool) → change false b ≡ b) → ((k : Digested) → in_group new at k ≡ change (same_digested key k) (in_group groups at k))
      → (k : CacheKey) → is_indexed secret new k ≡ change (same_key key.key k) (is_indexed secret groups k)
  is_indexed-changed secret key change own of keeps changed k = go (nat_eq at (digest_of_target secret k.target)) refl
    where
      here : in_group new at (digested secret k) ≡ change (same_key key.key k) (in_group groups at (digested secret k))
      here = changed (digested secret k) ∙ ap (λ c. change c (in_group groups at (digested secret k))) (same-secret key (digested secret k) (sym own))

      go : (b : Bool) → nat_eq at (digest_of_target secret k.target) ≡ b → is_indexed secret new k ≡ change (same_key key.key k) (is_indexed secret groups k)
      go true same = subst (λ e. in_group new e (digested secret k) ≡ change (same_key key.key k) (in_group groups e (digested secret k))) (eqb-true at (digest_of_target secret k.target) same) here
      go false other = ap (λ found. option_map_or (λ held. has held (digested secret k)) found false) (others (digest_of_target secret k.target) other)
          ∙ sym (keeps (is_indexed secret groups k)) ∙ ap (λ c. change c (is_indexed secret groups k)) (sym (apart (same_key key.key k) refl))
        where
          apart : (b : Bool) → same_key key.key k ≡ b → b ≡ false
          apart true e = let same : nat_eq at (digest_of_target secret k.target) ≡ true = eq-eqb at (digest_of_target secret k.target) (of ∙ ap (λ (j : CacheKey). digest_of_target secret j.target) (same_key-only key.key k e)) in absurd (cc)
          apart false e = refl

-- where a group with a key is put, each still contains a key
pub filled-put : {H J S : Type 0} (groups : Groups H J S) → AreFilled groups → (at : ℕ) (group : Group H J) → length (keys_in group) ≢ 0 → (new : Groups H J S) → ((e : ℕ) → get nat_eq new e ≡ cond (nat_eq at e) (Some group) (get nat_eq groups e)) → AreFilled new
filled-put groups filled at group some new put = filled-but groups new at (put-elsewhere groups new at (Some group) put) filled (filled_by new at group (put-here groups new at (Some group) put) some)

-- a new group with one key adds that key
pub more-opened : {H J S : Type 0} (groups : Groups H J S) (at : ℕ) (key : Digested) (group : Group H J) → keys_in group ≡ key ∷ [] → get nat_eq groups at ≡ None → (new : Groups H J S) → get nat_eq new at ≡ Some group → (k : Digested) → in_group new at k ≡ (same_digested key k || in_group groups at k)
more-opened groups at key group are none new put k = sym (in_group-found new at (Some group) (sym put) k) ∙ one-key (keys_in group) key are k ∙ ap (λ b. same_digested key k || b) (sym (none-in_group groups at none k))

-- keys that differ still do with a secret
distinct-digested : (secret : ℕ) (ks : List CacheKey) → IsDistinct same_key ks → IsDistinct same_digested (map (digested secret) ks)
unfolding IsDistinct
distinct-digested secret [] distinct = tt
distinct-digested secret (k ∷ ks) distinct = IsDistinct-cons same_digested (digested secret k) (map (digested secret) ks) (apart ks distinct.0) (distinct-digested secret ks distinct.1)
  where
    apart : (js : List CacheKey) → AllByRecursion (λ y. same_key k y ≡ false) js → AllByRecursion (λ y. same_digested (digested secret k) y ≡ false) (map (digested secret) js)
    apart [] all = tt
    apart (j ∷ js) all = (same-secret (digested secret k) (digested secret j) refl ∙ all.0, apart js all.1)

-- a key is among keys with a secret if it has that secret, and is among the keys
digested-member : (secret : ℕ) (ks : List CacheKey) (q : Digested) → is_member same_digested (map (digested secret) ks) q ≡ ((q.secret == secret) && is_member same_key ks q.key)
digested-member secret [] q = sym (and_none (q.secret == secret))
digested-member secret (k ∷ ks) q = rw (digested-member secret ks q) (go (q.secret == secret) (same_key q.key k) (is_member same_key ks q.key))
  where
    go : (a p b : Bool) → ((a && p) || (a && b)) ≡ (a && (p || b))
    go true p b = refl
    go false p b = refl

-- A store whose entries' keys are indexed.
module _ {H J S : Type 0} (secret : ℕ) (groups : Groups H J S) (es : List Entry) (target : Target) (indexed : (k : CacheKey) → is_indexed secret groups k ≡ is_held es k) where
  -- the group of a target's digest contains the keys with that target that have entries
  pub in_group-is : (k : CacheKey) → (is_of target k && in_group groups (digest_of_target secret target) (digested secret k)) ≡ (is_of target k && is_held es k)
  in_group-is k = go (is_of target k) refl
    where
      go : (b : Bool) → is_of target k ≡ b → (b && in_group groups (digest_of_target secret target) (digested secret k)) ≡ (b && is_held es k)
      go true e = subst (λ t. in_group groups (digest_of_target secret t) (digested secret k) ≡ is_held es k) (Tells-target.only k.target target e) (indexed k)
      go false e = refl

  -- so marking the entries for these keys is marking all entries for the target
  pub map-marked_group : map (marked_by (λ k. is_of target k && in_group groups (digest_of_target secret target) (digested secret k))) es ≡ map (marked target) es
  map-marked_group = map-marked_held (λ k. is_of target k && in_group groups (digest_of_target secret target) (digested secret k)) (is_of target) es es in_group-is (all_held es es (λ k h. h))

  -- the group's own keys with the target are those of the entries for the target
  own-is : (q : Digested) → (is_own secret target q && in_group groups (digest_of_target secret target) q) ≡ ((q.secret == secret) && is_held (filter (is_for target) es) q.key)
  own-is q = go (q.secret == secret) refl
    where
      at : ℕ
      at = digest_of_target secret target

      go : (b : Bool) → (q.secret == secret) ≡ b → ((b && is_of target q.key) && in_group groups at q) ≡ (b && is_held (filter (is_for target) es) q.key)
      go true e =
          let own : q ≡ digested secret q.key = ap (λ t. digested t q.key) (eqb-true q.secret secret e) in
          ap (λ d. is_of target q.key && in_group groups at d) own ∙ in_group-is q.key ∙ sym (held-of target es q.key)
      go false e = refl

  -- and there are as many of them
  pub length-group : (keys : List Digested) → are_distinct entry_key es ≡ true → IsDistinct same_digested keys → ((k : Digested) → is_member same_digested keys k ≡ in_group groups (digest_of_target secret target) k) → count_by (is_own secret target) keys ≡ count_by (is_for target) es
  length-group keys distinct apart same =
      let of = filter (is_for target) es in
      sym (length-filter (is_own secret target) keys)
      ∙ length-from_same_keys digested_equiv (filter (is_own secret target) keys) (map (digested secret) (map entry_key of)) (distinct-of secret target keys apart)
      (distinct-digested secret (map entry_key of) (distinct-keys of (distinct-filter entry_key (is_for target) es distinct)))
      (λ q. keys-of secret target keys q ∙ ap (λ b. is_own secret target q && b) (same q) ∙ own-is q ∙ sym (digested-member secret (map entry_key of) q))
      ∙ length-map (map entry_key of) (digested secret) ∙ length-map of entry_key ∙ length-filter (is_for target) es

-- a key of another secret, or without the target, equals none that has both
pub own_none : (secret : ℕ) (target : Target) (key : Digested) → is_own secret target key ≡ false → (k : CacheKey) → (is_of target k && same_digested (digested secret k) key) ≡ false
own_none secret target key other k = go (secret == key.secret) refl
  where
    go : (b : Bool) → (secret == key.secret) ≡ b → (is_of target k && (b && same_key k key.key)) ≡ false
    go false e = and_none (is_of target k)
    go true e =
        let same : key.secret ≡ secret = sym (eqb-true secret key.secret e) in
        none_of target key.key (sym (ap (λ t. t && is_of target key.key) (eq-eqb key.secret secret same)) ∙ other) k

-- if it has both, it equals the key that it is
pub own_one : (secret : ℕ) (target : Target) (key : Digested) → key.secret ≡ secret → is_of target key.key ≡ true → (k : CacheKey) → (is_of target k && same_digested (digested secret k) key) ≡ same_key k key.key
own_one secret target key own of k = ap (λ b. is_of target k && b) (same-secret (digested secret k) key own) ∙ one_of target key.key of k
