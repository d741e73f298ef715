-- What an LRU map of keys with digests does to the entries that it shows.
use Rattle.std.proofs.Common.{◌≡◌, ℕ, ◌&&◌, eq-eqb, Bool, true, false, cond, List, [], ◌∷◌, Option, Some, None, map, take, drop, slice_get, IfSome, refl, sym, ap, zero, suc}
use Rattle.std.specs.Map.{lookup, lookup_entry, remove_entry, set_value}
use Rattle.std.specs.Option.{option_map, option_map_or}
use Rattle.lru.specs.LruCache.{promoted}
use Rattle.coap_store.specs.declared.stored.Stored.{Stored}
use Rattle.coap_store.specs.Digested.{Digested, same_digested}
use Rattle.coap_store.specs.Keys.{same_key}
use Rattle.coap_store_lru.specs.Recent.{AreOf, DigestedEntry, shown}

-- keys with one secret compare as keys
pub same-secret : (a b : Digested) → b.secret ≡ a.secret → same_digested a b ≡ same_key a.key b.key
same-secret a b e = ap (λ t. t && same_key a.key b.key) (eq-eqb a.secret b.secret (sym e))

-- A map whose keys all have the secret of a key that is looked for.
module _ (d : Digested) where
  -- finds the entry that it shows
  pub lookup_entry-shown : (es : List DigestedEntry) → AreOf d.secret es → option_map shown (lookup_entry (same_digested d) es) ≡ lookup_entry (same_key d.key) (map shown es)
  lookup_entry-shown [] all = refl
  lookup_entry-shown (e ∷ es) all = rw (same-secret d e.0 all.0) (go (same_key d.key e.0.key) (lookup_entry-shown es all.1))
    where
      go : (b : Bool) → option_map shown (lookup_entry (same_digested d) es) ≡ lookup_entry (same_key d.key) (map shown es) → option_map shown (cond b (Some e) (lookup_entry (same_digested d) es)) ≡ cond b (Some (shown e)) (lookup_entry (same_key d.key) (map shown es))
      go true rest = refl
      go false rest = rest

  -- and what is stored in it
  pub lookup-shown : (es : List DigestedEntry) → AreOf d.secret es → lookup (same_digested d) es ≡ lookup (same_key d.key) (map shown es)
  lookup-shown [] all = refl
  lookup-shown (e ∷ es) all = rw (same-secret d e.0 all.0, lookup-shown es all.1) refl

  -- removes it
  pub remove-shown : (es : List DigestedEntry) → AreOf d.secret es → map shown (remove_entry (same_digested d) es) ≡ remove_entry (same_key d.key) (map shown es)
  remove-shown [] all = refl
  remove-shown (e ∷ es) all = rw (same-secret d e.0 all.0) (go (same_key d.key e.0.key) (remove-shown es all.1))
    where
      go : (b : Bool) → map shown (remove_entry (same_digested d) es) ≡ remove_entry (same_key d.key) (map shown es) → map shown (cond b es (e ∷ remove_entry (same_digested d) es)) ≡ cond b (map shown es) (shown e ∷ remove_entry (same_key d.key) (map shown es))
      go true rest = refl
      go false rest = ap (λ l. shown e ∷ l) rest

  -- puts it first
  pub promoted-shown : (es : List DigestedEntry) → AreOf d.secret es → map shown (promoted (same_digested d) es) ≡ promoted (same_key d.key) (map shown es)
  promoted-shown es all = go (lookup_entry (same_digested d) es) (lookup_entry-shown es all)
    where
      go : (o : Option DigestedEntry) → option_map shown o ≡ lookup_entry (same_key d.key) (map shown es) → map shown (option_map_or (λ e. e ∷ remove_entry (same_digested d) es) o es) ≡ promoted (same_key d.key) (map shown es)
      go None found = rw (← found) refl
      go (Some e) found = rw (← found) (ap (λ l. shown e ∷ l) (remove-shown es all))

  -- and writes to it
  pub written-shown : (es : List DigestedEntry) (s : Stored) → AreOf d.secret es → map shown (set_value (same_digested d) es s) ≡ set_value (same_key d.key) (map shown es) s
  written-shown [] s all = refl
  written-shown (e ∷ es) s all = rw (same-secret d e.0 all.0) (go (same_key d.key e.0.key) (written-shown es s all.1))
    where
      go : (b : Bool) → map shown (set_value (same_digested d) es s) ≡ set_value (same_key d.key) (map shown es) s → map shown (cond b ((e.0, s) ∷ es) (e ∷ set_value (same_digested d) es s)) ≡ cond b ((e.0.key, s) ∷ map shown es) (shown e ∷ set_value (same_key d.key) (map shown es) s)
      go true rest = refl
      go false rest = ap (λ l. shown e ∷ l) rest

-- What is left has the secret.
module _ (secret : ℕ) (test : Digested → Bool) where
  pub AreOf-removed : (es : List DigestedEntry) → AreOf secret es → AreOf secret (remove_entry test es)
  AreOf-removed [] all = tt
  AreOf-removed (e ∷ es) all = go (test e.0) (AreOf-removed es all.1)
    where
      go : (b : Bool) → AreOf secret (remove_entry test es) → AreOf secret (cond b es (e ∷ remove_entry test es))
      go true rest = all.1
      go false rest = (all.0, rest)

  pub AreOf-written : (es : List DigestedEntry) (s : Stored) → AreOf secret es → AreOf secret (set_value test es s)
  AreOf-written [] s all = tt
  AreOf-written (e ∷ es) s all = go (test e.0) (AreOf-written es s all.1)
    where
      go : (b : Bool) → AreOf secret (set_value test es s) → AreOf secret (cond b ((e.0, s) ∷ es) (e ∷ set_value test es s))
      go true rest = (all.0, all.1)
      go false rest = (all.0, rest)

  -- so does what is found
  pub found-of : (es : List DigestedEntry) → AreOf secret es → IfSome (lookup_entry test es) (λ e. e.0.secret ≡ secret)
  found-of [] all = tt
  found-of (e ∷ es) all = go (test e.0) (found-of es all.1)
    where
      go : (b : Bool) → IfSome (lookup_entry test es) (λ x. x.0.secret ≡ secret) → IfSome (cond b (Some e) (lookup_entry test es)) (λ x. x.0.secret ≡ secret)
      go true rest = all.0
      go false rest = rest

  pub AreOf-promoted : (es : List DigestedEntry) → AreOf secret es → AreOf secret (promoted test es)
  AreOf-promoted es all = go (lookup_entry test es) (found-of es all)
    where
      go : (o : Option DigestedEntry) → IfSome o (λ e. e.0.secret ≡ secret) → AreOf secret (option_map_or (λ e. e ∷ remove_entry test es) o es)
      go None of = all
      go (Some e) of = (of, AreOf-removed es all)

module _ (secret : ℕ) where
  pub AreOf-take : (n : ℕ) (es : List DigestedEntry) → AreOf secret es → AreOf secret (take n es)
  AreOf-take zero es all = tt
  AreOf-take (suc n) [] all = tt
  AreOf-take (suc n) (e ∷ es) all = (all.0, AreOf-take n es all.1)

  pub AreOf-drop : (n : ℕ) (es : List DigestedEntry) → AreOf secret es → AreOf secret (drop n es)
  AreOf-drop zero es all = all
  AreOf-drop (suc n) [] all = tt
  AreOf-drop (suc n) (e ∷ es) all = AreOf-drop n es all.1

  pub AreOf-at : (es : List DigestedEntry) (i : ℕ) → AreOf secret es → IfSome (slice_get es i) (λ e. e.0.secret ≡ secret)
  AreOf-at [] i all = tt
  AreOf-at (e ∷ es) zero all = all.0
  AreOf-at (e ∷ es) (suc i) all = AreOf-at es i all.1
