-- The numbers of records: which record has which one, and how they change as records come and go.
use Rattle.std.proofs.Common.{◌≡◌, ℕ, ◌+◌, ◌-◌, ◌%◌, ◌^◌, ◌<◌, Bool, true, false, cond, List, [], ◌∷◌, ◌++◌, length, zero, suc, Option, Some, None, refl, sym, ap, subst, ◌∙◌, arith, slice_get}
use Rattle.std.specs.BTreeMap.{get}
use Rattle.std.specs.Option.{option_or}
use Rattle.std.specs.Ordering.{is_eq}
use Rattle.coap_dedup.specs.declared.key.Key.{Key}
use Rattle.coap_dedup.specs.declared.record.Record.{Record}
use Rattle.coap_dedup.specs.Indexing.{AreNumbered, Index, key_cmp, number_of}
use Rattle.coap_dedup.specs.Keys.{key_of, same_key}
use Rattle.coap_dedup.specs.Lists.{is_of, record_of, AreApart}
use Rattle.coap_dedup.proofs.Apart.{apart-rest, not-first, record_of-others}
use Rattle.coap_dedup.proofs.Orders.{same_key-only, same_key-flips, is_eq-key_cmp}

-- a message without a record has no number
pub number_of-none : (n : ℕ) (k : Key) (rs : List Record) → record_of k.from k.id rs ≡ None → number_of n k rs ≡ None
number_of-none n k [] none = refl
number_of-none n k (r ∷ rs) none = let parts = not-first k.from k.id r rs none in rw (number_of-none (n + 1) k rs parts.1, parts.0) refl

-- one more record has the next number
pub number_of-push : (n : ℕ) (k : Key) (rs : List Record) (x : Record) → number_of n k (rs ++ x ∷ []) ≡ cond (is_of k.from k.id x) (Some ((n + length rs) % 2 ^ 64)) (number_of n k rs)
number_of-push n k [] x = go (is_of k.from k.id x)
  where
    go : (b : Bool) → cond b (Some (n % 2 ^ 64)) None ≡ cond b (Some ((n + 0) % 2 ^ 64)) None
    go true = ap (λ m. Some (m % 2 ^ 64)) (omega arith)
    go false = refl
number_of-push n k (r ∷ rs) x = rw (number_of-push (n + 1) k rs x) (go (is_of k.from k.id x) (is_of k.from k.id r) (number_of (n + 1) k rs))
  where
    go : (b p : Bool) (o : Option ℕ) → option_or (cond b (Some ((n + 1 + length rs) % 2 ^ 64)) o) (cond p (Some (n % 2 ^ 64)) None) ≡ cond b (Some ((n + length (r ∷ rs)) % 2 ^ 64)) (option_or o (cond p (Some (n % 2 ^ 64)) None))
    go true p o = ap (λ m. Some (m % 2 ^ 64)) (omega arith)
    go false p o = refl

-- an option isn't both `Some` and `None`
apart_from_none : (o : Option ℕ) (l : ℕ) → o ≡ Some l → o ≡ None → ⊥
apart_from_none o l some none = cc

-- a key with a number has a record, which comes as far after the first as its number does after
-- that of the first
pub number_of-place : (n : ℕ) (k : Key) (rs : List Record) (m : ℕ) → AreApart rs → number_of n k rs ≡ Some m → (i : ℕ) × (i < length rs) × (m ≡ (n + i) % 2 ^ 64) × (slice_get rs i ≡ record_of k.from k.id rs)
number_of-place n k [] m apart e = absurd cc
number_of-place n k (r ∷ rs) m apart e = go (number_of (n + 1) k rs) refl (is_of k.from k.id r) refl e (number_of-place (n + 1) k rs m apart.1)
  where
    go : (o : Option ℕ) → number_of (n + 1) k rs ≡ o → (b : Bool) → is_of k.from k.id r ≡ b → option_or o (cond b (Some (n % 2 ^ 64)) None) ≡ Some m
        → (number_of (n + 1) k rs ≡ Some m → (i : ℕ) × (i < length rs) × (m ≡ (n + 1 + i) % 2 ^ 64) × (slice_get rs i ≡ record_of k.from k.id rs))
        → (i : ℕ) × (i < length (r ∷ rs)) × (m ≡ (n + i) % 2 ^ 64) × (slice_get (r ∷ rs) i ≡ record_of k.from k.id (r ∷ rs))
    go (Some later) is true of found rest = absurd (apart_from_none (number_of (n + 1) k rs) later is (number_of-none (n + 1) k rs (apart-rest k.from k.id r rs apart of)))
    go (Some later) is false of found rest =
        let (i, within, number, at) = rest (is ∙ found) in
        let further : n + suc i ≡ n + 1 + i = omega arith in
        (suc i, omega arith, number ∙ ap (λ j. j % 2 ^ 64) (sym further), at ∙ sym (rw of refl))
    go None is true of found rest =
        let value : n % 2 ^ 64 ≡ m = cc in
        (zero, omega arith, sym value ∙ ap (λ j. j % 2 ^ 64) (omega arith), sym (rw of refl))
    go None is false of found rest = absurd cc

-- a key without a number has no record
pub record_of-unnumbered : (n : ℕ) (k : Key) (rs : List Record) → number_of n k rs ≡ None → record_of k.from k.id rs ≡ None
record_of-unnumbered n k [] none = refl
record_of-unnumbered n k (r ∷ rs) none = go (is_of k.from k.id r) (number_of (n + 1) k rs) refl none (record_of-unnumbered (n + 1) k rs)
  where
    go : (b : Bool) (o : Option ℕ) → number_of (n + 1) k rs ≡ o → option_or o (cond b (Some (n % 2 ^ 64)) None) ≡ None → (number_of (n + 1) k rs ≡ None → record_of k.from k.id rs ≡ None) → cond b (Some r) (record_of k.from k.id rs) ≡ None
    go true None is e rest = absurd cc
    go false None is e rest = rest is
    go b (Some m) is e rest = absurd cc

-- ---- the index

-- a record is found by its number and that of the first
pub found-at : (first : ℕ) (index : Index) (rs : List Record) (k : Key) (m : ℕ) → AreApart rs → AreNumbered first index rs → length rs < 2 ^ 63 → get key_cmp index k ≡ Some m
    → slice_get rs ((m + (2 ^ 64 - first)) % 2 ^ 64) ≡ record_of k.from k.id rs
found-at first index rs k m apart are few number =
    let (i, within, place, at) = number_of-place are.origin k rs m apart (sym (are.numbered k) ∙ number) in
    let value = are.is_first in
    let here : (m + (2 ^ 64 - first)) % 2 ^ 64 ≡ i = omega arith in
    ap (slice_get rs) here ∙ at

-- one more record gets the next number
pub AreNumbered-push : (first : ℕ) (index new : Index) (rs : List Record) (x : Record) (next : ℕ) → AreNumbered first index rs → next ≡ (first + length rs) % 2 ^ 64 → ((k : Key) → get key_cmp new k ≡ cond (is_eq (key_cmp (key_of x) k)) (Some next) (get key_cmp index k)) → AreNumbered first new (rs ++ x ∷ [])
AreNumbered-push first index new rs x next are is_next puts = record {
  origin = are.origin;
  is_first = are.is_first;
  numbered = λ k. puts k ∙ ap (λ b. cond b (Some next) (get key_cmp index k)) (is_eq-key_cmp (key_of x) k) ∙ ap (λ o. cond (same_key (key_of x) k) (Some next) o) (are.numbered k) ∙ ap (λ m. cond (same_key (key_of x) k) (Some m) (number_of are.origin k rs)) same ∙ sym (number_of-push are.origin k rs x);
}
  where
    same : next ≡ (are.origin + length rs) % 2 ^ 64
    same = let value = are.is_first in omega arith

-- and without it the numbers are those of before, if there was no record of its message
pub AreNumbered-undone : (first : ℕ) (index put new : Index) (rs : List Record) (x : Record) (next : ℕ) → record_of x.from x.id rs ≡ None → ((k : Key) → get key_cmp put k ≡ cond (is_eq (key_cmp (key_of x) k)) (Some next) (get key_cmp index k)) → ((k : Key) → get key_cmp new k ≡ cond (is_eq (key_cmp (key_of x) k)) None (get key_cmp put k))
    → AreNumbered first index rs → AreNumbered first new rs
AreNumbered-undone first index put new rs x next none puts takes are = record {
  origin = are.origin;
  is_first = are.is_first;
  numbered = λ k. takes k ∙ go k (is_eq (key_cmp (key_of x) k)) (is_eq-key_cmp (key_of x) k) (puts k);
}
  where
    go : (k : Key) (b : Bool) → b ≡ same_key (key_of x) k → get key_cmp put k ≡ cond b (Some next) (get key_cmp index k) → cond b None (get key_cmp put k) ≡ number_of are.origin k rs
    go k true same is = sym (number_of-none are.origin k rs (subst (λ (j : Key). record_of j.from j.id rs ≡ None) (same_key-only (key_of x) k (sym same)) none))
    go k false other is = is ∙ are.numbered k

-- the numbers of a list, without its first record
module _ (first : ℕ) (index new : Index) (r : Record) (rs : List Record) where
  -- the number of the first record is removed, if none of the others is of the same message
  AreNumbered-rest : record_of r.from r.id rs ≡ None → ((k : Key) → get key_cmp new k ≡ cond (is_eq (key_cmp (key_of r) k)) None (get key_cmp index k)) → AreNumbered first index (r ∷ rs) → AreNumbered ((first + 1) % 2 ^ 64) new rs
  AreNumbered-rest none takes are = record {
    origin = are.origin + 1;
    is_first = (let value = are.is_first in omega arith);
    numbered = λ k. takes k ∙ ap (λ b. cond b None (get key_cmp index k)) (is_eq-key_cmp (key_of r) k) ∙ go k (same_key (key_of r) k) refl;
  }
    where
      go : (k : Key) (b : Bool) → same_key (key_of r) k ≡ b → cond b None (get key_cmp index k) ≡ number_of (are.origin + 1) k rs
      go k true same = sym (number_of-none (are.origin + 1) k rs (subst (λ (j : Key). record_of j.from j.id rs ≡ None) (same_key-only (key_of r) k same) none))
      go k false other = are.numbered k ∙ rw other (last (number_of (are.origin + 1) k rs))
        where
          last : (o : Option ℕ) → option_or o None ≡ o
          last None = refl
          last (Some m) = refl

-- The first record is released, and the last one has come already.
module _ (first : ℕ) (index : Index) (r : Record) (rs : List Record) (x : Record) (are : AreNumbered first index (r ∷ (rs ++ x ∷ []))) where
  -- if they are of different messages, the number of the first is removed
  pub first-goes : (new : Index) → record_of r.from r.id rs ≡ None → same_key (key_of r) (key_of x) ≡ false → ((k : Key) → get key_cmp new k ≡ cond (is_eq (key_cmp (key_of r) k)) None (get key_cmp index k)) → AreNumbered ((first + 1) % 2 ^ 64) new (rs ++ x ∷ [])
  first-goes new none other takes =
      let left : record_of r.from r.id (rs ++ x ∷ []) ≡ None = record_of-others r.from r.id rs x (same_key-flips (key_of x) (key_of r) ∙ other) ∙ none in
      AreNumbered-rest first index new r (rs ++ x ∷ []) left takes are

  -- if they are of the same message, the index stays as it is
  pub first-stays : same_key (key_of r) (key_of x) ≡ true → AreNumbered ((first + 1) % 2 ^ 64) index (rs ++ x ∷ [])
  first-stays same_message = record { origin = are.origin + 1; is_first = (let value = are.is_first in omega arith); numbered = λ k. are.numbered k ∙ skips k (is_of k.from k.id x) refl }
    where
      key : key_of r ≡ key_of x
      key = same_key-only (key_of r) (key_of x) same_message

      skips : (k : Key) (b : Bool) → is_of k.from k.id x ≡ b → number_of are.origin k (r ∷ (rs ++ x ∷ [])) ≡ number_of (are.origin + 1) k (rs ++ x ∷ [])
      skips k true of = later (number_of (are.origin + 1) k (rs ++ x ∷ [])) (cond (is_of k.from k.id r) (Some (are.origin % 2 ^ 64)) None) ((are.origin + 1 + length rs) % 2 ^ 64) (number_of-push (are.origin + 1) k rs x ∙ rw of refl)
        where
          later : (o p : Option ℕ) (m : ℕ) → o ≡ Some m → option_or o p ≡ o
          later None p m e = absurd cc
          later (Some l) p m e = refl
      skips k false of = rw (ap (λ j. same_key j k) key ∙ of) (only (number_of (are.origin + 1) k (rs ++ x ∷ [])))
        where
          only : (o : Option ℕ) → option_or o None ≡ o
          only None = refl
          only (Some l) = refl
