-- Indexes that keep step with a table, as its items come, change and go.
use Rattle.std.proofs.Common.{◌≡◌, ℕ, ◌+◌, ◌≤◌, List, [], ◌∷◌, ◌++◌, length, Bool, true, false, cond, eqb, Option, Some, None, refl, sym, ap, ◌∙◌, arith}
use Rattle.std.specs.List.{AllByRecursion}
use Rattle.std.specs.Option.{is_some, option_map}
use Rattle.std.proofs.lemmas.Bool.{eqb-true, eqb-false, eq-eqb, ne_eqb}
use Rattle.endpoint_counts.specs.IndexOf.{key_at, CanRekey, HasRekeyed, IsIndexOf}
use Rattle.ordered_index.specs.Ordered.{OrderedIndex, is_in, is_key, one_of}
use Rattle.coap_pending.specs.Table.{Numbered, Table, IsTable, item_at, admitted_to, without, withdrawn_at, withdrawn, changed_at, count, passes}
use Rattle.coap_pending.proofs.Counts.{one_if, count-length, count-push, count-moved, count-without}
use Rattle.coap_pending.proofs.Tables.{without-gone, without-others}

-- ---- what changes in a table where one item comes, changes or goes

-- the items of the other numbers stay, and the one of this number is counted by what it is
pub record Moves {A : Type 0} (n : ℕ) (xs ys : List (Numbered A)) : Type 0 where
  pub others : (q : ℕ) → eqb q n ≡ false → item_at q ys ≡ item_at q xs
  pub counts : (test : A → Bool) → count test ys + one_if (passes test (item_at n xs)) ≡ count test xs + one_if (passes test (item_at n ys))

module _ {A : Type 0} where
  -- the last that was withdrawn is gone
  pub withdrawn-gone : (t : Table A) → item_at t.admitted (withdrawn t).items ≡ None
  withdrawn-gone t = go (item_at t.admitted t.items) refl
    where
      go : (o : Option A) → item_at t.admitted t.items ≡ o → item_at t.admitted (withdrawn_at o t).items ≡ None
      go None e = e
      go (Some a) e = without-gone t.admitted t.items

  pub moves-without : (n : ℕ) (t : Table A) → IsTable t → Moves n t.items (without n t.items)
  moves-without n t is = record {
    others = λ q e. without-others n q t.items e;
    counts = λ test. (let counted = count-without test n 0 t.items is.rising in let gone : one_if (passes test (item_at n (without n t.items))) ≡ 0 = ap (λ (o : Option A). one_if (passes test o)) (without-gone n t.items) in omega arith);
  }

  pub moves-withdrawn : (t : Table A) → IsTable t → Moves t.admitted t.items (withdrawn t).items
  moves-withdrawn t is = go (item_at t.admitted t.items) refl
    where
      go : (o : Option A) → item_at t.admitted t.items ≡ o → Moves t.admitted t.items (withdrawn_at o t).items
      go None e = record { others = λ q f. refl; counts = λ test. refl }
      go (Some a) e = moves-without t.admitted t is

  pub changed-others : (n q : ℕ) (f : A → A) (xs : List (Numbered A)) → eqb q n ≡ false → item_at q (changed_at n f xs) ≡ item_at q xs
  changed-others n q f [] e = refl
  changed-others n q f (x ∷ xs) e = go (eqb x.0 n) refl (changed-others n q f xs e)
    where
      go : (b : Bool) → eqb x.0 n ≡ b → item_at q (changed_at n f xs) ≡ item_at q xs → item_at q (cond b (x.0, f x.1) x ∷ changed_at n f xs) ≡ item_at q (x ∷ xs)
      go true g i =
          let other : eqb q x.0 ≡ false = ne_eqb q x.0 (λ h. eqb-false q n e (h ∙ eqb-true x.0 n g)) in
          rw other i
      go false g i = ap (λ (o : Option A). cond (eqb q x.0) (Some x.1) o) i

  pub changed-at : (n : ℕ) (f : A → A) (xs : List (Numbered A)) → item_at n (changed_at n f xs) ≡ option_map f (item_at n xs)
  changed-at n f [] = refl
  changed-at n f (x ∷ xs) = go (eqb x.0 n) refl (changed-at n f xs)
    where
      go : (b : Bool) → eqb x.0 n ≡ b → item_at n (changed_at n f xs) ≡ option_map f (item_at n xs) → item_at n (cond b (x.0, f x.1) x ∷ changed_at n f xs) ≡ option_map f (item_at n (x ∷ xs))
      go true g i = let same : eqb n x.0 ≡ true = eq-eqb n x.0 (sym (eqb-true x.0 n g)) in rw same refl
      go false g i =
          let other : eqb n x.0 ≡ false = ne_eqb n x.0 (λ h. eqb-false x.0 n g (sym h)) in
          rw other i

  pub passes-map : (test : A → Bool) (f : A → A) (o : Option A) → passes test (option_map f o) ≡ passes (λ a. test (f a)) o
  passes-map test f None = refl
  passes-map test f (Some a) = refl

  pub moves-changed : (n : ℕ) (f : A → A) (t : Table A) → IsTable t → Moves n t.items (changed_at n f t.items)
  moves-changed n f t is = record {
    others = λ q e. changed-others n q f t.items e;
    counts = λ test. (let counted = count-moved test n 0 f t.items is.rising in let now : one_if (passes test (item_at n (changed_at n f t.items))) ≡ one_if (passes (λ a. test (f a)) (item_at n t.items)) = ap (λ (o : Option A). one_if (passes test o)) (changed-at n f t.items) ∙ ap one_if (passes-map test f (item_at n t.items)) in omega arith);
  }

  pub push-others : (n q : ℕ) (xs : List (Numbered A)) (a : A) → eqb q n ≡ false → item_at q (xs ++ (n, a) ∷ []) ≡ item_at q xs
  push-others n q [] a e = rw e refl
  push-others n q (x ∷ xs) a e = ap (λ (o : Option A). cond (eqb q x.0) (Some x.1) o) (push-others n q xs a e)

  pub none-above : (most : ℕ) (xs : List (Numbered A)) → AllByRecursion (λ x. x.0 ≤ most) xs → item_at (most + 1) xs ≡ None
  none-above most [] below = refl
  none-above most (x ∷ xs) below =
      let other : eqb (most + 1) x.0 ≡ false = ne_eqb (most + 1) x.0 (λ e. let le = below.0 in omega arith) in
      rw other (none-above most xs below.1)

  pub push-at : (n : ℕ) (xs : List (Numbered A)) (a : A) → item_at n xs ≡ None → item_at n (xs ++ (n, a) ∷ []) ≡ Some a
  push-at n [] a e = rw (eq-eqb n n refl) refl
  push-at n (x ∷ xs) a e = go (eqb n x.0) e (push-at n xs a)
    where
      go : (b : Bool) → cond b (Some x.1) (item_at n xs) ≡ None → (item_at n xs ≡ None → item_at n (xs ++ (n, a) ∷ []) ≡ Some a) → cond b (Some x.1) (item_at n (xs ++ (n, a) ∷ [])) ≡ Some a
      go true f rest = absurd cc
      go false f rest = rest f

  pub moves-admitted : (t : Table A) (a : A) → IsTable t → Moves (t.admitted + 1) t.items (admitted_to a t).items
  moves-admitted t a is = record {
    others = λ q e. push-others (t.admitted + 1) q t.items a e;
    counts = λ test. (
        let free = none-above t.admitted t.items is.below in
        let counted = count-push test t.items (t.admitted + 1, a) in
        let was : one_if (passes test (item_at (t.admitted + 1) t.items)) ≡ 0 = ap (λ (o : Option A). one_if (passes test o)) free in
        let now : one_if (passes test (item_at (t.admitted + 1) (t.items ++ (t.admitted + 1, a) ∷ []))) ≡ one_if (test a) = ap (λ (o : Option A). one_if (passes test o)) (push-at (t.admitted + 1) t.items a free) in
        omega arith
        );
  }

-- ---- what an index keeps

module _ {A : Type 0} (key_of : A → Option ℕ) where
  pub one-owned : (o : Option A) → one_if (passes (λ a. is_some (key_of a)) o) ≡ one_of (key_at key_of o)
  one-owned None = refl
  one-owned (Some a) = go (key_of a)
    where
      go : (p : Option ℕ) → one_if (is_some p) ≡ one_of p
      go None = refl
      go (Some o) = refl

  -- there is room for what an item comes to be
  pub can-pass : (n limit : ℕ) (xs ys : List (Numbered A)) (index : OrderedIndex) → Moves n xs ys → length ys ≤ limit → IsIndexOf key_of xs limit index → CanRekey index n (key_at key_of (item_at n xs)) (key_at key_of (item_at n ys))
  can-pass n limit xs ys index moves few is = record {
    key = λ o. is.members o n;
    room = (
        let counted = moves.counts (λ a. is_some (key_of a)) in
        let most = count-length (λ a. is_some (key_of a)) ys in
        let was = one-owned (item_at n xs) in
        let now = one-owned (item_at n ys) in
        let len = is.length in
        let same = is.limit in
        omega arith
        );
  }

  -- and it keeps step
  pub has-passed : (n limit : ℕ) (xs ys : List (Numbered A)) (old new : OrderedIndex) → Moves n xs ys → IsIndexOf key_of xs limit old → HasRekeyed old new n (key_at key_of (item_at n xs)) (key_at key_of (item_at n ys)) → IsIndexOf key_of ys limit new
  has-passed n limit xs ys old new moves is has = record {
    members = λ o q. has.rekeyed o q ∙ go o q (eqb q n) refl;
    length = (
        let counted = moves.counts (λ a. is_some (key_of a)) in
        let was = one-owned (item_at n xs) in
        let now = one-owned (item_at n ys) in
        let len = is.length in
        let passed = has.length in
        omega arith
        );
    limit = has.limit ∙ is.limit;
  }
    where
      go : (o q : ℕ) (b : Bool) → eqb q n ≡ b → cond b (is_key o (key_at key_of (item_at n ys))) (is_in (o, q) old.pairs) ≡ is_key o (key_at key_of (item_at q ys))
      go o q true e = ap (λ (m : ℕ). is_key o (key_at key_of (item_at m ys))) (sym (eqb-true q n e))
      go o q false e = is.members o q ∙ ap (λ (p : Option A). is_key o (key_at key_of p)) (sym (moves.others q e))
