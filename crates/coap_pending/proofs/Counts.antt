-- How many items pass a test, and what holds of all, as items come, change and go.
use Rattle.std.proofs.Common.{◌≡◌, ℕ, ◌+◌, ◌≤◌, List, [], ◌∷◌, ◌++◌, length, Bool, true, false, cond, eqb, Some, refl, sym, arith}
use Rattle.std.specs.Prelude.{not, IfSome}
use Rattle.std.specs.List.{AllByRecursion}
use Rattle.std.proofs.lemmas.Bool.{eqb-true, eqb-false, eq-eqb, ne_eqb}
use Rattle.coap_pending.specs.Table.{Numbered, IsRising, item_at, without, changed_at, all_changed, count, passes}
use Rattle.coap_pending.proofs.Changes.{changed_at-below}
use Rattle.coap_pending.proofs.Tables.{none-below}

-- one where the test passes
abbrev pub one_if : Bool → ℕ
one_if b = cond b 1 0

module _ {A : Type 0} (test : A → Bool) where
  -- no more are counted than there are
  pub count-length : (xs : List (Numbered A)) → count test xs ≤ length xs
  count-length [] = omega arith
  count-length (x ∷ xs) = go (test x.1) (count-length xs)
    where
      go : (b : Bool) → count test xs ≤ length xs → one_if b + count test xs ≤ length (x ∷ xs)
      go true i = omega arith
      go false i = omega arith

  -- one more is counted where it passes the test
  pub count-push : (xs : List (Numbered A)) (x : Numbered A) → count test (xs ++ x ∷ []) ≡ count test xs + one_if (test x.1)
  count-push [] x = omega arith
  count-push (y ∷ xs) x = let i = count-push xs x in omega arith

  -- an item that passes no more is counted no more
  pub count-changed_at : (n least : ℕ) (f : A → A) (xs : List (Numbered A)) → IsRising least xs → IfSome (item_at n xs) (λ x. test (f x) ≡ false) → count test (changed_at n f xs) + one_if (passes test (item_at n xs)) ≡ count test xs
  count-changed_at n least f [] r off = refl
  count-changed_at n least f (x ∷ xs) r off = go (eqb x.0 n) refl (λ o. count-changed_at n x.0 f xs r.1 o)
    where
      go : (b : Bool) → eqb x.0 n ≡ b → (IfSome (item_at n xs) (λ y. test (f y) ≡ false) → count test (changed_at n f xs) + one_if (passes test (item_at n xs)) ≡ count test xs)
          → count test (changed_at n f (x ∷ xs)) + one_if (passes test (item_at n (x ∷ xs))) ≡ count test (x ∷ xs)
      go true t rest =
          let turned : eqb n x.0 ≡ true = eq-eqb n x.0 (sym (eqb-true x.0 n t)) in
          let others : changed_at n f xs ≡ xs = changed_at-below n f x.0 xs (omega (arith, eqb-true x.0 n t)) r.1 in
          let gone : test (f x.1) ≡ false = rw turned at off in
          rw (t, turned, others, gone) (omega arith)
      go false t rest =
          let turned : eqb n x.0 ≡ false = ne_eqb n x.0 (λ g. eqb-false x.0 n t (sym g)) in
          let off2 : IfSome (item_at n xs) (λ y. test (f y) ≡ false) = rw turned at off in
          let i = rest off2 in
          rw (t, turned) (omega arith)

  -- where one changes, it is counted by what it was, and then by what it is
  pub count-moved : (n least : ℕ) (f : A → A) (xs : List (Numbered A)) → IsRising least xs → count test (changed_at n f xs) + one_if (passes test (item_at n xs)) ≡ count test xs + one_if (passes (λ a. test (f a)) (item_at n xs))
  count-moved n least f [] r = refl
  count-moved n least f (x ∷ xs) r = go (eqb x.0 n) refl (count-moved n x.0 f xs r.1)
    where
      go : (b : Bool) → eqb x.0 n ≡ b → count test (changed_at n f xs) + one_if (passes test (item_at n xs)) ≡ count test xs + one_if (passes (λ a. test (f a)) (item_at n xs))
          → count test (changed_at n f (x ∷ xs)) + one_if (passes test (item_at n (x ∷ xs))) ≡ count test (x ∷ xs) + one_if (passes (λ a. test (f a)) (item_at n (x ∷ xs)))
      go true t rest =
          let turned : eqb n x.0 ≡ true = eq-eqb n x.0 (sym (eqb-true x.0 n t)) in
          let others : changed_at n f xs ≡ xs = changed_at-below n f x.0 xs (omega (arith, eqb-true x.0 n t)) r.1 in
          rw (t, turned, others) (omega arith)
      go false t rest =
          let turned : eqb n x.0 ≡ false = ne_eqb n x.0 (λ g. eqb-false x.0 n t (sym g)) in
          rw (t, turned) (omega arith)

  -- of a test that passes more, more are counted
  pub count-less : (more : A → Bool) → ((a : A) → test a ≡ true → more a ≡ true) → (xs : List (Numbered A)) → count test xs ≤ count more xs
  count-less more sub [] = omega arith
  count-less more sub (x ∷ xs) = go (test x.1) (more x.1) (sub x.1) (count-less more sub xs)
    where
      go : (b c : Bool) → (b ≡ true → c ≡ true) → count test xs ≤ count more xs → one_if b + count test xs ≤ one_if c + count more xs
      go true true h i = omega arith
      go true false h i = absurd (let f = h refl in cc)
      go false true h i = omega arith
      go false false h i = omega arith

  -- where a change doesn't touch what is tested, as many are counted as before
  pub count-kept : (n : ℕ) (f : A → A) (xs : List (Numbered A)) → ((a : A) → test (f a) ≡ test a) → count test (changed_at n f xs) ≡ count test xs
  count-kept n f [] same = refl
  count-kept n f (x ∷ xs) same = go (eqb x.0 n) (count-kept n f xs same)
    where
      go : (b : Bool) → count test (changed_at n f xs) ≡ count test xs → one_if (test (cond b (x.0, f x.1) x).1) + count test (changed_at n f xs) ≡ one_if (test x.1) + count test xs
      go true i = rw (same x.1, i) refl
      go false i = rw i refl

  pub count-all_changed : (f : A → A) (xs : List (Numbered A)) → ((a : A) → test (f a) ≡ test a) → count test (all_changed f xs) ≡ count test xs
  count-all_changed f [] same = refl
  count-all_changed f (x ∷ xs) same = rw (same x.1, count-all_changed f xs same) refl

  -- an item that is taken out is counted no more
  pub count-without : (n least : ℕ) (xs : List (Numbered A)) → IsRising least xs → count test (without n xs) + one_if (passes test (item_at n xs)) ≡ count test xs
  count-without n least [] r = refl
  count-without n least (x ∷ xs) r = go (eqb x.0 n) refl (count-without n x.0 xs r.1)
    where
      go : (b : Bool) → eqb x.0 n ≡ b → count test (without n xs) + one_if (passes test (item_at n xs)) ≡ count test xs
          → count test (without n (x ∷ xs)) + one_if (passes test (item_at n (x ∷ xs))) ≡ count test (x ∷ xs)
      go true t rest =
          let turned : eqb n x.0 ≡ true = eq-eqb n x.0 (sym (eqb-true x.0 n t)) in
          let others : without n xs ≡ xs = none-below n x.0 xs (omega (arith, eqb-true x.0 n t)) r.1 in
          rw (t, turned, others) (omega arith)
      go false t rest =
          let turned : eqb n x.0 ≡ false = ne_eqb n x.0 (λ g. eqb-false x.0 n t (sym g)) in
          rw (t, turned) (omega arith)

-- ---- what holds of all

module _ {A : Type 0} (P : A → Type 0) where
  abbrev pub AllItems : List (Numbered A) → Type 0
  AllItems xs = AllByRecursion (λ x. P x.1) xs

  -- what holds of all holds of the one of a number
  pub all-at : (n : ℕ) (xs : List (Numbered A)) → AllItems xs → IfSome (item_at n xs) P
  all-at n [] all = tt
  all-at n (x ∷ xs) all = go (eqb n x.0) (all-at n xs all.1)
    where
      go : (b : Bool) → IfSome (item_at n xs) P → IfSome (cond b (Some x.1) (item_at n xs)) P
      go true rest = all.0
      go false rest = rest

  pub all-push : (xs : List (Numbered A)) (x : Numbered A) → AllItems xs → P x.1 → AllItems (xs ++ x ∷ [])
  all-push [] x all p = (p, tt)
  all-push (y ∷ xs) x all p = (all.0, all-push xs x all.1 p)

  pub all-changed_at : (n : ℕ) (f : A → A) (xs : List (Numbered A)) → ((a : A) → P a → P (f a)) → AllItems xs → AllItems (changed_at n f xs)
  all-changed_at n f [] keeps all = tt
  all-changed_at n f (x ∷ xs) keeps all = (go (eqb x.0 n), all-changed_at n f xs keeps all.1)
    where
      go : (b : Bool) → P (cond b (x.0, f x.1) x).1
      go true = keeps x.1 all.0
      go false = all.0

  pub all-all_changed : (f : A → A) (xs : List (Numbered A)) → ((a : A) → P a → P (f a)) → AllItems xs → AllItems (all_changed f xs)
  all-all_changed f [] keeps all = tt
  all-all_changed f (x ∷ xs) keeps all = (keeps x.1 all.0, all-all_changed f xs keeps all.1)

  pub all-without : (n : ℕ) (xs : List (Numbered A)) → AllItems xs → AllItems (without n xs)
  all-without n [] all = tt
  all-without n (x ∷ xs) all = go (eqb x.0 n) (all-without n xs all.1)
    where
      go : (b : Bool) → AllItems (without n xs) → AllItems (cond (not b) (x ∷ without n xs) (without n xs))
      go true rest = rest
      go false rest = (all.0, rest)
