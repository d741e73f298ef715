-- Items of a table change: the table keeps its numbers, and the others stay.
use Rattle.std.proofs.Common.{◌≡◌, ℕ, ◌≤◌, List, [], ◌∷◌, length, Bool, true, false, cond, eqb, Option, Some, None, refl, sym, ap, ◌∙◌, arith}
use Rattle.std.specs.Prelude.{IfSome, IfNone}
use Rattle.std.specs.List.{AllByRecursion}
use Rattle.std.specs.Map.{set_value}
use Rattle.std.proofs.lemmas.Bool.{eqb-true, eqb-false, eq-eqb, ne_eqb}
use Rattle.coap_pending.proofs.ByNumber.{item_at-by_number, by_number-set_value}
use Rattle.coap_pending.specs.Table.{Numbered, Table, IsRising, IsTable, changed, changed_at, all_changed, item_at, by_number}

module _ {A : Type 0} (n : ℕ) (f : A → A) where
  -- what changes keeps its number
  pub changed-number : (y : Numbered A) → (changed n f y).0 ≡ y.0
  changed-number y = go (eqb y.0 n)
    where
      go : (b : Bool) → (cond b (y.0, f y.1) y).0 ≡ y.0
      go true = refl
      go false = refl

  -- there are as many as before
  pub length-changed_at : (xs : List (Numbered A)) → length (changed_at n f xs) ≡ length xs
  length-changed_at [] = refl
  length-changed_at (x ∷ xs) = let i = length-changed_at xs in omega arith

  -- their numbers rise as before
  pub IsRising-changed_at : (least : ℕ) (xs : List (Numbered A)) → IsRising least xs → IsRising least (changed_at n f xs)
  IsRising-changed_at least [] r = tt
  IsRising-changed_at least (x ∷ xs) r =
      let e = changed-number x in
      (rw e r.0, rw e (IsRising-changed_at x.0 xs r.1))

  -- and are not above what they were not above before
  below-changed_at : (most : ℕ) (xs : List (Numbered A)) → AllByRecursion (λ x. x.0 ≤ most) xs → AllByRecursion (λ x. x.0 ≤ most) (changed_at n f xs)
  below-changed_at most [] below = tt
  below-changed_at most (x ∷ xs) below = (rw (changed-number x) below.0, below-changed_at most xs below.1)

  -- a table stays one
  pub changed_at-is : (t : Table A) → IsTable t → IsTable (record t { items = changed_at n f t.items })
  changed_at-is t is =
      record {
        within = let same = length-changed_at t.items in let within = is.within in omega arith;
        rising = IsRising-changed_at 0 t.items is.rising;
        below = below-changed_at t.admitted t.items is.below;
      }

  -- numbers at or below the least don't change
  pub changed_at-below : (least : ℕ) (xs : List (Numbered A)) → n ≤ least → IsRising least xs → changed_at n f xs ≡ xs
  changed_at-below least [] le r = refl
  changed_at-below least (x ∷ xs) le r =
      let other : eqb x.0 n ≡ false = ne_eqb _ _ (λ e. let above = r.0 in omega arith) in
      rw other (ap (λ (l : List (Numbered A)). x ∷ l) (changed_at-below x.0 xs (omega (arith, r.0)) r.1))

  -- what is written through the key is what is made of it
  written-lookup : (least : ℕ) (xs : List (Numbered A)) → IsRising least xs → (x : A) → item_at n xs ≡ Some x → set_value (eqb n) xs (f x) ≡ changed_at n f xs
  written-lookup least [] r x e = absurd cc
  written-lookup least (y ∷ ys) r x e = go (eqb y.0 n) refl (λ g. written-lookup y.0 ys r.1 x g)
    where
      go : (b : Bool) → eqb y.0 n ≡ b → (item_at n ys ≡ Some x → set_value (eqb n) ys (f x) ≡ changed_at n f ys)
          → set_value (eqb n) (y ∷ ys) (f x) ≡ cond b (y.0, f y.1) y ∷ changed_at n f ys
      go true t rest =
          let same : y.0 ≡ n = eqb-true y.0 n t in
          let turned : eqb n y.0 ≡ true = eq-eqb n y.0 (sym same) in
          let found : Some y.1 ≡ Some x = rw turned at e in
          let value : y.1 ≡ x = cc in
          rw (turned, ← value) (ap (λ (l : List (Numbered A)). (y.0, f y.1) ∷ l) (sym (changed_at-below y.0 ys (omega arith) r.1)))
      go false t rest =
          let turned : eqb n y.0 ≡ false = ne_eqb n y.0 (λ g. eqb-false y.0 n t (sym g)) in
          let found : item_at n ys ≡ Some x = rw turned at e in
          rw turned (ap (λ (l : List (Numbered A)). y ∷ l) (rest found))

  -- where the number has no item, none changes
  changed_at-none : (xs : List (Numbered A)) → item_at n xs ≡ None → xs ≡ changed_at n f xs
  changed_at-none [] e = refl
  changed_at-none (y ∷ ys) e = go (eqb y.0 n) refl (λ g. changed_at-none ys g)
    where
      go : (b : Bool) → eqb y.0 n ≡ b → (item_at n ys ≡ None → ys ≡ changed_at n f ys) → y ∷ ys ≡ cond b (y.0, f y.1) y ∷ changed_at n f ys
      go true t rest =
          let turned : eqb n y.0 ≡ true = eq-eqb n y.0 (sym (eqb-true y.0 n t)) in
          absurd (let found : Some y.1 ≡ None = rw turned at e in cc)
      go false t rest =
          let turned : eqb n y.0 ≡ false = ne_eqb n y.0 (λ g. eqb-false y.0 n t (sym g)) in
          let found : item_at n ys ≡ None = rw turned at e in
          ap (λ (l : List (Numbered A)). y ∷ l) (rest found)

  -- what is written into a map through the key, if it is there, is the table with the item changed
  pub written-is : (least : ℕ) (xs ys : List (Numbered A)) → IsRising least (by_number xs) → IfSome (item_at n xs) (λ x. ys ≡ set_value (eqb n) xs (f x)) → IfNone (item_at n xs) (ys ≡ xs) → by_number ys ≡ changed_at n f (by_number xs)
  written-is least xs ys r some none = go (item_at n xs) refl some none
    where
      go : (o : Option A) → item_at n xs ≡ o → IfSome o (λ x. ys ≡ set_value (eqb n) xs (f x)) → IfNone o (ys ≡ xs) → by_number ys ≡ changed_at n f (by_number xs)
      go None e g h = ap by_number h ∙ changed_at-none (by_number xs) (item_at-by_number n xs ∙ e)
      go (Some x) e g h = ap by_number g ∙ by_number-set_value n (f x) xs ∙ written-lookup least (by_number xs) r x (item_at-by_number n xs ∙ e)

-- ---- all change

module _ {A : Type 0} (f : A → A) where
  length-all_changed : (xs : List (Numbered A)) → length (all_changed f xs) ≡ length xs
  length-all_changed [] = refl
  length-all_changed (x ∷ xs) = let i = length-all_changed xs in omega arith

  pub IsRising-all_changed : (least : ℕ) (xs : List (Numbered A)) → IsRising least xs → IsRising least (all_changed f xs)
  IsRising-all_changed least [] r = tt
  IsRising-all_changed least (x ∷ xs) r = (r.0, IsRising-all_changed x.0 xs r.1)

  below-all_changed : (most : ℕ) (xs : List (Numbered A)) → AllByRecursion (λ x. x.0 ≤ most) xs → AllByRecursion (λ x. x.0 ≤ most) (all_changed f xs)
  below-all_changed most [] below = tt
  below-all_changed most (x ∷ xs) below = (below.0, below-all_changed most xs below.1)
