-- Tables in order of number, as lists: what is taken in and what is taken out.
use Rattle.std.proofs.Common.{◌≡◌, ℕ, ◌+◌, ◌<◌, ◌≤◌, List, [], ◌∷◌, ◌++◌, length, length-append, ◌-◌, Bool, true, false, cond, eqb, Option, Some, None, refl, sym, ap, ◌∙◌, subst, arith}
use Rattle.std.specs.Prelude.{not}
use Rattle.std.specs.List.{AllByRecursion}
use Rattle.std.proofs.lemmas.Bool.{eqb-true, eqb-false, eq-eqb, ne_eqb}
use Rattle.coap_pending.specs.Table.{Numbered, Table, IsRising, IsTable, item_at, admitted_to, without, withdrawn_at, withdrawn}

-- ---- one is taken in

-- each number is below this one
abbrev pub AllBelow : {A : Type 0} → ℕ → List (Numbered A) → Type 0
AllBelow n xs = AllByRecursion (λ x. x.0 < n) xs

-- numbers rise with a greater one at the end
pub IsRising-push : {A : Type 0} (least n : ℕ) (xs : List (Numbered A)) (a : A) → least < n → AllBelow n xs → IsRising least xs → IsRising least (xs ++ (n, a) ∷ [])
IsRising-push least n [] a lt below r = (lt, tt)
IsRising-push least n (x ∷ xs) a lt below r = (r.0, IsRising-push x.0 n xs a below.0 below.1 r.1)

-- the next number is at most one above the last
below-push : {A : Type 0} (most : ℕ) (xs : List (Numbered A)) (a : A) → AllByRecursion (λ x. x.0 ≤ most) xs → AllByRecursion (λ x. x.0 ≤ most + 1) (xs ++ (most + 1, a) ∷ [])
below-push most [] a below = (omega arith, tt)
below-push most (x ∷ xs) a below = (let le = below.0 in omega arith, below-push most xs a below.1)

-- the next number is above all
pub all-below : {A : Type 0} (most : ℕ) (xs : List (Numbered A)) → AllByRecursion (λ x. x.0 ≤ most) xs → AllBelow (most + 1) xs
all-below most [] below = tt
all-below most (x ∷ xs) below = (let le = below.0 in omega arith, all-below most xs below.1)

-- a table with room stays one
pub admitted-is : {A : Type 0} (t : Table A) (a : A) → IsTable t → length t.items < t.limit → IsTable (admitted_to a t)
admitted-is t a is room =
    record {
      within = omega (arith, length-append t.items ((t.admitted + 1, a) ∷ []));
      rising = IsRising-push 0 (t.admitted + 1) t.items a (omega arith) (all-below t.admitted t.items is.below) is.rising;
      below = below-push t.admitted t.items a is.below;
    }

-- a table that isn't full has room
pub room-there : {A : Type 0} (t : Table A) → IsTable t → eqb (length t.items) t.limit ≡ false → length t.items < t.limit
room-there t is e = let le = is.within in omega (arith, eqb-false _ _ e)

-- ---- one is taken out

-- what rises from a number on rises from a lower one
IsRising-lower : {A : Type 0} (low high : ℕ) (xs : List (Numbered A)) → low ≤ high → IsRising high xs → IsRising low xs
IsRising-lower low high [] le r = tt
IsRising-lower low high (x ∷ xs) le r = (omega (arith, r.0), r.1)

-- numbers rise without one of them
pub IsRising-without : {A : Type 0} (n least : ℕ) (xs : List (Numbered A)) → IsRising least xs → IsRising least (without n xs)
IsRising-without n least [] r = tt
IsRising-without n least (x ∷ xs) r = go (eqb x.0 n) (IsRising-without n x.0 xs r.1)
  where
    go : (b : Bool) → IsRising x.0 (without n xs) → IsRising least (cond (not b) (x ∷ without n xs) (without n xs))
    go true rest = IsRising-lower least x.0 (without n xs) (omega (arith, r.0)) rest
    go false rest = (r.0, rest)

-- above the least nothing has its number or a lower one
pub none-below : {A : Type 0} (n least : ℕ) (xs : List (Numbered A)) → n ≤ least → IsRising least xs → without n xs ≡ xs
none-below n least [] le r = refl
none-below n least (x ∷ xs) le r =
    let other : eqb x.0 n ≡ false = ne_eqb _ _ (λ e. let above = r.0 in omega arith) in
    rw other (ap (λ (l : List (Numbered _)). x ∷ l) (none-below n x.0 xs (omega (arith, r.0)) r.1))

-- the other numbers keep their items
pub without-others : {A : Type 0} (n q : ℕ) (xs : List (Numbered A)) → eqb q n ≡ false → item_at q (without n xs) ≡ item_at q xs
without-others n q [] e = refl
without-others {A} n q (x ∷ xs) e = go (eqb x.0 n) refl (without-others n q xs e)
  where
    go : (b : Bool) → eqb x.0 n ≡ b → item_at q (without n xs) ≡ item_at q xs → item_at q (cond (not b) (x ∷ without n xs) (without n xs)) ≡ item_at q (x ∷ xs)
    go true f i =
        let other : eqb q x.0 ≡ false = ne_eqb q x.0 (λ g. eqb-false q n e (g ∙ eqb-true x.0 n f)) in
        i ∙ sym (ap (λ (b : Bool). cond b (Some x.1) (item_at q xs)) other)
    go false f i = ap (λ (o : Option A). cond (eqb q x.0) (Some x.1) o) i

-- the number has none then
pub without-gone : {A : Type 0} (n : ℕ) (xs : List (Numbered A)) → item_at n (without n xs) ≡ None
without-gone n [] = refl
without-gone {A} n (x ∷ xs) = go (eqb x.0 n) refl (without-gone n xs)
  where
    go : (b : Bool) → eqb x.0 n ≡ b → item_at n (without n xs) ≡ None → item_at n (cond (not b) (x ∷ without n xs) (without n xs)) ≡ None
    go true f i = i
    go false f i =
        let other : eqb n x.0 ≡ false = ne_eqb n x.0 (λ g. eqb-false x.0 n f (sym g)) in
        ap (λ (b : Bool). cond b (Some x.1) (item_at n (without n xs))) other ∙ i

-- what is left is no longer
length-fewer : {A : Type 0} (n : ℕ) (xs : List (Numbered A)) → length (without n xs) ≤ length xs
length-fewer n [] = omega arith
length-fewer n (x ∷ xs) = go (eqb x.0 n) (length-fewer n xs)
  where
    go : (b : Bool) → length (without n xs) ≤ length xs → length (cond (not b) (x ∷ without n xs) (without n xs)) ≤ length (x ∷ xs)
    go true i = omega arith
    go false i = omega arith

-- and not above what it was not above before
below-fewer : {A : Type 0} (n most : ℕ) (xs : List (Numbered A)) → AllByRecursion (λ x. x.0 ≤ most) xs → AllByRecursion (λ x. x.0 ≤ most) (without n xs)
below-fewer n most [] below = tt
below-fewer n most (x ∷ xs) below = go (eqb x.0 n) (below-fewer n most xs below.1)
  where
    go : (b : Bool) → AllByRecursion (λ y. y.0 ≤ most) (without n xs) → AllByRecursion (λ y. y.0 ≤ most) (cond (not b) (x ∷ without n xs) (without n xs))
    go true i = i
    go false i = (below.0, i)

-- a table without an item is one
pub closed-is : {A : Type 0} (n : ℕ) (t : Table A) → IsTable t → IsTable (record t { items = without n t.items })
closed-is n t is =
    record {
      within = let le = length-fewer n t.items in let within = is.within in omega arith;
      rising = IsRising-without n 0 t.items is.rising;
      below = below-fewer n t.admitted t.items is.below;
    }

-- ---- the last is taken out again

-- what is at or below a number is below it without its item
below-last : {A : Type 0} (n : ℕ) (xs : List (Numbered A)) → AllByRecursion (λ x. x.0 ≤ n) xs → AllByRecursion (λ x. x.0 ≤ n - 1) (without n xs)
below-last n [] below = tt
below-last n (x ∷ xs) below = go (eqb x.0 n) refl (below-last n xs below.1)
  where
    go : (b : Bool) → eqb x.0 n ≡ b → AllByRecursion (λ y. y.0 ≤ n - 1) (without n xs) → AllByRecursion (λ y. y.0 ≤ n - 1) (cond (not b) (x ∷ without n xs) (without n xs))
    go true e i = i
    go false e i = (omega (arith, below.0, eqb-false x.0 n e), i)

-- a number that has an item is above the least
pub above-least : {A : Type 0} (n least : ℕ) (xs : List (Numbered A)) (a : A) → IsRising least xs → item_at n xs ≡ Some a → least < n
above-least n least [] a r e = absurd cc
above-least {A} n least (x ∷ xs) a r e = go (eqb n x.0) refl (λ f. above-least n x.0 xs a r.1 f)
  where
    go : (b : Bool) → eqb n x.0 ≡ b → (item_at n xs ≡ Some a → x.0 < n) → least < n
    go true t rest = omega (arith, r.0, eqb-true n x.0 t)
    go false t rest =
        let found : item_at n xs ≡ Some a = rw t at e in
        omega (arith, r.0, rest found)

-- at or below the least no number has an item
pub none-least : {A : Type 0} (n least : ℕ) (xs : List (Numbered A)) → n ≤ least → IsRising least xs → item_at n xs ≡ None
none-least {A} n least xs le r = go (item_at n xs) refl
  where
    go : (o : Option A) → item_at n xs ≡ o → o ≡ None
    go None e = refl
    go (Some a) e = absurd (let lt = above-least n least xs a r e in omega arith)

-- a table stays one where its last number is given back, by what stood there
withdrawn_at-is : {A : Type 0} (o : Option A) (t : Table A) → IsTable t → IsTable (withdrawn_at o t)
withdrawn_at-is None t is = is
withdrawn_at-is (Some a) t is =
    record {
      within = let le = length-fewer t.admitted t.items in let within = is.within in omega arith;
      rising = IsRising-without t.admitted 0 t.items is.rising;
      below = below-last t.admitted t.items is.below;
    }

-- and in any case
pub withdrawn-is : {A : Type 0} (t : Table A) → IsTable t → IsTable (withdrawn t)
withdrawn-is t is = withdrawn_at-is (item_at t.admitted t.items) t is

-- it may hold as many as before
pub withdrawn-limit : {A : Type 0} (t : Table A) → (withdrawn t).limit ≡ t.limit
withdrawn-limit {A} t = go (item_at t.admitted t.items)
  where
    go : (o : Option A) → (withdrawn_at o t).limit ≡ t.limit
    go None = refl
    go (Some a) = refl

-- a number that has no item
without-none : {A : Type 0} (n : ℕ) (xs : List (Numbered A)) → item_at n xs ≡ None → without n xs ≡ xs
without-none n [] e = refl
without-none {A} n (x ∷ xs) e = go (eqb n x.0) refl (λ f. without-none n xs f)
  where
    go : (b : Bool) → eqb n x.0 ≡ b → (item_at n xs ≡ None → without n xs ≡ xs) → without n (x ∷ xs) ≡ x ∷ xs
    go true t rest = absurd (let found : Some x.1 ≡ None = rw t at e in cc)
    go false t rest =
        let turned : eqb x.0 n ≡ false = ne_eqb x.0 n (λ f. eqb-false n x.0 t (sym f)) in
        let found : item_at n xs ≡ None = rw t at e in
        rw turned (ap (λ (l : List (Numbered A)). x ∷ l) (rest found))

-- a table stays one where its last number is given back, which no item has
pub given-back-is : {A : Type 0} (t : Table A) → IsTable t → item_at t.admitted t.items ≡ None → IsTable (record t { admitted = t.admitted - 1 })
given-back-is {A} t is gone =
    record {
      within = is.within;
      rising = is.rising;
      below = subst (λ (xs : List (Numbered A)). AllByRecursion (λ x. x.0 ≤ t.admitted - 1) xs) (without-none t.admitted t.items gone) (below-last t.admitted t.items is.below);
    }

-- no item stands above the last number
none-above : {A : Type 0} (most n : ℕ) (xs : List (Numbered A)) → most < n → AllByRecursion (λ x. x.0 ≤ most) xs → item_at n xs ≡ None
none-above most n [] lt below = refl
none-above most n (x ∷ xs) lt below = rw (ne_eqb n x.0 (λ e. let le = below.0 in omega arith)) (none-above most n xs lt below.1)

-- so the next number has none
pub item_at-fresh : {A : Type 0} (t : Table A) → IsTable t → item_at (t.admitted + 1) t.items ≡ None
item_at-fresh t is = none-above t.admitted (t.admitted + 1) t.items (omega arith) is.below

-- until one is put there
pub item_at-last : {A : Type 0} (most n : ℕ) (xs : List (Numbered A)) (a : A) → most < n → AllByRecursion (λ x. x.0 ≤ most) xs → item_at n (xs ++ (n, a) ∷ []) ≡ Some a
item_at-last most n [] a lt below = rw (eq-eqb n n refl) refl
item_at-last most n (x ∷ xs) a lt below = rw (ne_eqb n x.0 (λ e. let le = below.0 in omega arith)) (item_at-last most n xs a lt below.1)

-- and what was put there and taken out leaves what was before
without-last : {A : Type 0} (most n : ℕ) (xs : List (Numbered A)) (a : A) → most < n → AllByRecursion (λ x. x.0 ≤ most) xs → without n (xs ++ (n, a) ∷ []) ≡ xs
without-last most n [] a lt below = rw (eq-eqb n n refl) refl
without-last {A} most n (x ∷ xs) a lt below =
    rw (ne_eqb x.0 n (λ e. let le = below.0 in omega arith)) (ap (λ (l : List (Numbered A)). x ∷ l) (without-last most n xs a lt below.1))

-- what was admitted last is withdrawn as if it had never been there
pub withdrawn-admitted : {A : Type 0} (before : Table A) (a : A) → IsTable before → withdrawn (admitted_to a before) ≡ before
withdrawn-admitted {A} before a is =
    let there : item_at (before.admitted + 1) (before.items ++ (before.admitted + 1, a) ∷ []) ≡ Some a = item_at-last before.admitted (before.admitted + 1) before.items a (omega arith) is.below in
    let items : without (before.admitted + 1) (before.items ++ (before.admitted + 1, a) ∷ []) ≡ before.items = without-last before.admitted (before.admitted + 1) before.items a (omega arith) is.below in
    let number : before.admitted + 1 - 1 ≡ before.admitted = omega arith in
    rw (there, items, number) refl

-- what a withdrawal leaves is the table from before the admission that it undoes
pub withdrawn-undoes : {A : Type 0} {left t : Table A} → left ≡ withdrawn t → (before : Table A) (a : A) → IsTable before → t ≡ admitted_to a before → left ≡ before
withdrawn-undoes withdrew before a is same = withdrew ∙ ap withdrawn same ∙ withdrawn-admitted before a is

-- no item has the last number once the one that had it is removed
pub last-free : {A : Type 0} {left : Table A} {n : ℕ} (t : Table A) → left ≡ record t { items = without n t.items } → n ≡ t.admitted → item_at left.admitted left.items ≡ None
last-free t is last = rw (is, last) (without-gone t.admitted t.items)

-- the others stay where the last is withdrawn
pub withdrawn-others : {A : Type 0} (t : Table A) (q : ℕ) → eqb q t.admitted ≡ false → item_at q (withdrawn t).items ≡ item_at q t.items
withdrawn-others {A} t q e = go (item_at t.admitted t.items)
  where
    go : (o : Option A) → item_at q (withdrawn_at o t).items ≡ item_at q t.items
    go None = refl
    go (Some a) = without-others t.admitted q t.items e
