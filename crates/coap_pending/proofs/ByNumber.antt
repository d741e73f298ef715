-- Items in order of number: what a map holds in any order, as a table shows it.
use Rattle.std.proofs.Common.{◌≡◌, ℕ, ◌+◌, ◌<◌, List, [], ◌∷◌, ◌++◌, length, Bool, true, false, cond, eqb, ltb, Option, Some, None, refl, sym, ap, subst, ◌∙◌, arith, inl, inr}
use Rattle.std.specs.List.{AllByRecursion, IsDistinct}
use Rattle.std.specs.Map.{keys_of, set_value}
use Rattle.std.proofs.lemmas.Bool.{cases_order, eqb-true, eqb-false, eq-eqb, le-ltb, ltb-true, ltb-false, ne_eqb}
use Rattle.coap_pending.specs.Due.{sooner, due_row, first_due}
use Rattle.coap_pending.specs.Table.{Numbered, IsRising, item_at, without, placed, by_number}
use Rattle.coap_pending.proofs.Sooner.{sooner_assoc, sooner_comm}
use Rattle.coap_pending.proofs.Tables.{AllBelow, above-least, none-least, without-gone, without-others, IsRising-without}

-- ---- the same items

-- one more
length-placed : {A : Type 0} (x : Numbered A) (ys : List (Numbered A)) → length (placed x ys) ≡ length ys + 1
length-placed x [] = refl
length-placed {A} x (y ∷ ys) = go (ltb y.0 x.0) (length-placed x ys)
  where
    go : (b : Bool) → length (placed x ys) ≡ length ys + 1 → length (cond b (y ∷ placed x ys) (x ∷ y ∷ ys)) ≡ length (y ∷ ys) + 1
    go true i = omega (arith, i)
    go false i = omega arith

-- as many
pub length-by_number : {A : Type 0} (xs : List (Numbered A)) → length (by_number xs) ≡ length xs
length-by_number [] = refl
length-by_number (x ∷ xs) = omega (arith, length-by_number xs, length-placed x (by_number xs))

-- one more number has an item
item_at-placed : {A : Type 0} (n : ℕ) (x : Numbered A) (ys : List (Numbered A)) → item_at n (placed x ys) ≡ cond (eqb n x.0) (Some x.1) (item_at n ys)
item_at-placed n x [] = refl
item_at-placed {A} n x (y ∷ ys) = go (ltb y.0 x.0) refl (eqb n y.0) refl (item_at-placed n x ys)
  where
    go : (b : Bool) → ltb y.0 x.0 ≡ b → (c : Bool) → eqb n y.0 ≡ c → item_at n (placed x ys) ≡ cond (eqb n x.0) (Some x.1) (item_at n ys) → item_at n (cond b (y ∷ placed x ys) (x ∷ y ∷ ys)) ≡ cond (eqb n x.0) (Some x.1) (item_at n (y ∷ ys))
    go false lt c e i = refl
    go true lt true e i =
        let other : eqb n x.0 ≡ false = ne_eqb n x.0 (λ f. omega (arith, ltb-true y.0 x.0 lt, eqb-true n y.0 e)) in
        rw (e, other) refl
    go true lt false e i = rw e i

-- each number has the same item
pub item_at-by_number : {A : Type 0} (n : ℕ) (xs : List (Numbered A)) → item_at n (by_number xs) ≡ item_at n xs
item_at-by_number n [] = refl
item_at-by_number {A} n (x ∷ xs) = item_at-placed n x (by_number xs) ∙ ap (λ (o : Option A). cond (eqb n x.0) (Some x.1) o) (item_at-by_number n xs)

-- what holds of all holds of the new one and of the others
all-placed : {A : Type 0} (P : Numbered A → Type 0) (x : Numbered A) (ys : List (Numbered A)) → AllByRecursion P (placed x ys) → P x × AllByRecursion P ys
all-placed P x [] all = all
all-placed {A} P x (y ∷ ys) all = go (ltb y.0 x.0) (all-placed P x ys) all
  where
    go : (b : Bool) → (AllByRecursion P (placed x ys) → P x × AllByRecursion P ys) → AllByRecursion P (cond b (y ∷ placed x ys) (x ∷ y ∷ ys)) → P x × AllByRecursion P (y ∷ ys)
    go true i all = let both = i all.1 in (both.0, (all.0, both.1))
    go false i all = all

-- what holds of all in order holds of all
all-by_number : {A : Type 0} (P : Numbered A → Type 0) (xs : List (Numbered A)) → AllByRecursion P (by_number xs) → AllByRecursion P xs
all-by_number P [] all = tt
all-by_number P (x ∷ xs) all = let both = all-placed P x (by_number xs) all in (both.0, all-by_number P xs both.1)

-- ---- one is taken in

-- a greater number stays last
placed-last : {A : Type 0} (n : ℕ) (a : A) (x : Numbered A) (ys : List (Numbered A)) → x.0 < n → placed x (ys ++ (n, a) ∷ []) ≡ placed x ys ++ (n, a) ∷ []
placed-last n a x [] lt = rw (le-ltb n x.0 (omega (arith, lt))) refl
placed-last {A} n a x (y ∷ ys) lt = go (ltb y.0 x.0) (placed-last n a x ys lt)
  where
    go : (b : Bool) → placed x (ys ++ (n, a) ∷ []) ≡ placed x ys ++ (n, a) ∷ [] → cond b (y ∷ placed x (ys ++ (n, a) ∷ [])) (x ∷ y ∷ (ys ++ (n, a) ∷ [])) ≡ cond b (y ∷ placed x ys) (x ∷ y ∷ ys) ++ (n, a) ∷ []
    go true i = ap (λ (l : List (Numbered A)). y ∷ l) i
    go false i = refl

-- a number above all others goes to the end
pub by_number-last : {A : Type 0} (n : ℕ) (a : A) (xs : List (Numbered A)) → AllBelow n (by_number xs) → by_number (xs ++ (n, a) ∷ []) ≡ by_number xs ++ (n, a) ∷ []
by_number-last {A} n a xs below = go xs (all-by_number (λ x. x.0 < n) xs below)
  where
    go : (ys : List (Numbered A)) → AllBelow n ys → by_number (ys ++ (n, a) ∷ []) ≡ by_number ys ++ (n, a) ∷ []
    go [] all = refl
    go (y ∷ ys) all = ap (placed y) (go ys all.1) ∙ placed-last n a y (by_number ys) all.0

-- ---- one is changed

-- the new one is changed, or one of the others is
set_value-placed : {A : Type 0} (n : ℕ) (w : A) (x : Numbered A) (ys : List (Numbered A)) → set_value (eqb n) (placed x ys) w ≡ cond (eqb n x.0) (placed (x.0, w) ys) (placed x (set_value (eqb n) ys w))
set_value-placed n w x [] = refl
set_value-placed {A} n w x (y ∷ ys) = go (ltb y.0 x.0) refl (eqb n y.0) refl (eqb n x.0) refl (set_value-placed n w x ys)
  where
    go : (b : Bool) → ltb y.0 x.0 ≡ b → (c : Bool) → eqb n y.0 ≡ c → (d : Bool) → eqb n x.0 ≡ d
        → set_value (eqb n) (placed x ys) w ≡ cond (eqb n x.0) (placed (x.0, w) ys) (placed x (set_value (eqb n) ys w))
        → set_value (eqb n) (cond b (y ∷ placed x ys) (x ∷ y ∷ ys)) w ≡ cond d (cond b (y ∷ placed (x.0, w) ys) ((x.0, w) ∷ y ∷ ys)) (placed x (set_value (eqb n) (y ∷ ys) w))
    go true lt true e true f i = absurd (omega (arith, ltb-true y.0 x.0 lt, eqb-true n y.0 e, eqb-true n x.0 f))
    go true lt true e false f i = rw (e, lt) refl
    go true lt false e true f i = rw e (ap (λ (l : List (Numbered A)). y ∷ l) (rw f at i))
    go true lt false e false f i = rw (e, lt) (ap (λ (l : List (Numbered A)). y ∷ l) (rw f at i))
    go false lt c e true f i = rw f refl
    go false lt true e false f i = rw (f, e, lt) refl
    go false lt false e false f i = rw (f, e, lt) refl

-- a change keeps the order
pub by_number-set_value : {A : Type 0} (n : ℕ) (w : A) (xs : List (Numbered A)) → by_number (set_value (eqb n) xs w) ≡ set_value (eqb n) (by_number xs) w
by_number-set_value n w [] = refl
by_number-set_value {A} n w (x ∷ xs) = go (eqb n x.0) refl (by_number-set_value n w xs)
  where
    go : (b : Bool) → eqb n x.0 ≡ b → by_number (set_value (eqb n) xs w) ≡ set_value (eqb n) (by_number xs) w → by_number (cond b ((x.0, w) ∷ xs) (x ∷ set_value (eqb n) xs w)) ≡ set_value (eqb n) (placed x (by_number xs)) w
    go true e i =
        let step : set_value (eqb n) (placed x (by_number xs)) w ≡ placed (x.0, w) (by_number xs) = rw e at (set_value-placed {A = A} n w x (by_number xs)) in
        sym step
    go false e i =
        let step : set_value (eqb n) (placed x (by_number xs)) w ≡ placed x (set_value (eqb n) (by_number xs) w) = rw e at (set_value-placed {A = A} n w x (by_number xs)) in
        ap (placed x) i ∙ sym step

-- ---- one is taken out

-- a number that differs from all has no item
other-none : {A : Type 0} (n : ℕ) (xs : List (Numbered A)) → AllByRecursion (λ m. eqb n m ≡ false) (keys_of xs) → item_at n xs ≡ None
other-none n [] all = refl
other-none n (x ∷ xs) all = rw all.0 (other-none n xs all.1)

-- numbers rise with one that has no item yet
rising-placed : {A : Type 0} (least : ℕ) (x : Numbered A) (ys : List (Numbered A)) → least < x.0 → item_at x.0 ys ≡ None → IsRising least ys → IsRising least (placed x ys)
rising-placed least x [] lt free r = (lt, tt)
rising-placed {A} least x (y ∷ ys) lt free r = go (eqb x.0 y.0) refl (ltb y.0 x.0) refl (rising-placed y.0 x ys)
  where
    go : (c : Bool) → eqb x.0 y.0 ≡ c → (b : Bool) → ltb y.0 x.0 ≡ b → (y.0 < x.0 → item_at x.0 ys ≡ None → IsRising y.0 ys → IsRising y.0 (placed x ys)) → IsRising least (cond b (y ∷ placed x ys) (x ∷ y ∷ ys))
    go true e b f i = absurd (let found : Some y.1 ≡ None = rw e at free in cc)
    go false e true f i = let rest : item_at x.0 ys ≡ None = rw e at free in (r.0, i (ltb-true y.0 x.0 f) rest r.1)
    go false e false f i = (lt, (omega (arith, ltb-false y.0 x.0 f, eqb-false x.0 y.0 e), r.1))

-- numbers that differ rise in order
rising-by_number : {A : Type 0} (xs : List (Numbered A)) → IsDistinct eqb (keys_of xs) → AllByRecursion (λ x. 0 < x.0) xs → IsRising 0 (by_number xs)
unfolding IsDistinct
rising-by_number [] distinct positive = tt
rising-by_number (x ∷ xs) distinct positive = rising-placed 0 x (by_number xs) positive.0 (item_at-by_number x.0 xs ∙ other-none x.0 xs distinct.0) (rising-by_number xs distinct.1 positive.1)

-- what holds of each number that has an item
all-numbers : {A : Type 0} (P : ℕ → Type 0) (xs : List (Numbered A)) → ((n : ℕ) (a : A) → item_at n xs ≡ Some a → P n) → AllByRecursion (λ x. P x.0) xs
all-numbers P [] of = tt
all-numbers {A} P (x ∷ xs) of = (of x.0 x.1 (rw (eq-eqb x.0 x.0 refl) refl), all-numbers P xs (λ n a e. go n a e (eqb n x.0) refl))
  where
    go : (n : ℕ) (a : A) → item_at n xs ≡ Some a → (b : Bool) → eqb n x.0 ≡ b → P n
    go n a e true f = of n x.1 (rw f refl)
    go n a e false f = of n a (rw f e)

-- rising lists in which each number has the same item are equal
same-items : {A : Type 0} (least : ℕ) (xs ys : List (Numbered A)) → IsRising least xs → IsRising least ys → ((n : ℕ) → item_at n xs ≡ item_at n ys) → xs ≡ ys
same-items least [] [] r s same = refl
same-items {A} least [] (y ∷ ys) r s same = absurd (let e : None ≡ Some y.1 = rw (eq-eqb y.0 y.0 refl) at (same y.0) in cc)
same-items {A} least (x ∷ xs) [] r s same = absurd (let e : Some x.1 ≡ None = rw (eq-eqb x.0 x.0 refl) at (same x.0) in cc)
same-items {A} least (x ∷ xs) (y ∷ ys) r s same = elim (cases_order x.0 y.0) [
  | inl e ↦ both e (same-items x.0 xs ys r.1)
  | inr o ↦ elim o [
    | inl lt ↦ absurd (
        let none : item_at x.0 (y ∷ ys) ≡ None = none-least x.0 x.0 (y ∷ ys) (omega arith) (lt, s.1) in
        let e : Some x.1 ≡ item_at x.0 (y ∷ ys) = rw (eq-eqb x.0 x.0 refl) at (same x.0) in
        let f : Some x.1 ≡ None = e ∙ none in cc)
    | inr lt ↦ absurd (
        let none : item_at y.0 (x ∷ xs) ≡ None = none-least y.0 y.0 (x ∷ xs) (omega arith) (lt, r.1) in
        let e : item_at y.0 (x ∷ xs) ≡ Some y.1 = rw (eq-eqb y.0 y.0 refl) at (same y.0) in
        let f : None ≡ Some y.1 = sym none ∙ e in cc)
  ]
]
  where
    pairs : (p q : ℕ) (a b : A) → p ≡ q → a ≡ b → (p, a) ∷ xs ≡ (q, b) ∷ xs
    pairs p q a b e f = rw (e, f) refl

    others : x.0 ≡ y.0 → (n : ℕ) (b : Bool) → eqb n x.0 ≡ b → item_at n xs ≡ item_at n ys
    others e n true f =
        let same_number = eqb-true n x.0 f in
        none-least n x.0 xs (omega arith) r.1 ∙ sym (none-least n y.0 ys (omega arith) s.1)
    others e n false f =
        let off : eqb n y.0 ≡ false = subst (λ (m : ℕ). eqb n m ≡ false) e f in
        rw (f, off) at (same n)

    both : x.0 ≡ y.0 → (IsRising x.0 ys → ((n : ℕ) → item_at n xs ≡ item_at n ys) → xs ≡ ys) → x ∷ xs ≡ y ∷ ys
    both e tails =
        let first : Some x.1 ≡ Some y.1 = rw (eq-eqb x.0 x.0 refl, eq-eqb x.0 y.0 e) at (same x.0) in
        let value : x.1 ≡ y.1 = cc in
        let rest : (n : ℕ) → item_at n xs ≡ item_at n ys = λ n. others e n (eqb n x.0) refl in
        pairs x.0 y.0 x.1 y.1 e value ∙ ap (λ (l : List (Numbered A)). y ∷ l) (tails (subst (λ (m : ℕ). IsRising m ys) (sym e) s.1) rest)

-- one that is taken out of a map is taken out of its items in order, wherever the map moves the others
pub by_number-removed : {A : Type 0} (n : ℕ) (xs ys : List (Numbered A)) → IsRising 0 (by_number xs) → IsDistinct eqb (keys_of ys) → ((m : ℕ) → item_at m ys ≡ cond (eqb n m) None (item_at m xs)) → by_number ys ≡ without n (by_number xs)
by_number-removed {A} n xs ys r distinct gone =
    same-items 0 (by_number ys) (without n (by_number xs)) (rising-by_number ys distinct (all-numbers (λ m. 0 < m) ys (λ m a e. positive m a e (eqb n m) refl))) (IsRising-without n 0 (by_number xs) r) (λ m. same m (eqb n m) refl)
  where
    positive : (m : ℕ) (a : A) → item_at m ys ≡ Some a → (b : Bool) → eqb n m ≡ b → 0 < m
    positive m a e true f = absurd (let none : item_at m ys ≡ None = rw f at (gone m) in let g : None ≡ Some a = sym none ∙ e in cc)
    positive m a e false f =
        let kept : item_at m ys ≡ item_at m xs = rw f at (gone m) in
        above-least m 0 (by_number xs) a r (item_at-by_number m xs ∙ sym kept ∙ e)

    same : (m : ℕ) (b : Bool) → eqb n m ≡ b → item_at m (by_number ys) ≡ item_at m (without n (by_number xs))
    same m true f =
        let none : item_at m ys ≡ None = rw f at (gone m) in
        let out : item_at m (without n (by_number xs)) ≡ None = subst (λ (k : ℕ). item_at k (without n (by_number xs)) ≡ None) (eqb-true n m f) (without-gone n (by_number xs)) in
        item_at-by_number m ys ∙ none ∙ sym out
    same m false f =
        let kept : item_at m ys ≡ item_at m xs = rw f at (gone m) in
        item_at-by_number m ys ∙ kept ∙ sym (item_at-by_number m xs) ∙ sym (without-others n m (by_number xs) (ne_eqb m n (λ e. eqb-false n m f (sym e))))

-- ---- what is due first

module _ {A : Type 0} (due : A → Option ℕ) where
  -- the new one, or what is due first of the others
  first_due-placed : (x : Numbered A) (ys : List (Numbered A)) → first_due due (placed x ys) ≡ sooner (due_row due x) (first_due due ys)
  first_due-placed x [] = refl
  first_due-placed x (y ∷ ys) = go (ltb y.0 x.0) (first_due-placed x ys)
    where
      go : (b : Bool) → first_due due (placed x ys) ≡ sooner (due_row due x) (first_due due ys) → first_due due (cond b (y ∷ placed x ys) (x ∷ y ∷ ys)) ≡ sooner (due_row due x) (first_due due (y ∷ ys))
      go true i =
          let o = due_row due x in
          let p = due_row due y in
          let rest = first_due due ys in
          ap (sooner p) i ∙ sym (sooner_assoc p o rest) ∙ ap (λ (q : Option (ℕ × ℕ)). sooner q rest) (sooner_comm p o) ∙ sooner_assoc o p rest
      go false i = refl

  -- it doesn't matter in which order items are compared
  pub first_due-by_number : (xs : List (Numbered A)) → first_due due (by_number xs) ≡ first_due due xs
  first_due-by_number [] = refl
  first_due-by_number (x ∷ xs) = first_due-placed x (by_number xs) ∙ ap (sooner (due_row due x)) (first_due-by_number xs)
