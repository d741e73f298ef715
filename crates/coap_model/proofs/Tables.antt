-- Tables in order of number: what is found in them, and what remains of them.
use Rattle.std.proofs.Common.{◌≡◌, ◌≢◌, ◌⊎◌, inl, inr, ⊎_elim, ℕ, suc, ◌+◌, ◌<◌, ◌≤◌, List, [], ◌∷◌, ◌++◌, length, Bool, true, false, cond, eqb, Some, None, refl, sym, ap, ◌∙◌, arith}
use Rattle.std.specs.Prelude.{not}
use Rattle.std.specs.List.{AllByRecursion}
use Rattle.std.proofs.lemmas.Bool.{eqb-true, eqb-false, eq-eqb, ne_eqb}
use Rattle.std.proofs.lemmas.Option.{same_Some}
use Rattle.coap_pending.specs.Table.{Numbered, item_at, changed, changed_at, without, IsRising, count}
use Rattle.coap_pending.proofs.Counts.{one_if}
use Rattle.coap_pending.proofs.Tables.{none-below}
use Rattle.coap_model.proofs.Lists.{Has, Has-holds}
use Rattle.coap_pending.specs.declared.exchange.Exchange.{Exchange}
use Rattle.coap_pending.specs.declared.waiter.WaiterState.{WaiterState}
use Rattle.coap_pending.specs.declared.waiter.WaiterState.TheVariants.{Waiting, Delivering}
use Rattle.coap_model.specs.Carries.{HasNumber, HasExchange}

-- ---- what is found

-- an item of the table has a number above the least
pub Has-above : {A : Type 0} (least : ℕ) (xs : List (Numbered A)) (x : Numbered A) → IsRising least xs → Has x xs → least < x.0
Has-above least [] x r h = absurd h
Has-above {A} least (y ∷ ys) x r h =
    ⊎_elim
    (λ (same : x ≡ y). let n : x.0 ≡ y.0 = ap (λ (z : Numbered A). z.0) same in let above = r.0 in omega arith)
    (λ (there : Has x ys). let above = r.0 in let i = Has-above y.0 ys x r.1 there in omega arith)
    h

-- an item of the table is found by its number
pub Has-item : {A : Type 0} (least : ℕ) (xs : List (Numbered A)) (x : Numbered A) → IsRising least xs → Has x xs → item_at x.0 xs ≡ Some x.1
Has-item least [] x r h = absurd h
Has-item {A} least (y ∷ ys) x r h =
    ⊎_elim
    (λ (same : x ≡ y). let n : eqb x.0 y.0 ≡ true = eq-eqb _ _ (ap (λ (z : Numbered A). z.0) same) in rw n (ap (λ (z : Numbered A). Some z.1) (sym same)))
    (λ (there : Has x ys). let above = Has-above y.0 ys x r.1 there in let other : eqb x.0 y.0 ≡ false = ne_eqb _ _ (λ e. omega arith) in rw other (Has-item y.0 ys x r.1 there))
    h

-- an item that is found by a number is in the table
pub item-Has : {A : Type 0} (n : ℕ) (xs : List (Numbered A)) (a : A) → item_at n xs ≡ Some a → Has (n, a) xs
item-Has n [] a e = absurd cc
item-Has {A} n (y ∷ ys) a e = go (eqb n y.0) refl (λ f. item-Has n ys a f) e
  where
    go : (b : Bool) → eqb n y.0 ≡ b → (item_at n ys ≡ Some a → Has (n, a) ys) → cond b (Some y.1) (item_at n ys) ≡ Some a → ((n, a) ≡ y) ⊎ Has (n, a) ys
    go true t rest f = inl (λ i. (eqb-true n y.0 t i, same_Some a y.1 (sym f) i))
    go false t rest f = inr (rest f)

-- if nothing is found, no item has the number
pub item-none : {A : Type 0} (n : ℕ) (xs : List (Numbered A)) → item_at n xs ≡ None → HasNumber n xs → ⊥
item-none n [] e h = h
item-none n (y ∷ ys) e h = go (eqb n y.0) refl (λ f t. item-none n ys f t) e
  where
    go : (b : Bool) → eqb n y.0 ≡ b → (item_at n ys ≡ None → HasNumber n ys → ⊥) → cond b (Some y.1) (item_at n ys) ≡ None → ⊥
    go true t rest f = absurd cc
    go false t rest f = ⊎_elim (λ (same : n ≡ y.0). eqb-false n y.0 t same) (λ (there : HasNumber n ys). rest f there) h

-- an item of the table has its number in the table
pub Has-number : {A : Type 0} (xs : List (Numbered A)) (x : Numbered A) → Has x xs → HasNumber x.0 xs
Has-number [] x h = h
Has-number {A} (y ∷ ys) x h = ⊎_elim (λ (same : x ≡ y). inl (ap (λ (z : Numbered A). z.0) same)) (λ (there : Has x ys). inr (Has-number ys x there)) h

-- the item with a number that is in the table
pub at-number : {A : Type 0} (P : Numbered A → Type 0) (n : ℕ) (xs : List (Numbered A)) → HasNumber n xs → AllByRecursion P xs → (x : Numbered A) × (n ≡ x.0) × P x × Has x xs
at-number P n [] h p = absurd h
at-number {A} P n (x ∷ xs) h p =
    ⊎_elim
    (λ (same : n ≡ x.0). (x, same, p.0, inl refl))
    (λ (there : HasNumber n xs). let f = at-number P n xs there p.1 in (f.0, f.1, f.2, inr f.3))
    h

-- what holds of each item holds of the one that is found
pub item-holds : {A : Type 0} (P : Numbered A → Type 0) (n : ℕ) (xs : List (Numbered A)) (a : A) → AllByRecursion P xs → item_at n xs ≡ Some a → P (n, a)
item-holds P n xs a all e = Has-holds P xs (n, a) all (item-Has n xs a e)

-- two items of the table with the same number are equal
pub one-item : {A : Type 0} (least : ℕ) (xs : List (Numbered A)) (x y : Numbered A) → IsRising least xs → Has x xs → Has y xs → x.0 ≡ y.0 → x.1 ≡ y.1
one-item least xs x y r h k same = same_Some x.1 y.1 (sym (Has-item least xs x r h) ∙ ap (λ (n : ℕ). item_at n xs) same ∙ Has-item least xs y r k)

-- an item that passes the test is counted
pub count-some : {A : Type 0} (test : A → Bool) (xs : List (Numbered A)) (x : Numbered A) → Has x xs → test x.1 ≡ true → 0 < count test xs
count-some test [] x h t = absurd h
count-some {A} test (y ∷ ys) x h t =
    ⊎_elim
    (λ (same : x ≡ y). let one : one_if (test y.1) ≡ 1 = ap one_if (ap (λ (z : Numbered A). test z.1) (sym same) ∙ t) in omega arith)
    (λ (there : Has x ys). let i = count-some test ys x there t in omega arith)
    h

-- the exchange that a waiter waits for is there, if all exchanges are still there
pub HasExchange-on : (s : WaiterState) (xs ys : List (Numbered Exchange)) → ((n : ℕ) → HasNumber n xs → HasNumber n ys) → HasExchange s xs → HasExchange s ys
HasExchange-on (Waiting exchange) xs ys on has = on exchange has
HasExchange-on (Delivering bytes id timer) xs ys on has = tt

-- ---- one item changes

-- what holds of the changed item and of all others holds of each item after the change
pub changed-cases : {A : Type 0} (P : Numbered A → Type 0) (n : ℕ) (f : A → A) (y : Numbered A) → (y.0 ≡ n → P (y.0, f y.1)) → (y.0 ≢ n → P y) → P (changed n f y)
changed-cases P n f y yes_one other = go (eqb y.0 n) refl
  where
    go : (b : Bool) → eqb y.0 n ≡ b → P (cond b (y.0, f y.1) y)
    go true t = yes_one (eqb-true y.0 n t)
    go false t = other (eqb-false y.0 n t)

-- the numbers stay
pub HasNumber-changed : {A : Type 0} (n m : ℕ) (f : A → A) (xs : List (Numbered A)) → HasNumber m xs → HasNumber m (changed_at n f xs)
HasNumber-changed n m f [] h = h
HasNumber-changed {A} n m f (x ∷ xs) h = ⊎_elim (λ (e : m ≡ x.0). inl (e ∙ number (eqb x.0 n))) (λ (t : HasNumber m xs). inr (HasNumber-changed n m f xs t)) h
  where
    number : (b : Bool) → x.0 ≡ (cond b (x.0, f x.1) x).0
    number true = refl
    number false = refl

-- ---- one item is removed

-- the item with the number is removed, and no other
pub length-without : {A : Type 0} (n least : ℕ) (xs : List (Numbered A)) → HasNumber n xs → IsRising least xs → length (without n xs) + 1 ≡ length xs
length-without n least [] h r = absurd h
length-without {A} n least (x ∷ xs) h r = go (eqb x.0 n) refl (λ there. length-without n x.0 xs there r.1)
  where
    go : (b : Bool) → eqb x.0 n ≡ b → (HasNumber n xs → length (without n xs) + 1 ≡ length xs) → length (cond (not b) (x ∷ without n xs) (without n xs)) + 1 ≡ suc (length xs)
    go true e rest = let same = eqb-true x.0 n e in rw (none-below n x.0 xs (omega arith) r.1) (omega arith)
    go false e rest = ⊎_elim (λ (same : n ≡ x.0). absurd (eqb-false x.0 n e (sym same))) (λ (there : HasNumber n xs). let i = rest there in omega arith) h

-- so there aren't more than before
pub without-fewer : {A : Type 0} (n : ℕ) (xs : List (Numbered A)) → length (without n xs) ≤ length xs
without-fewer n [] = omega arith
without-fewer {A} n (x ∷ xs) = go (eqb x.0 n) (without-fewer n xs)
  where
    go : (b : Bool) → length (without n xs) ≤ length xs → length (cond (not b) (x ∷ without n xs) (without n xs)) ≤ suc (length xs)
    go true i = omega arith
    go false i = omega arith

-- the other numbers stay
pub HasNumber-without : {A : Type 0} (n m : ℕ) (xs : List (Numbered A)) → m ≢ n → HasNumber m xs → HasNumber m (without n xs)
HasNumber-without n m [] other h = h
HasNumber-without {A} n m (x ∷ xs) other h = go (eqb x.0 n) refl (λ there. HasNumber-without n m xs other there)
  where
    go : (b : Bool) → eqb x.0 n ≡ b → (HasNumber m xs → HasNumber m (without n xs)) → HasNumber m (cond (not b) (x ∷ without n xs) (without n xs))
    go true e rest = ⊎_elim (λ (same : m ≡ x.0). absurd (other (same ∙ eqb-true x.0 n e))) rest h
    go false e rest = ⊎_elim (λ (same : m ≡ x.0). inl same) (λ (there : HasNumber m xs). inr (rest there)) h

-- ---- one is added at the end

-- the numbers stay if an item is added
pub HasNumber-push : {A : Type 0} (m : ℕ) (xs ys : List (Numbered A)) → HasNumber m xs → HasNumber m (xs ++ ys)
HasNumber-push m [] ys h = absurd h
HasNumber-push m (x ∷ xs) ys h = ⊎_elim (λ (e : m ≡ x.0). inl e) (λ (t : HasNumber m xs). inr (HasNumber-push m xs ys t)) h

-- and the number of the last item is there
pub HasNumber-last : {A : Type 0} (n : ℕ) (xs : List (Numbered A)) (a : A) → HasNumber n (xs ++ (n, a) ∷ [])
HasNumber-last n [] a = inl refl
HasNumber-last n (x ∷ xs) a = inr (HasNumber-last n xs a)
