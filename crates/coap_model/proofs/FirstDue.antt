-- The item of a table that is due first is one of its items, and none of them is due before it.
use Rattle.std.proofs.Common.{◌≡◌, ℕ, ◌≤◌, Bool, true, false, Option, Some, None, List, [], ◌∷◌, refl, sym, ap, subst, ◌∙◌, cond, arith, ◌⊎◌, inl, inr, ⊎_elim}
use Rattle.std.specs.List.{AllByRecursion}
use Rattle.std.proofs.lemmas.Bool.Decides.{nat_tests}
use Rattle.std.proofs.lemmas.Option.{same_Some}
use Rattle.coap_endpoint.proofs.Lists.{All-weaken}
use Rattle.coap_pending.specs.Table.{Numbered}
use Rattle.coap_pending.specs.Due.{is_sooner, sooner, as_due, due_row, first_due}

-- a moment and a number
abbrev pub Due : Type 0
Due = ℕ × ℕ

-- the earlier of two is one of them
sooner-cases : (a b : Option Due) (d : Due) → sooner a b ≡ Some d → (a ≡ Some d) ⊎ (b ≡ Some d)
sooner-cases None b d e = inr e
sooner-cases (Some a) None d e = inl e
sooner-cases (Some a) (Some b) d e = go (is_sooner b a) e
  where
    go : (t : Bool) → Some (cond t b a) ≡ Some d → (Some a ≡ Some d) ⊎ (Some b ≡ Some d)
    go true f = inr f
    go false f = inl f

-- what is due with a number is due from its moment on
as_due-is : (number : ℕ) (o : Option ℕ) (d : Due) → as_due number o ≡ Some d → (number ≡ d.1) × (o ≡ Some d.0)
as_due-is number None d e = absurd cc
as_due-is number (Some at) d e = (λ i. (same_Some (at, number) d e i).1, λ i. Some ((same_Some (at, number) d e i).0))

-- what is due first is an item, and is due from its moment on
pub first_due-holds : {A : Type 0} (P : Numbered A → Type 0) (due : A → Option ℕ) (items : List (Numbered A)) (d : Due) → AllByRecursion P items → first_due due items ≡ Some d → (x : Numbered A) × P x × (x.0 ≡ d.1) × (due x.1 ≡ Some d.0)
first_due-holds P due [] d all e = absurd cc
first_due-holds P due (x ∷ xs) d all e =
    ⊎_elim
    (λ (h : due_row due x ≡ Some d). let is = as_due-is x.0 (due x.1) d h in (x, all.0, is.0, is.1))
    (λ (h : first_due due xs ≡ Some d). first_due-holds P due xs d all.1 h)
    (sooner-cases (due_row due x) (first_due due xs) d e)

-- the other isn't due before it: it isn't due earlier, nor at the same moment with a lower number
pub record NotBefore (d other : Due) : Type 0 where
  pub moment : d.0 ≤ other.0
  pub number : d.0 ≡ other.0 → d.1 ≤ other.1

-- nothing is due before itself
self : (d : Due) → NotBefore d d
self d = record { moment = omega arith; number = λ e. omega arith }

-- this relation is transitive
chain : (a b c : Due) → NotBefore a b → NotBefore b c → NotBefore a c
chain a b c p q = let m = p.moment in let n = q.moment in let k = p.number in let l = q.number in record { moment = omega arith; number = λ e. omega arith }

-- if the test succeeds, the first isn't before the second
tested-true : (a b : Due) → is_sooner b a ≡ true → NotBefore b a
tested-true a b e = record { moment = grind (arith, nat_tests); number = λ same. grind (arith, nat_tests) }

-- and if it fails, the second isn't before the first
tested-false : (a b : Due) → is_sooner b a ≡ false → NotBefore a b
tested-false a b e = record { moment = grind (arith, nat_tests); number = λ same. grind (arith, nat_tests) }

-- equal ones aren't before each other
same-first : (d y : Due) → d ≡ y → NotBefore d y
same-first d y same = subst (λ (z : Due). NotBefore d z) same (self d)

-- neither of two is due before the earlier one
sooner-first : (a b : Option Due) (d y : Due) → sooner a b ≡ Some d → (a ≡ Some y) ⊎ (b ≡ Some y) → NotBefore d y
sooner-first None b d y e h = ⊎_elim (λ (f : None ≡ Some y). absurd cc) (λ (f : b ≡ Some y). same-first d y (same_Some d y (sym e ∙ f))) h
sooner-first (Some a) None d y e h = ⊎_elim (λ (f : Some a ≡ Some y). same-first d y (same_Some d y (sym e ∙ f))) (λ (f : None ≡ Some y). absurd cc) h
sooner-first (Some a) (Some b) d y e h = go (is_sooner b a) refl e
  where
    go : (t : Bool) → is_sooner b a ≡ t → Some (cond t b a) ≡ Some d → NotBefore d y
    go true t f =
        let first : b ≡ d = same_Some b d f in
        subst (λ (z : Due). NotBefore z y) first
        (⊎_elim (λ (g : Some a ≡ Some y). subst (λ (z : Due). NotBefore b z) (same_Some a y g) (tested-true a b t)) (λ (g : Some b ≡ Some y). same-first b y (same_Some b y g)) h)
    go false t f =
        let first : a ≡ d = same_Some a d f in
        subst (λ (z : Due). NotBefore z y) first
        (⊎_elim (λ (g : Some a ≡ Some y). same-first a y (same_Some a y g)) (λ (g : Some b ≡ Some y). subst (λ (z : Due). NotBefore a z) (same_Some b y g) (tested-false a b t)) h)

-- if there is no earlier one, neither of two is due
sooner-none : (a b : Option Due) → sooner a b ≡ None → (a ≡ None) × (b ≡ None)
sooner-none None b e = (refl, e)
sooner-none (Some a) None e = absurd cc
sooner-none (Some a) (Some b) e = absurd cc

-- an item without a moment isn't due
as_due-none : (number : ℕ) (o : Option ℕ) → as_due number o ≡ None → o ≡ None
as_due-none number None e = refl
as_due-none number (Some at) e = absurd cc

-- if nothing is due first, no item is due
pub first_due-none : {A : Type 0} (due : A → Option ℕ) (items : List (Numbered A)) → first_due due items ≡ None → AllByRecursion (λ x. due x.1 ≡ None) items
first_due-none due [] e = tt
first_due-none due (x ∷ xs) e =
    let both = sooner-none (due_row due x) (first_due due xs) e in
    (as_due-none x.0 (due x.1) both.0, first_due-none due xs both.1)

-- an item isn't due before this
abbrev pub IsNotBefore : {A : Type 0} → (A → Option ℕ) → Due → Numbered A → Type 0
IsNotBefore due d x = (m : ℕ) → due x.1 ≡ Some m → NotBefore d (m, x.0)

-- no item is due before what is due first
pub first_due-least : {A : Type 0} (due : A → Option ℕ) (items : List (Numbered A)) (d : Due) → first_due due items ≡ Some d → AllByRecursion (IsNotBefore due d) items
first_due-least due [] d e = tt
first_due-least due (x ∷ xs) d e = (λ m f. sooner-first (due_row due x) (first_due due xs) d (m, x.0) e (inl (ap (as_due x.0) f)), behind (first_due due xs) refl (λ f is. first_due-least due xs f is))
  where
    behind : (o : Option Due) → first_due due xs ≡ o → ((f : Due) → first_due due xs ≡ Some f → AllByRecursion (IsNotBefore due f) xs) → AllByRecursion (IsNotBefore due d) xs
    behind None is rest = All-weaken (λ y. due y.1 ≡ None) (IsNotBefore due d) xs (λ y none m f. absurd (let g = sym none ∙ f in cc)) (first_due-none due xs is)
    behind (Some f) is rest =
        let before = sooner-first (due_row due x) (first_due due xs) d f e (inr is) in
        All-weaken (IsNotBefore due f) (IsNotBefore due d) xs (λ y not m g. chain d f (m, y.0) before (not m g)) (rest f is)
