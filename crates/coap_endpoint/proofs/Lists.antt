-- Lists whose items all have a property.
use Rattle.std.proofs.Common.{◌≡◌, Bool, true, false, cond, List, [], ◌∷◌, ◌++◌, Some, None, refl}
use Rattle.std.specs.List.{AllByRecursion, find}

-- what holds of each item of two lists holds of each item of both appended
pub All-append : {X : Type 0} (P : X → Type 0) (xs ys : List X) → AllByRecursion P xs → AllByRecursion P ys → AllByRecursion P (xs ++ ys)
All-append P [] ys p q = q
All-append P (x ∷ xs) ys p q = (p.0, All-append P xs ys p.1 q)

-- and what holds of each item of two appended lists holds of each item of both
pub All-parts : {X : Type 0} (P : X → Type 0) (xs ys : List X) → AllByRecursion P (xs ++ ys) → AllByRecursion P xs × AllByRecursion P ys
All-parts P [] ys all = (tt, all)
All-parts P (x ∷ xs) ys all = let rest = All-parts P xs ys all.1 in ((all.0, rest.0), rest.1)

-- a property that each item has implies a weaker one for each item
pub All-weaken : {X : Type 0} (P Q : X → Type 0) (xs : List X) → ((x : X) → P x → Q x) → AllByRecursion P xs → AllByRecursion Q xs
All-weaken P Q [] less all = tt
All-weaken P Q (x ∷ xs) less all = (less x all.0, All-weaken P Q xs less all.1)

-- if nothing is found, no item passes the test
pub none-found : {X : Type 0} (test : X → Bool) (xs : List X) → find test xs ≡ None → AllByRecursion (λ x. test x ≡ false) xs
none-found test [] e = tt
none-found test (y ∷ ys) e = go (test y) refl e (none-found test ys)
  where
    go : (b : Bool) → test y ≡ b → cond b (Some y) (find test ys) ≡ None → (find test ys ≡ None → AllByRecursion (λ x. test x ≡ false) ys) → (test y ≡ false) × AllByRecursion (λ x. test x ≡ false) ys
    go true t f rest = absurd cc
    go false t f rest = (t, rest f)
