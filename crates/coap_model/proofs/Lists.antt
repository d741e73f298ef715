-- Lists whose elements all have a property.
use Rattle.std.proofs.Common.{◌≡◌, ◌⊎◌, ⊎_elim, inl, inr, List, [], ◌∷◌, map, Bool, true, false, Some, refl, sym, subst, cond}
use Rattle.std.specs.Prelude.{filter}
use Rattle.std.specs.List.{AllByRecursion, find}
use Rattle.coap_endpoint.proofs.Lists.{All-weaken}

-- what holds of each element holds of the element that is found, which passes the test
pub find-holds : {X : Type 0} (P : X → Type 0) (test : X → Bool) (xs : List X) (x : X) → AllByRecursion P xs → find test xs ≡ Some x → P x × (test x ≡ true)
find-holds P test [] x all e = absurd (cc)
find-holds P test (y ∷ ys) x all e = go (test y) refl (λ f. find-holds P test ys x all.1 f)
  where
    go : (b : Bool) → test y ≡ b → (find test ys ≡ Some x → P x × (test x ≡ true)) → P x × (test x ≡ true)
    go true t rest = let f : Some y ≡ Some x = rw t at e in let same : y ≡ x = cc in (subst P same all.0, rw (← same) t)
    go false t rest = let f : find test ys ≡ Some x = rw t at e in rest f

-- what holds of each element holds of each changed element
pub All-map : {X : Type 0} (P Q : X → Type 0) (f : X → X) (xs : List X) → ((x : X) → P x → Q (f x)) → AllByRecursion P xs → AllByRecursion Q (map f xs)
All-map P Q f [] step all = tt
All-map P Q f (x ∷ xs) step all = (step x all.0, All-map P Q f xs step all.1)

-- the remaining elements pass the test
pub All-filter : {X : Type 0} (P : X → Type 0) (test : X → Bool) (xs : List X) → AllByRecursion P xs → AllByRecursion (λ x. P x × (test x ≡ true)) (filter test xs)
All-filter P test [] all = tt
All-filter P test (x ∷ xs) all = go (test x) refl (All-filter P test xs all.1)
  where
    go : (b : Bool) → test x ≡ b → AllByRecursion (λ y. P y × (test y ≡ true)) (filter test xs) → AllByRecursion (λ y. P y × (test y ≡ true)) (cond b (x ∷ filter test xs) (filter test xs))
    go true t rest = ((all.0, t), rest)
    go false t rest = rest

-- ---- elements

-- the element is in the list
abbrev pub Has : {X : Type 0} → X → List X → Type 0
Has x [] = ⊥
Has x (y ∷ ys) = (x ≡ y) ⊎ Has x ys

-- two properties of each element are one property of each
pub All-both : {X : Type 0} (P Q : X → Type 0) (xs : List X) → AllByRecursion P xs → AllByRecursion Q xs → AllByRecursion (λ x. P x × Q x) xs
All-both P Q [] p q = tt
All-both P Q (x ∷ xs) p q = ((p.0, q.0), All-both P Q xs p.1 q.1)

-- each element is in the list
pub Has-all : {X : Type 0} (xs : List X) → AllByRecursion (λ x. Has x xs) xs
Has-all [] = tt
Has-all (x ∷ xs) = (inl refl, All-weaken (λ y. Has y xs) (λ y. Has y (x ∷ xs)) xs (λ y h. inr h) (Has-all xs))

-- what holds of each element holds of each together with being in the list
pub All-there : {X : Type 0} (P : X → Type 0) (xs : List X) → AllByRecursion P xs → AllByRecursion (λ x. P x × Has x xs) xs
All-there P xs p = All-both P (λ x. Has x xs) xs p (Has-all xs)

-- what holds of each element holds of one that is in the list
pub Has-holds : {X : Type 0} (P : X → Type 0) (xs : List X) (x : X) → AllByRecursion P xs → Has x xs → P x
Has-holds P [] x all h = absurd h
Has-holds {X} P (y ∷ ys) x all h = ⊎_elim (λ (same : x ≡ y). subst P (sym same) all.0) (λ (t : Has x ys). Has-holds P ys x all.1 t) h
