-- The sooner of two is a semilattice, so it doesn't matter in which order dues are compared.
use Rattle.std.proofs.Common.{◌≡◌, ℕ, Bool, true, false, Option, Some, None, List, [], ◌∷◌, refl, sym, subst, ◌∙◌, arith, inl, inr}
use Rattle.std.specs.Prelude.{◌⊎◌}
use Rattle.std.proofs.lemmas.Bool.Decides.{nat_tests}
use Rattle.coap_pending.specs.Due.{is_sooner, sooner_of, sooner, first_of}

-- a moment, and the number of what is due then
abbrev Due : Type 0
Due = ℕ × ℕ

-- a is before b, or they are one, or b is before a
pub data Order (a b : Due) : Type 0 where
  first : is_sooner b a ≡ false → is_sooner a b ≡ true → Order a b
  same : is_sooner b a ≡ false → is_sooner a b ≡ false → a ≡ b → Order a b
  last : is_sooner b a ≡ true → is_sooner a b ≡ false → Order a b

-- a moment and a number
abbrev pair : ℕ → ℕ → Due
pair p n = (p, n)

-- dues with equal parts are equal
pub same_due : (a b : Due) → a.0 ≡ b.0 → a.1 ≡ b.1 → a ≡ b
same_due a b e f = go a.0 b.0 a.1 b.1 e f
  where
    go : (p q n m : ℕ) → p ≡ q → n ≡ m → pair p n ≡ pair q m
    go p q n m g h = rw (g, h) refl

-- of which neither is before the other are equal
same_parts : (a b : Due) → is_sooner b a ≡ false → is_sooner a b ≡ false → a ≡ b
same_parts a b e f = same_due a b (grind (arith, nat_tests)) (grind (arith, nat_tests))

-- of two one is before the other, or they are equal
pub order : (a b : Due) → Order a b
order a b = go (is_sooner b a) (is_sooner a b) refl refl
  where
    go : (p q : Bool) → is_sooner b a ≡ p → is_sooner a b ≡ q → Order a b
    go false true e f = first e f
    go false false e f = same e f (same_parts a b e f)
    go true false e f = last e f
    go true true e f = absurd (grind (arith, nat_tests))

-- the order is transitive
before_trans : (a b c : Due) → is_sooner b a ≡ false → is_sooner c b ≡ false → is_sooner c a ≡ false
before_trans a b c e f = grind (arith, nat_tests)

-- the order of comparing doesn't matter
pub sooner_comm : (a b : Option Due) → sooner a b ≡ sooner b a
sooner_comm None None = refl
sooner_comm None (Some b) = refl
sooner_comm (Some a) None = refl
sooner_comm (Some a) (Some b) = elim (order a b) [ first e f ↦ rw (e, f) refl | same e f g ↦ rw (e, f, g) refl | last e f ↦ rw (e, f) refl ]

-- nothing is never sooner
pub sooner_none : (a : Option Due) → sooner a None ≡ a
sooner_none None = refl
sooner_none (Some a) = refl

-- neither is before it: it is left of the two
pub sooner_left : (a b : Due) → is_sooner b a ≡ false → sooner (Some a) (Some b) ≡ Some a
sooner_left a b e = rw e refl

-- the sooner has none before it
not_before : (a b : Due) → sooner (Some a) (Some b) ≡ Some a → is_sooner b a ≡ false
not_before a b e = elim (order a b) [ first f g ↦ f | same f g h ↦ f | last f g ↦ absurd (let h : Some b ≡ Some a = rw f at e in let i : b ≡ a = cc in let j : is_sooner a a ≡ true = rw i at f in grind (arith, nat_tests)) ]

-- the sooner of the sooner
pub sooner_trans : (a b c : Option Due) → sooner a b ≡ a → sooner b c ≡ b → sooner a c ≡ a
sooner_trans None b c e f = let g : b ≡ None = e in f2 g f
  where
    f2 : b ≡ None → sooner b c ≡ b → c ≡ None
    f2 g f = rw g at f
sooner_trans (Some a) None None e f = refl
sooner_trans (Some a) None (Some c) e f = absurd cc
sooner_trans (Some a) (Some b) None e f = refl
sooner_trans (Some a) (Some b) (Some c) e f = sooner_left a c (before_trans a b c (not_before a b e) (not_before b c f))

-- the sooner is one of the two, and not after either
pub sooner_is : (a b : Option Due) → (sooner a b ≡ a) ⊎ (sooner a b ≡ b)
sooner_is None b = inr refl
sooner_is (Some a) None = inl refl
sooner_is (Some a) (Some b) = elim (order a b) [ first e f ↦ inl (rw e refl) | same e f g ↦ inl (rw e refl) | last e f ↦ inr (rw e refl) ]

-- the sooner of two is no later than the one
pub sooner_former : (a b : Option Due) → sooner (sooner a b) a ≡ sooner a b
sooner_former None b = sooner_none b
sooner_former (Some a) None = elim (order a a) [ first e f ↦ rw e refl | same e f g ↦ rw e refl | last e f ↦ rw e refl ]
sooner_former (Some a) (Some b) = elim (order a b) [ first e f ↦ rw e (elim (order a a) [ first g h ↦ rw g refl | same g h i ↦ rw g refl | last g h ↦ rw g refl ]) | same e f g ↦ rw e (elim (order a a) [ first g h ↦ rw g refl | same g h i ↦ rw g refl | last g h ↦ rw g refl ]) | last e f ↦ rw (e, f) refl ]

-- nor than the other
pub sooner_latter : (a b : Option Due) → sooner (sooner a b) b ≡ sooner a b
sooner_latter a b = rw (sooner_comm a b) (sooner_former b a)

-- ---- the first of many

-- o is not after any of the dues that P tells, and is one of them, if there is one
pub record IsFirst (P : Option Due → Type 0) (o : Option Due) : Type 0 where
  pub least : (x : Option Due) → P x → sooner o x ≡ o
  pub there : (o ≡ None) ⊎ P o

-- the first of fewer is no sooner
first_below : {P Q : Option Due → Type 0} (o p : Option Due) → ((x : Option Due) → P x → Q x) → IsFirst P o → IsFirst Q p → sooner p o ≡ p
first_below {P} o p sub f g = elim f.there [ inl e ↦ rw e (sooner_none p) | inr e ↦ g.least o (sub o e) ]

-- what meets the same things has the same first
pub same_first : {P Q : Option Due → Type 0} (o p : Option Due) → ((x : Option Due) → P x → Q x) → ((x : Option Due) → Q x → P x) → IsFirst P o → IsFirst Q p → o ≡ p
same_first o p to from f g = sym (first_below p o from g f) ∙ sooner_comm o p ∙ first_below o p to f g

-- the same, where one may tell of nothing too
first_over : {P Q : Option Due → Type 0} (o p : Option Due) → ((x : Option Due) → P x → (x ≡ None) ⊎ Q x) → IsFirst P o → IsFirst Q p → sooner p o ≡ p
first_over {P} o p sub f g = elim f.there [
  | inl e ↦ rw e (sooner_none p)
  | inr e ↦ elim (sub o e) [ inl h ↦ rw h (sooner_none p) | inr h ↦ g.least o h ]
]

-- also where nothing is among them
pub same_first_of : {P Q : Option Due → Type 0} (o p : Option Due) → ((x : Option Due) → P x → (x ≡ None) ⊎ Q x) → ((x : Option Due) → Q x → (x ≡ None) ⊎ P x) → IsFirst P o → IsFirst Q p → o ≡ p
same_first_of o p to from f g = sym (first_over p o from g f) ∙ sooner_comm o p ∙ first_over o p to f g

-- x is in the list
abbrev pub IsIn : Option Due → List (Option Due) → Type 0
IsIn x [] = ⊥
IsIn x (y ∷ ys) = (x ≡ y) ⊎ IsIn x ys

-- the first of a list is its first
pub first_of-is : (xs : List (Option Due)) → IsFirst (λ x. IsIn x xs) (first_of xs)
first_of-is [] = record { least = λ x i. absurd i; there = inl refl }
first_of-is (y ∷ ys) = go (first_of-is ys)
  where
    go : IsFirst (λ x. IsIn x ys) (first_of ys) → IsFirst (λ x. IsIn x (y ∷ ys)) (sooner y (first_of ys))
    go f = record {
      least = λ x i. elim i [ inl e ↦ rw e (sooner_former y (first_of ys)) | inr e ↦ sooner_trans (sooner y (first_of ys)) (first_of ys) x (sooner_latter y (first_of ys)) (f.least x e) ];
      there = elim (sooner_is y (first_of ys)) [ inl e ↦ inr (inl e) | inr e ↦ elim f.there [ inl g ↦ inl (e ∙ g) | inr g ↦ inr (inr (subst (λ (x : Option Due). IsIn x ys) (sym e) g)) ] ];
    }

-- of three the soonest, in either order
pub sooner_assoc : (a b c : Option Due) → sooner (sooner a b) c ≡ sooner a (sooner b c)
sooner_assoc None b c = refl
sooner_assoc (Some a) None c = refl
sooner_assoc (Some a) (Some b) None = refl
sooner_assoc (Some a) (Some b) (Some c) = go (is_sooner b a) (is_sooner c b) (is_sooner c a) refl refl refl
  where
    go : (p q r : Bool) → is_sooner b a ≡ p → is_sooner c b ≡ q → is_sooner c a ≡ r → Some (sooner_of (sooner_of a b) c) ≡ Some (sooner_of a (sooner_of b c))
    go true true r e f g =
        let h : is_sooner c a ≡ true = grind (arith, nat_tests) in
        rw (e, f, h) refl
    go true false r e f g = rw (e, f, e) refl
    go false true r e f g = rw (e, f) refl
    go false false true e f g = absurd (grind (arith, nat_tests))
    go false false false e f g = rw (e, f, g, e) refl
