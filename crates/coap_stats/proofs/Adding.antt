-- What is added piece by piece.
use Rattle.std.proofs.Common.{◌≡◌, ℕ, suc, zero, ◌+◌, ◌<◌, List, [], ◌∷◌, ◌++◌, get_or, length, map, take, arith, sym, ap, ◌∙◌}
use Rattle.std.specs.List.{flat_map}
use Rattle.std.specs.Prelude.{OnOk, Result, Ok, Err}
use Rattle.std.proofs.lemmas.List.{append-nil, append_assoc}
use Rattle.std.proofs.lemmas.List.Concat.{flat_map-append, flat_map-cons}

-- a text after a text
pub more : (a b c x y : List ℕ) → b ≡ a ++ x → c ≡ b ++ y → c ≡ a ++ (x ++ y)
more a b c x y first next = next ∙ ap (λ t. t ++ y) first ∙ append_assoc a x y

-- the same, if the last was added
pub last : {T E : Type 0} (r : Result T E) (a b c x y : List ℕ) → b ≡ a ++ x → OnOk r (c ≡ b ++ y) → OnOk r (c ≡ a ++ (x ++ y))
last (Ok v) a b c x y first next = more a b c x y first next
last (Err e) a b c x y first next = tt

-- two texts after a text
pub more-two : (a b c x y z : List ℕ) → b ≡ a ++ x → c ≡ b ++ y ++ z → c ≡ a ++ (x ++ y ++ z)
more-two a b c x y z first next = next ∙ ap (λ t. t ++ z) (ap (λ t. t ++ y) first ∙ append_assoc a x y) ∙ append_assoc a (x ++ y) z

module _ {A B : Type 0} (f : B → List ℕ) (g : A → B) where
  -- the texts of one item more
  texts-more : (xs : List A) (i : ℕ) (d : A) → i < length xs → flat_map f (map g (take (suc i) xs)) ≡ flat_map f (map g (take i xs)) ++ f (g (get_or xs i d))
  texts-more [] i d lt = absurd (omega arith)
  texts-more (x ∷ xs) zero d lt = flat_map-cons f (g x) [] ∙ append-nil (f (g x))
  texts-more (x ∷ xs) (suc i) d lt =
      flat_map-cons f (g x) (map g (take (suc i) xs))
      ∙ ap (λ t. f (g x) ++ t) (texts-more xs i d (omega arith))
      ∙ sym (append_assoc (f (g x)) (flat_map f (map g (take i xs))) (f (g (get_or xs i d))))
      ∙ ap (λ t. t ++ f (g (get_or xs i d))) (sym (flat_map-cons f (g x) (map g (take i xs))))

  -- so a loop adds the texts of all
  pub loop-more : (xs : List A) (i : ℕ) (d : A) (o a b : List ℕ) → i < length xs → a ≡ o ++ flat_map f (map g (take i xs)) → b ≡ a ++ f (g (get_or xs i d)) → b ≡ o ++ flat_map f (map g (take (i + 1) xs))
  loop-more xs i d o a b lt before next =
      let one : i + 1 ≡ suc i = omega arith in
      more o a b (flat_map f (map g (take i xs))) (f (g (get_or xs i d))) before next
      ∙ ap (λ t. o ++ t) (sym (texts-more xs i d lt) ∙ ap (λ n. flat_map f (map g (take n xs))) (sym one))

-- several texts, one after the other
pub three : (o a b c x y z : List ℕ) → a ≡ o ++ x → b ≡ a ++ y → c ≡ b ++ z → c ≡ o ++ (x ++ y ++ z)
three o a b c x y z e₁ e₂ e₃ = rw (e₃, e₂, e₁) (simp append_assoc)

pub four : (o a b c d x y z u : List ℕ) → a ≡ o ++ x → b ≡ a ++ y → c ≡ b ++ z → d ≡ c ++ u → d ≡ o ++ (x ++ y ++ z ++ u)
four o a b c d x y z u e₁ e₂ e₃ e₄ = rw (e₄, e₃, e₂, e₁) (simp append_assoc)

pub five : (o a b c d e x y z u v : List ℕ) → a ≡ o ++ x → b ≡ a ++ y → c ≡ b ++ z → d ≡ c ++ u → e ≡ d ++ v
    → e ≡ o ++ (x ++ y ++ z ++ u ++ v)
five o a b c d e x y z u v e₁ e₂ e₃ e₄ e₅ = rw (e₅, e₄, e₃, e₂, e₁) (simp append_assoc)

pub six : (o a b c d e f x y z u v w : List ℕ) → a ≡ o ++ x → b ≡ a ++ y → c ≡ b ++ z → d ≡ c ++ u → e ≡ d ++ v → f ≡ e ++ w
    → f ≡ o ++ (x ++ y ++ z ++ u ++ v ++ w)
six o a b c d e f x y z u v w e₁ e₂ e₃ e₄ e₅ e₆ = rw (e₆, e₅, e₄, e₃, e₂, e₁) (simp append_assoc)

-- a head, and the texts of a list of three, or of four
pub of-three : (o a b c x y z : List ℕ) → a ≡ o ++ x → b ≡ a ++ y → c ≡ b ++ z → c ≡ o ++ (x ++ (y ++ (z ++ [])))
of-three o a b c x y z e₁ e₂ e₃ = rw (e₃, e₂, e₁) (simp (append_assoc, append-nil))

pub head-of-four : (o a b c d e h x y z u : List ℕ) → a ≡ o ++ h → b ≡ a ++ x → c ≡ b ++ y → d ≡ c ++ z → e ≡ d ++ u
    → e ≡ o ++ (h ++ (x ++ (y ++ (z ++ (u ++ [])))))
head-of-four o a b c d e h x y z u e₁ e₂ e₃ e₄ e₅ = rw (e₅, e₄, e₃, e₂, e₁) (simp (append_assoc, append-nil))

-- a head, and the texts of two lists
module _ {A : Type 0} (f : A → List ℕ) where
  pub head-of-two : (xs ys : List A) (o a b c h : List ℕ) → a ≡ o ++ h → b ≡ a ++ flat_map f xs → c ≡ b ++ flat_map f ys → c ≡ o ++ (h ++ flat_map f (xs ++ ys))
  head-of-two xs ys o a b c h e₁ e₂ e₃ =
      three o a b c h (flat_map f xs) (flat_map f ys) e₁ e₂ e₃
      ∙ ap (λ t. o ++ t) (append_assoc h (flat_map f xs) (flat_map f ys) ∙ ap (λ t. h ++ t) (sym (flat_map-append f xs ys)))
