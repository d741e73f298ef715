-- A loop that changes the elements of a list one by one.
use Rattle.std.proofs.Common.{◌≡◌, ℕ, zero, suc, ◌++◌, List, [], ◌∷◌, drop, get_or, map, take, refl, sym, ◌∙◌, ap}

module _ {X : Type 0} (f : X → X) where
  -- what isn't changed yet is as it was
  read-behind : (xs : List X) (i : ℕ) (d : X) → get_or (map f (take i xs) ++ drop i xs) i d ≡ get_or xs i d
  read-behind [] zero d = refl
  read-behind [] (suc i) d = refl
  read-behind (x ∷ xs) zero d = refl
  read-behind (x ∷ xs) (suc i) d = read-behind xs i d

  -- the next element is the one of the original list
  pub comes : (xs ys : List X) (i : ℕ) (x : X) → ys ≡ map f (take i xs) ++ drop i xs → x ≡ get_or ys i x → get_or xs i x ≡ x
  comes xs ys i x so_far is = sym (is ∙ ap (λ l. get_or l i x) so_far ∙ read-behind xs i x)
