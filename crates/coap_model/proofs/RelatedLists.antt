-- Lists whose elements are related pairwise, and what is done to both.
use Rattle.std.proofs.Common.{◌≡◌, ℕ, ◌-◌, ◌&&◌, Bool, true, false, cond, not, nat_le, List, [], ◌∷◌, Option, Some, None, length, map, refl, sym, subst, arith}
use Rattle.std.specs.List.{list_all}
use Rattle.std.specs.Option.{option_map_or}
use Rattle.std.proofs.lemmas.List.Sums.{sum_by-cons}
use Rattle.coap_store.specs.declared.key.CacheKey.{CacheKey}
use Rattle.coap_store.specs.Keys.{same_key}
use Rattle.coap_store.specs.Lists.{has_other_key, are_distinct, of_key, others, used, cut, put, total}
use Rattle.coap_model.specs.Pairs.{Pairs, Both}

module _ {X Y : Type 0} (R : X → Y → Type 0) where
  -- the lists have the same length
  pub Pairs-length : (xs : List X) (ys : List Y) → Pairs R xs ys → length xs ≡ length ys
  Pairs-length [] [] p = refl
  Pairs-length [] (y ∷ ys) p = absurd p
  Pairs-length (x ∷ xs) [] p = absurd p
  Pairs-length (x ∷ xs) (y ∷ ys) p = omega (arith, Pairs-length xs ys p.1)

  -- related elements may also be related in another way
  pub Pairs-weaken : (S : X → Y → Type 0) (xs : List X) (ys : List Y) → ((x : X) (y : Y) → R x y → S x y) → Pairs R xs ys → Pairs S xs ys
  Pairs-weaken S [] [] less p = tt
  Pairs-weaken S [] (y ∷ ys) less p = p
  Pairs-weaken S (x ∷ xs) [] less p = p
  Pairs-weaken S (x ∷ xs) (y ∷ ys) less p = (less x y p.0, Pairs-weaken S xs ys less p.1)

  -- what is equal for each pair is equal for the lists
  pub Pairs-same : {Z : Type 0} (f : X → Z) (g : Y → Z) (xs : List X) (ys : List Y) → ((x : X) (y : Y) → R x y → f x ≡ g y) → Pairs R xs ys → map f xs ≡ map g ys
  Pairs-same f g [] [] same p = refl
  Pairs-same f g [] (y ∷ ys) same p = absurd p
  Pairs-same f g (x ∷ xs) [] same p = absurd p
  Pairs-same f g (x ∷ xs) (y ∷ ys) same p = rw (same x y p.0, Pairs-same f g xs ys same p.1) refl

  -- if related elements have the same size, so do the lists
  pub Pairs-total : (f : X → ℕ) (g : Y → ℕ) (xs : List X) (ys : List Y) → ((x : X) (y : Y) → R x y → f x ≡ g y) → Pairs R xs ys → total f xs ≡ total g ys
  Pairs-total f g [] [] same p = refl
  Pairs-total f g [] (y ∷ ys) same p = absurd p
  Pairs-total f g (x ∷ xs) [] same p = absurd p
  Pairs-total f g (x ∷ xs) (y ∷ ys) same p = omega (arith, same x y p.0, sum_by-cons f x xs, sum_by-cons g y ys, Pairs-total f g xs ys same p.1)

  -- if related elements have the same size, both lists are cut at the same place
  pub Pairs-cut : (f : X → ℕ) (g : Y → ℕ) (bytes count : ℕ) (xs : List X) (ys : List Y) → ((x : X) (y : Y) → R x y → f x ≡ g y) → Pairs R xs ys → Pairs R (cut f bytes count xs) (cut g bytes count ys)
  Pairs-cut f g bytes count [] [] same p = tt
  Pairs-cut f g bytes count [] (y ∷ ys) same p = absurd p
  Pairs-cut f g bytes count (x ∷ xs) [] same p = absurd p
  Pairs-cut f g bytes count (x ∷ xs) (y ∷ ys) same p = rw (same x y p.0) (go (nat_le (g y) bytes && nat_le 1 count) (Pairs-cut f g (bytes - g y) (count - 1) xs ys same p.1))
    where
      go : (b : Bool) → Pairs R (cut f (bytes - g y) (count - 1) xs) (cut g (bytes - g y) (count - 1) ys) → Pairs R (cond b (x ∷ cut f (bytes - g y) (count - 1) xs) []) (cond b (y ∷ cut g (bytes - g y) (count - 1) ys) [])
      go true rest = (p.0, rest)
      go false rest = tt

  module _ (f : X → CacheKey) (g : Y → CacheKey) (same : (x : X) (y : Y) → R x y → f x ≡ g y) where
    -- if one list has no element with this key, neither has the other
    Pairs-keyless : (k : CacheKey) (xs : List X) (ys : List Y) → Pairs R xs ys → list_all (has_other_key f k) xs ≡ list_all (has_other_key g k) ys
    Pairs-keyless k [] [] p = refl
    Pairs-keyless k [] (y ∷ ys) p = absurd p
    Pairs-keyless k (x ∷ xs) [] p = absurd p
    Pairs-keyless k (x ∷ xs) (y ∷ ys) p = rw (same x y p.0, Pairs-keyless k xs ys p.1) refl

    -- if the keys of one list are distinct, so are those of the other
    pub Pairs-distinct : (xs : List X) (ys : List Y) → Pairs R xs ys → are_distinct f xs ≡ are_distinct g ys
    Pairs-distinct [] [] p = refl
    Pairs-distinct [] (y ∷ ys) p = absurd p
    Pairs-distinct (x ∷ xs) [] p = absurd p
    Pairs-distinct (x ∷ xs) (y ∷ ys) p = rw (same x y p.0, Pairs-keyless (g y) xs ys p.1, Pairs-distinct xs ys p.1) refl

    -- if related elements have the same key, both are found, or neither is
    pub Pairs-of_key : (k : CacheKey) (xs : List X) (ys : List Y) → Pairs R xs ys → Both R (of_key f k xs) (of_key g k ys)
    Pairs-of_key k [] [] p = tt
    Pairs-of_key k [] (y ∷ ys) p = absurd p
    Pairs-of_key k (x ∷ xs) [] p = absurd p
    Pairs-of_key k (x ∷ xs) (y ∷ ys) p = rw (same x y p.0) (go (same_key (g y) k) (Pairs-of_key k xs ys p.1))
      where
        go : (b : Bool) → Both R (of_key f k xs) (of_key g k ys) → Both R (cond b (Some x) (of_key f k xs)) (cond b (Some y) (of_key g k ys))
        go true rest = p.0
        go false rest = rest

    -- the elements with other keys
    pub Pairs-others : (k : CacheKey) (xs : List X) (ys : List Y) → Pairs R xs ys → Pairs R (others f k xs) (others g k ys)
    Pairs-others k [] [] p = tt
    Pairs-others k [] (y ∷ ys) p = absurd p
    Pairs-others k (x ∷ xs) [] p = absurd p
    Pairs-others k (x ∷ xs) (y ∷ ys) p = rw (same x y p.0) (go (not (same_key (g y) k)) (Pairs-others k xs ys p.1))
      where
        go : (b : Bool) → Pairs R (others f k xs) (others g k ys) → Pairs R (cond b (x ∷ others f k xs) (others f k xs)) (cond b (y ∷ others g k ys) (others g k ys))
        go true rest = (p.0, rest)
        go false rest = rest

    -- the lists with the element of a key moved to the front
    pub Pairs-used : (k : CacheKey) (xs : List X) (ys : List Y) → Pairs R xs ys → Pairs R (used f k xs) (used g k ys)
    Pairs-used k xs ys p = go (of_key f k xs) (of_key g k ys) (Pairs-of_key k xs ys p)
      where
        go : (a : Option X) (b : Option Y) → Both R a b → Pairs R (option_map_or (λ x. x ∷ others f k xs) a xs) (option_map_or (λ y. y ∷ others g k ys) b ys)
        go None None both = p
        go None (Some y) both = absurd both
        go (Some x) None both = absurd both
        go (Some x) (Some y) both = (both, Pairs-others k xs ys p)

    -- the lists with two related new elements
    pub Pairs-put : (m : X → ℕ) (n : Y → ℕ) (bytes count : ℕ) (x : X) (y : Y) (xs : List X) (ys : List Y) → ((x : X) (y : Y) → R x y → m x ≡ n y) → R x y → Pairs R xs ys → Pairs R (put f m bytes count x xs) (put g n bytes count y ys)
    Pairs-put m n bytes count x y xs ys sizes new p =
        Pairs-cut m n bytes count (x ∷ others f (f x) xs) (y ∷ others g (g y) ys) sizes (new, subst (λ (k : CacheKey). Pairs R (others f k xs) (others g (g y) ys)) (sym (same x y new)) (Pairs-others (g y) xs ys p))
