-- The values of the recognised options of a number that is recognised in any place.
use Rattle.std.proofs.Common.{◌≡◌, ℕ, Bool, true, false, cond, eqb, List, [], ◌∷◌, ◌++◌, length, map, filter, refl, ap}
use Rattle.std.specs.Prelude.{◌&&◌, ◌==◌}
use Rattle.std.proofs.lemmas.Bool.{eqb-true}
use Rattle.coap_message.specs.declared.options.Opt.{Opt}
use Rattle.coap_option.specs.declared.side.Side.{Side}
use Rattle.coap_option.specs.Places.{PlacedOption, count_of, places_behind}
use Rattle.coap_option.specs.Recognition.{is_recognised}
use Rattle.coap_option.specs.Selection.{is_of}

-- a number is recognised in any place
abbrev pub IsAnywhere : Side → ℕ → Type 0
IsAnywhere side number = (length before : ℕ) → is_recognised side number length before ≡ is_recognised side number length 0

-- the option is of this number, and recognised
abbrev pub counts : Side → ℕ → Opt → Bool
counts side number o = o.number == number && is_recognised side number (length o.value) 0

-- the values of those that are
abbrev pub values_in : Side → ℕ → List Opt → List (List ℕ)
values_in side number os = map (λ o. o.value) (filter (counts side number) os)

-- they are those of the options in their places
pub values-placed : (side : Side) (number : ℕ) → IsAnywhere side number → (passed os : List Opt) → map (λ p. p.option.value) (filter (is_of side number) (places_behind passed os)) ≡ values_in side number os
values-placed side number anywhere passed [] = refl
values-placed side number anywhere passed (o ∷ os) = go (counts side number o) (same (eqb o.number number) refl) (values-placed side number anywhere (passed ++ o ∷ []) os)
  where
    placed : PlacedOption
    placed = record { option = o; before = count_of o.number passed }

    at-number : (n : ℕ) → n ≡ number → (n == number && is_recognised side n (length o.value) (count_of n passed)) ≡ (n == number && is_recognised side number (length o.value) 0)
    at-number n e = rw e (ap (λ (r : Bool). number == number && r) (anywhere (length o.value) (count_of number passed)))

    same : (b : Bool) → eqb o.number number ≡ b → (o.number == number && is_recognised side o.number (length o.value) (count_of o.number passed)) ≡ counts side number o
    same true e = at-number o.number (eqb-true o.number number e)
    same false e = rw e refl

    go : (k : Bool) → (o.number == number && is_recognised side o.number (length o.value) (count_of o.number passed)) ≡ k → map (λ p. p.option.value) (filter (is_of side number) (places_behind (passed ++ o ∷ []) os)) ≡ values_in side number os
        → map (λ p. p.option.value) (filter (is_of side number) (places_behind passed (o ∷ os))) ≡ map (λ p. p.value) (cond k (o ∷ filter (counts side number) os) (filter (counts side number) os))
    go true e rest = rw (e, rest) refl
    go false e rest = rw (e, rest) refl

-- x is the first of those left
module _ (side : Side) (number : ℕ) (left rest : List Opt) (x : Opt) (next : left ≡ x ∷ rest) where
  -- it is one of them
  pub counted : counts side number x ≡ true → values_in side number left ≡ x.value ∷ values_in side number rest
  counted is = rw (next, is) refl

  -- it isn't
  pub passed-over : counts side number x ≡ false → values_in side number left ≡ values_in side number rest
  passed-over fails = rw (next, fails) refl

-- a list in which one stands isn't empty
pub holds-one : (xs ys : List (List ℕ)) (y : List ℕ) → xs ++ (y ∷ ys) ≡ [] → ⊥
holds-one [] ys y e = absurd cc
holds-one (x ∷ xs) ys y e = absurd cc
