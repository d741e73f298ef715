-- Options without Observe, picked one by one.
use Rattle.std.proofs.Common.{◌≡◌, eqb, Bool, true, false, cond, List, [], ◌∷◌, ◌++◌, refl, ap, append_assoc}
use Rattle.std.specs.Prelude.{◌==◌, ◌||◌, not, filter}
use Rattle.std.specs.List.{list_any}
use Rattle.coap_message.specs.declared.options.Opt.{Opt}

-- the options that are kept
abbrev pub unobserved : List Opt → List Opt
unobserved os = filter (λ o. not (o.number == 6)) os

-- without Observe all are
pub all-kept : (os : List Opt) → list_any (λ o. o.number == 6) os ≡ false → os ≡ unobserved os
all-kept [] e = refl
all-kept (o ∷ os) e = go (eqb o.number 6) (all-kept os) e
  where
    go : (b : Bool) → (list_any (λ p. p.number == 6) os ≡ false → os ≡ unobserved os) → (b || list_any (λ p. p.number == 6) os) ≡ false → o ∷ os ≡ cond (not b) (o ∷ unobserved os) (unobserved os)
    go true rest f = absurd cc
    go false rest f = ap (λ (l : List Opt). o ∷ l) (rest f)

-- x is the first of those left
module _ (left rest : List Opt) (x : Opt) (next : left ≡ x ∷ rest) where
  -- it is kept
  pub pushed : (list more : List Opt) → more ≡ list ++ x ∷ [] → eqb x.number 6 ≡ false → more ++ unobserved rest ≡ list ++ unobserved left
  pushed list more is other = rw (is, next, other) (append_assoc list (x ∷ []) (unobserved rest))

  -- it is an Observe
  pub skipped : eqb x.number 6 ≡ true → unobserved rest ≡ unobserved left
  skipped observe = rw (next, observe) refl
