-- Values that have one form in bytes: they are the same exactly where their bytes are.
use Rattle.std.proofs.Common.{◌≡◌, ◌==◌, ℕ, Bool, true, false, List, refl, sym, ap, ◌∙◌}
use Rattle.std.specs.Bool.{Decides}
use Rattle.std.specs.Cmp.Lexicographic.{pointwise}
use Rattle.std.proofs.lemmas.Bool.Decides.{Decides-eqb}
use Rattle.std.proofs.lemmas.Slice.Eq.{slice_eq-Decides}

-- two tests that hold together are one
together : (p q : Bool) → (p ≡ true → q ≡ true) → (q ≡ true → p ≡ true) → p ≡ q
together true q f g = sym (f refl)
together false true f g = g refl
together false false f g = refl

-- what is read of bytes is compared by comparing the bytes
pub same_form : {X : Type 0} (read : List ℕ → X) (form : X → List ℕ) (same : X → X → Bool) → ((x y : X) → Decides (same x y) (x ≡ y)) → (r : Bool) (a b : List ℕ)
    → a ≡ form (read a) → b ≡ form (read b) → r ≡ pointwise ◌==◌ a b → r ≡ same (read a) (read b)
same_form read form same decides r a b s t e =
    let bytes = slice_eq-Decides Decides-eqb a b r e in
    let values = decides (read a) (read b) in
    together r (same (read a) (read b)) (λ h. values.1 (ap read (bytes.0 h))) (λ h. bytes.1 (s ∙ ap form (values.0 h) ∙ sym t))
