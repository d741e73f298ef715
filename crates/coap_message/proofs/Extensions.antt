-- Deltas and lengths: what is read is spelled so, and what is spelled so is read.
use Rattle.std.proofs.Common.{◌≡◌, ℕ, ◌+◌, ◌*◌, ◌<◌, ◌≤◌, Bool, true, false, cond, eqb, ltb, List, [], ◌∷◌, ◌++◌, length, Option, Some, None, refl, subst, ◌⊎◌, inl, inr, arith}
use Rattle.std.proofs.lemmas.Bool.{cases_lt, ltb-true, eqb-true, lt-ltb}
use Rattle.std.proofs.lemmas.List.{get_or_append_left, get_or-append-add, get_or_past}
use Rattle.std.proofs.lemmas.Option.{same_Some}
use Rattle.coap_message.specs.Uint.{IsBytes}
use Rattle.coap_message.specs.Spelling.{Extends}
use Rattle.coap_message.specs.Reading.{one_more, two_more, extended}

-- the first of two lists of bytes are bytes
pub IsBytes-left : (a b : List ℕ) → IsBytes (a ++ b) → IsBytes a
IsBytes-left a b h i =
    elim (cases_lt i (length a)) [
      | inl lt ↦ subst (λ (n : ℕ). n < 256) (get_or_append_left a b 0 i lt) (h i)
      | inr le ↦ rw (get_or_past a i 0 le) (omega arith)
    ]

-- and so are the last
pub IsBytes-right : (a b : List ℕ) → IsBytes (a ++ b) → IsBytes b
IsBytes-right a b h i = subst (λ (n : ℕ). n < 256) (get_or-append-add a b i 0) (h (length a + i))

-- which side of a test gave a value
some_side : {A : Type 0} (b : Bool) (p q : Option A) (y : A) → cond b p q ≡ Some y → ((b ≡ true) × (p ≡ Some y)) ⊎ ((b ≡ false) × (q ≡ Some y))
some_side true p q y e = inl (refl, e)
some_side false p q y e = inr (refl, e)

-- what a delta or a length takes from the front
pub record Extended (bits : ℕ) (bytes : List ℕ) (n : ℕ) (rest : List ℕ) : Type 0 where
  pub more : List ℕ
  pub parts : bytes ≡ more ++ rest
  pub extends : IsBytes more → Extends bits more n

-- one byte is read as it is spelled
one_more_is : (bits : ℕ) (bytes : List ℕ) (x : ℕ × List ℕ) → bits ≡ 13 → one_more bytes ≡ Some x → Extended bits bytes x.0 x.1
one_more_is bits [] x is e = absurd cc
one_more_is bits (a ∷ rest) x is e =
    subst (λ (y : ℕ × List ℕ). Extended bits (a ∷ rest) y.0 y.1) (same_Some (a + 13, rest) x e) (record { more = a ∷ []; parts = refl; extends = λ f. (is, f 0, refl) })

-- and two bytes are
two_more_is : (bits : ℕ) (bytes : List ℕ) (x : ℕ × List ℕ) → bits ≡ 14 → two_more bytes ≡ Some x → Extended bits bytes x.0 x.1
two_more_is bits [] x is e = absurd cc
two_more_is bits (a ∷ []) x is e = absurd cc
two_more_is bits (a ∷ b ∷ rest) x is e =
    subst (λ (y : ℕ × List ℕ). Extended bits (a ∷ b ∷ rest) y.0 y.1) (same_Some (256 * a + b + 269, rest) x e) (record { more = a ∷ b ∷ []; parts = refl; extends = λ f. (is, f 0, f 1, refl) })

-- what is read is spelled so
pub extended_is : (bits : ℕ) (bytes : List ℕ) (x : ℕ × List ℕ) → extended bits bytes ≡ Some x → Extended bits bytes x.0 x.1
unfolding extended
extended_is bits bytes x e =
    elim (some_side (ltb bits 13) (Some (bits, bytes)) (cond (eqb bits 13) (one_more bytes) (cond (eqb bits 14) (two_more bytes) None)) x e) [
      | inl t ↦
          subst (λ (y : ℕ × List ℕ). Extended bits bytes y.0 y.1) (same_Some (bits, bytes) x t.1) (record { more = []; parts = refl; extends = λ f. (refl, ltb-true _ _ t.0) })
      | inr f ↦
          elim (some_side (eqb bits 13) (one_more bytes) (cond (eqb bits 14) (two_more bytes) None) x f.1) [
            | inl t ↦ one_more_is bits bytes x (eqb-true _ _ t.0) t.1
            | inr g ↦
                elim (some_side (eqb bits 14) (two_more bytes) None x g.1) [
                  | inl t ↦ two_more_is bits bytes x (eqb-true _ _ t.0) t.1
                  | inr h ↦ absurd (let no = h.1 in cc)
                ]
          ]
    ]

-- what is spelled so is read
pub extended_again : (bits : ℕ) (more : List ℕ) (n : ℕ) (rest : List ℕ) → Extends bits more n → extended bits (more ++ rest) ≡ Some (n, rest)
unfolding extended
extended_again bits [] n rest is =
    let low : ltb bits 13 ≡ true = lt-ltb _ _ (omega (arith, is.0, is.1)) in
    rw (low, is.0) refl
extended_again bits (a ∷ []) n rest is = rw (is.0, is.2) refl
extended_again bits (a ∷ b ∷ []) n rest is = rw (is.0, is.3) refl
extended_again bits (a ∷ b ∷ c ∷ more) n rest is = absurd is

-- the four bits are never 15
pub Extends-bits : (bits : ℕ) (more : List ℕ) (n : ℕ) → Extends bits more n → bits < 15
Extends-bits bits [] n is = omega (arith, is.0, is.1)
Extends-bits bits (a ∷ []) n is = omega (arith, is.0)
Extends-bits bits (a ∷ b ∷ []) n is = omega (arith, is.0)
Extends-bits bits (a ∷ b ∷ c ∷ more) n is = absurd is

-- the greatest delta or length
pub Extends-within : (bits : ℕ) (more : List ℕ) (n : ℕ) → Extends bits more n → n ≤ 65804
Extends-within bits [] n is = omega (arith, is.1)
Extends-within bits (a ∷ []) n is = omega (arith, is.1, is.2)
Extends-within bits (a ∷ b ∷ []) n is = omega (arith, is.1, is.2, is.3)
Extends-within bits (a ∷ b ∷ c ∷ more) n is = absurd is
