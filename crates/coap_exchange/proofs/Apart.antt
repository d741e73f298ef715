-- Pairs of items, each of another item: there are no more of them than items.
use Rattle.std.proofs.Common.{◌≡◌, ℕ, ◌+◌, ◌≤◌, ◌||◌, List, [], ◌∷◌, length, Bool, true, false, cond, eqb, Some, refl, sym, subst, ◌∙◌, arith}
use Rattle.std.specs.Prelude.{not}
use Rattle.std.proofs.lemmas.Bool.{eqb-true, eqb-false, ne_eqb}
use Rattle.std.proofs.lemmas.Bool.Decides.{nat_tests}
use Rattle.ordered_index.specs.Ordered.{Pair, is_before, is_in, is_pair, AreRising}
use Rattle.ordered_index.proofs.Ordering.{all-in, pair_itself}
use Rattle.coap_pending.specs.Table.{Numbered, item_at, without}
use Rattle.coap_pending.proofs.Tables.{without-others}

-- no number stands in two pairs
abbrev pub AreApart : List Pair → Type 0
AreApart [] = Unit {0}
AreApart (p ∷ ps) = ((q : Pair) → is_in q ps ≡ true → p.1 ≡ q.1 → ⊥) × AreApart ps

-- what is there without an item is shorter by one
length-gone : {A : Type 0} (n : ℕ) (xs : List (Numbered A)) (a : A) → item_at n xs ≡ Some a → length (without n xs) + 1 ≤ length xs
length-gone n [] a e = absurd cc
length-gone {A} n (x ∷ xs) a e = go (eqb n x.0) refl (eqb x.0 n) refl e (length-gone n xs a)
  where
    shorter : (ys : List (Numbered A)) → length (without n ys) ≤ length ys
    shorter [] = omega arith
    shorter (y ∷ ys) = less (eqb y.0 n) (shorter ys)
      where
        less : (b : Bool) → length (without n ys) ≤ length ys → length (cond (not b) (y ∷ without n ys) (without n ys)) ≤ length (y ∷ ys)
        less true i = omega arith
        less false i = omega arith

    go : (b : Bool) → eqb n x.0 ≡ b → (c : Bool) → eqb x.0 n ≡ c → cond b (Some x.1) (item_at n xs) ≡ Some a → (item_at n xs ≡ Some a → length (without n xs) + 1 ≤ length xs) → length (cond (not c) (x ∷ without n xs) (without n xs)) + 1 ≤ length (x ∷ xs)
    go b f true g h rest = let le = shorter xs in omega arith
    go false f false g h rest = let le = rest h in omega arith
    go true f false g h rest = absurd (eqb-false x.0 n g (sym (eqb-true n x.0 f)))

-- so there are no more pairs than items
pub apart-fewer : {A : Type 0} (ps : List Pair) (xs : List (Numbered A)) → AreApart ps → ((p : Pair) → is_in p ps ≡ true → (a : A) × (item_at p.1 xs ≡ Some a)) → length ps ≤ length xs
apart-fewer [] xs apart there = omega arith
apart-fewer (p ∷ ps) xs apart there =
    let found = there p (rw (pair_itself p) refl) in
    let gone = length-gone p.1 xs found.0 found.1 in
    let rest = apart-fewer ps (without p.1 xs) apart.1 (λ q i. let f = there q (behind q (is_pair q p) i) in (f.0, without-others p.1 q.1 xs (ne_eqb q.1 p.1 (λ e. apart.0 q i (sym e))) ∙ f.1)) in
    omega arith
  where
    behind : (q : Pair) (b : Bool) → is_in q ps ≡ true → (b || is_in q ps) ≡ true
    behind q true i = refl
    behind q false i = i

-- rising pairs are apart, where those of one number are one
pub rising-apart : (ps : List Pair) → AreRising ps → ((p q : Pair) → is_in p ps ≡ true → is_in q ps ≡ true → p.1 ≡ q.1 → p ≡ q) → AreApart ps
rising-apart [] r one = tt
rising-apart (p ∷ ps) r one = (
  λ q i e. (
      let same : p ≡ q = one p q (rw (pair_itself p) refl) (behind q (is_pair q p) i) e in
      let before : is_before p q ≡ true = all-in (λ x. is_before p x ≡ true) q ps r.0 i in
      let never : is_before p p ≡ true = subst (λ (x : Pair). is_before p x ≡ true) (sym same) before in
      grind (arith, nat_tests)
      ),
  rising-apart ps r.1 (λ a b i j e. one a b (behind a (is_pair a p) i) (behind b (is_pair b p) j) e),
)
  where
    behind : (q : Pair) (b : Bool) → is_in q ps ≡ true → (b || is_in q ps) ≡ true
    behind q true i = refl
    behind q false i = i
