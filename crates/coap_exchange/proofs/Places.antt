-- Items of a map by the places that they have in it.
use Rattle.std.proofs.Common.{◌≡◌, ℕ, zero, suc, ◌<◌, length, get_or, position, IfSome, List, [], ◌∷◌, Bool, true, false, cond, eqb, not, Option, Some, None, slice_get, refl, sym, ap, subst, ◌∙◌, arith}
use Rattle.std.specs.List.{AllByRecursion, IsDistinct}
use Rattle.std.specs.Map.{keys_of, values_of, set_value}
use Rattle.std.specs.Option.{option_map}
use Rattle.std.proofs.lemmas.Bool.{eq-eqb, eqb-false, eqb-true, ne_eqb}
use Rattle.std.proofs.lemmas.List.Quantifiers.{position-Some}
use Rattle.indexmap.specs.IndexMap.{set_value_at}
use Rattle.coap_pending.specs.Table.{Numbered, item_at, without}

-- The item at a place has this number: it is what the number finds, and a write there is one
-- through the number.
pub record IsAt {A : Type 0} (n : ℕ) (es : List (Numbered A)) (i : ℕ) : Type 0 where
  pub item : A
  pub here : slice_get (values_of es) i ≡ Some item
  pub found : item_at n es ≡ Some item
  pub written : (w : A) → set_value_at es i w ≡ set_value (eqb n) es w

-- what differs from all differs from one
apart-at : {A : Type 0} (m n : ℕ) (es : List (Numbered A)) (i : ℕ) → AllByRecursion (λ k. eqb m k ≡ false) (keys_of es) → option_map (λ e. e.0) (slice_get es i) ≡ Some n → eqb m n ≡ false
apart-at m n [] i all at = absurd cc
apart-at m n (e ∷ es) zero all at = let same : e.0 ≡ n = cc in ap (eqb m) (sym same) ∙ all.0
apart-at m n (e ∷ es) (suc i) all at = apart-at m n es i all.1 at

-- a place that has a number is the place of its item
pub IsAt-of : {A : Type 0} (n : ℕ) (es : List (Numbered A)) (i : ℕ) → IsDistinct eqb (keys_of es) → option_map (λ e. e.0) (slice_get es i) ≡ Some n → IsAt n es i
unfolding IsDistinct
IsAt-of n [] i distinct at = absurd cc
IsAt-of n (e ∷ es) zero distinct at =
    let same : e.0 ≡ n = cc in
    let mine : eqb n e.0 ≡ true = eq-eqb n e.0 (sym same) in
    record {
      item = e.1;
      here = refl;
      found = rw mine refl;
      written = λ w. rw mine refl;
    }
IsAt-of n (e ∷ es) (suc i) distinct at =
    let rest = IsAt-of n es i distinct.1 at in
    let other : eqb n e.0 ≡ false = ne_eqb n e.0 (λ f. eqb-false e.0 n (apart-at e.0 n es i distinct.0 at) (sym f)) in
    record {
      item = rest.item;
      here = rest.here;
      found = rw other rest.found;
      written = λ w. rw other (ap (λ l. e ∷ l) (rest.written w));
    }

-- the number at a place of the keys is that of the item there
numbered : {A : Type 0} (es : List (Numbered A)) (i : ℕ) → i < length (keys_of es) → option_map (λ e. e.0) (slice_get es i) ≡ Some (get_or (keys_of es) i 0)
numbered [] i lt = absurd (omega (arith, lt))
numbered (e ∷ es) zero lt = refl
numbered (e ∷ es) (suc i) lt = numbered es i (omega (arith, lt))

-- so the place that is found for a number has it
pub found-numbered : {A : Type 0} (n : ℕ) (es : List (Numbered A)) (r : Option ℕ) → r ≡ position (eqb n) (keys_of es) → IfSome r (λ i. option_map (λ e. e.0) (slice_get es i) ≡ Some n)
found-numbered n es None is = tt
found-numbered n es (Some i) is =
    let at = position-Some (eqb n) (keys_of es) i 0 (sym is) in
    numbered es i at.0 ∙ ap Some (sym (eqb-true n (get_or (keys_of es) i 0) at.1))

-- without a number that no item has, all are left
pub without-absent : {A : Type 0} (n : ℕ) (xs : List (Numbered A)) → item_at n xs ≡ None → without n xs ≡ xs
without-absent n [] none = refl
without-absent {A} n (x ∷ xs) none = go (eqb x.0 n) refl (λ e. without-absent n xs e)
  where
    go : (b : Bool) → eqb x.0 n ≡ b → (item_at n xs ≡ None → without n xs ≡ xs) → cond (not b) (x ∷ without n xs) (without n xs) ≡ x ∷ xs
    go true t rest =
        let mine : eqb n x.0 ≡ true = eq-eqb n x.0 (sym (eqb-true x.0 n t)) in
        let found : Some x.1 ≡ None = rw mine at none in
        absurd (cc)
    go false t rest =
        let other : eqb n x.0 ≡ false = ne_eqb n x.0 (λ f. eqb-false x.0 n t (sym f)) in
        ap (λ l. x ∷ l) (rest (rw other at none))

-- what holds of the number of what was found holds of the number
pub of-found : {A : Type 0} (P : ℕ → Type 0) (n : ℕ) (o : Option (Numbered A)) → option_map (λ e. e.0) o ≡ Some n → IfSome o (λ e. P e.0) → P n
of-found P n None at holds = absurd cc
of-found P n (Some e) at holds = let same : e.0 ≡ n = cc in subst P same holds
