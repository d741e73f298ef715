-- What is due first of a table's items, where an index has them by when they are due.
use Rattle.std.proofs.Common.{◌≡◌, ℕ, List, [], ◌∷◌, Bool, true, false, eqb, Option, Some, None, refl, sym, ap, ◌∙◌, arith, inl, inr}
use Rattle.std.specs.Prelude.{◌⊎◌, map}
use Rattle.std.proofs.lemmas.Bool.{eqb-true, eq-eqb, ne_eqb}
use Rattle.coap_pending.specs.Due.{sooner, as_due, due_row, first_due}
use Rattle.endpoint_counts.specs.IndexOf.{key_at, IsIndexOf}
use Rattle.ordered_index.specs.Ordered.{Pair, OrderedIndex, is_in, is_key, IsLeast}
use Rattle.coap_pending.specs.Table.{Numbered, Table, IsRising, IsTable, item_at}
use Rattle.coap_pending.proofs.Sooner.{IsFirst, IsIn, first_of-is, same_first_of, sooner_assoc, sooner_comm, sooner_left}
use Rattle.coap_pending.proofs.Tables.{above-least}

module _ {A : Type 0} (due : A → Option ℕ) where
  -- this is what is due of an item
  abbrev pub IsDueIn : List (Numbered A) → Option Pair → Type 0
  IsDueIn xs x = (n : ℕ) × (a : A) × (item_at n xs ≡ Some a) × (x ≡ as_due n (due a))

  -- a row of the table is
  pub rows-due : (least : ℕ) (xs : List (Numbered A)) (x : Option Pair) → IsRising least xs → IsIn x (map (due_row due) xs) → IsDueIn xs x
  rows-due least [] x r i = absurd i
  rows-due least (y ∷ ys) x r i = elim i [ inl e ↦ (y.0, y.1, rw (eq-eqb y.0 y.0 refl) refl, e) | inr j ↦ later (rows-due y.0 ys x r.1 j) ]
    where
      later : IsDueIn ys x → IsDueIn (y ∷ ys) x
      later d =
          let (n, a, there, e) = d in
          let off : eqb n y.0 ≡ false = ne_eqb n y.0 (λ f. let lt = above-least n y.0 ys a r.1 there in omega arith) in
          (n, a, rw off there, e)

  -- and what is due of an item is a row
  pub due-rows : (xs : List (Numbered A)) (x : Option Pair) (n : ℕ) (a : A) → item_at n xs ≡ Some a → x ≡ as_due n (due a) → IsIn x (map (due_row due) xs)
  due-rows [] x n a there e = absurd cc
  due-rows (y ∷ ys) x n a there e = go (eqb n y.0) refl (λ f. due-rows ys x n a f e)
    where
      go : (b : Bool) → eqb n y.0 ≡ b → (item_at n ys ≡ Some a → IsIn x (map (due_row due) ys)) → IsIn x (map (due_row due) (y ∷ ys))
      go true f rest =
          let found : Some y.1 ≡ Some a = rw f at there in
          let same : y.1 ≡ a = cc in
          inl (rw (same, ← eqb-true n y.0 f) e)
      go false f rest = inr (rest (rw f at there))

  -- what is due first is the first of the items' dues
  pub first_due-is : (least : ℕ) (xs : List (Numbered A)) → IsRising least xs → IsFirst (IsDueIn xs) (first_due due xs)
  first_due-is least xs r =
      let f = first_of-is (map (due_row due) xs) in
      record {
        least = λ x d. let (n, a, there, e) = d in f.least x (due-rows xs x n a there e);
        there = elim f.there [ inl e ↦ inl e | inr i ↦ inr (rows-due least xs (first_due due xs) r i) ];
      }

-- ---- by an index

-- x is a pair of the index
abbrev IsPairIn : List Pair → Option Pair → Type 0
IsPairIn pairs x = (p : Pair) × (x ≡ Some p) × (is_in p pairs ≡ true)

-- the least pair is the first
least-first : (pairs : List Pair) (o : Option Pair) → IsLeast pairs o → IsFirst (IsPairIn pairs) o
least-first pairs None e =
    record {
      least = λ x d. let (p, f, i) = d in absurd (let none : is_in p [] ≡ true = rw e at i in cc);
      there = inl refl;
    }
least-first pairs (Some p) l =
    record {
      least = λ x d. let (q, f, i) = d in rw f (sooner_left p q (l.1 q i));
      there = inr (p, refl, l.0);
    }

module _ {A : Type 0} (due : A → Option ℕ) (t : Table A) (r : OrderedIndex) (is : IsTable t) (index : IsIndexOf due t.items t.limit r) where
  owned : (p : Pair) (o : Option A) → item_at p.1 t.items ≡ o → is_key p.0 (key_at due o) ≡ true → IsDueIn due t.items (Some p)
  owned p None e h = absurd cc
  owned p (Some a) e h = go (due a) refl h
    where
      go : (d : Option ℕ) → due a ≡ d → is_key p.0 d ≡ true → IsDueIn due t.items (Some p)
      go None f g = absurd cc
      go (Some m) f g = (p.1, a, e, rw (f, ← eqb-true p.0 m g) refl)

  paired : (x : Option Pair) → IsPairIn r.pairs x → IsDueIn due t.items x
  paired x d =
      let (p, f, i) = d in
      rw f (owned p (item_at p.1 t.items) refl (sym (index.members p.0 p.1) ∙ i))

  listed : (x : Option Pair) → IsDueIn due t.items x → (x ≡ None) ⊎ IsPairIn r.pairs x
  listed x d = let (n, a, there, e) = d in go n a there (due a) refl e
    where
      go : (n : ℕ) (a : A) → item_at n t.items ≡ Some a → (m : Option ℕ) → due a ≡ m → x ≡ as_due n m → (x ≡ None) ⊎ IsPairIn r.pairs x
      go n a there None f e = inl e
      go n a there (Some m) f e =
          let on : is_key m (key_at due (item_at n t.items)) ≡ true = rw (there, f) (eq-eqb m m refl) in
          inr ((m, n), e, index.members m n ∙ on)

  -- the least pair of the index is what is due first
  pub index-first : (o : Option Pair) → IsLeast r.pairs o → o ≡ first_due due t.items
  index-first o l = same_first_of o (first_due due t.items) (λ x d. inr (paired x d)) (λ x d. listed x d) (least-first r.pairs o l) (first_due-is due 0 t.items is.rising)

-- ---- what is due for one of two reasons

-- of four the soonest, in another order
sooner_mixed : (a b c d : Option Pair) → sooner (sooner a b) (sooner c d) ≡ sooner (sooner a c) (sooner b d)
sooner_mixed a b c d =
    sooner_assoc a b (sooner c d)
    ∙ ap (λ (x : Option Pair). sooner a x) (sym (sooner_assoc b c d) ∙ ap (λ (x : Option Pair). sooner x d) (sooner_comm b c) ∙ sooner_assoc c b d)
    ∙ sym (sooner_assoc a c (sooner b d))

-- what is due of an item for the one or for the other is due first for the sooner of the two
pub first_due-split : {A : Type 0} (due one other : A → Option ℕ) → ((n : ℕ) (a : A) → as_due n (due a) ≡ sooner (as_due n (one a)) (as_due n (other a))) → (xs : List (Numbered A)) → first_due due xs ≡ sooner (first_due one xs) (first_due other xs)
first_due-split due one other parts [] = refl
first_due-split due one other parts (x ∷ xs) =
    rw (parts x.0 x.1, first_due-split due one other parts xs) (sooner_mixed (due_row one x) (due_row other x) (first_due one xs) (first_due other xs))
