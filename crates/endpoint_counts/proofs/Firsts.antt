-- The first item that passes a test, found by trying the items of one key in order of number.
use Rattle.std.proofs.Common.{◌≡◌, ℕ, ◌<◌, ◌≤◌, List, [], ◌∷◌, Bool, true, false, eqb, leb, Option, Some, None, refl, sym, ap, ◌∙◌, arith}
use Rattle.std.proofs.lemmas.Bool.{eqb-true, eqb-false, eq-eqb, leb-true, leb-false}
use Rattle.endpoint_counts.specs.IndexOf.{key_at, IsIndexOf}
use Rattle.ordered_index.specs.Ordered.{OrderedIndex, is_in, is_key, IsNextOf}
use Rattle.coap_pending.specs.Table.{Numbered, Table, IsRising, IsTable, item_at, first_that, passes}
use Rattle.coap_pending.proofs.Tables.{none-least}

module _ {A : Type 0} (test : A → Bool) where
  -- what doesn't pass in a list doesn't pass in what follows its head
  none-later : (m : ℕ) (x : Numbered A) (xs : List (Numbered A)) → IsRising x.0 xs → passes test (item_at m (x ∷ xs)) ≡ false → passes test (item_at m xs) ≡ false
  none-later m x xs r e = go (eqb m x.0) refl
    where
      go : (b : Bool) → eqb m x.0 ≡ b → passes test (item_at m xs) ≡ false
      go true f =
          let none : item_at m xs ≡ None = none-least m x.0 xs (omega (arith, eqb-true m x.0 f)) r in
          rw none refl
      go false f = rw f at e

  -- the head is the item of its number
  head-is : (x : Numbered A) (xs : List (Numbered A)) → passes test (item_at x.0 (x ∷ xs)) ≡ test x.1
  head-is x xs = rw (eq-eqb x.0 x.0 refl) refl

  -- where none passes, none is first
  pub first-none : (least : ℕ) (xs : List (Numbered A)) → IsRising least xs → ((m : ℕ) → passes test (item_at m xs) ≡ false) → first_that test xs ≡ None
  first-none least [] r none = refl
  first-none least (x ∷ xs) r none =
      let off : test x.1 ≡ false = sym (head-is x xs) ∙ none x.0 in
      rw off (first-none x.0 xs r.1 (λ m. none-later m x xs r.1 (none m)))

  -- what passes is first where none of a lower number does
  pub first-some : (n least : ℕ) (xs : List (Numbered A)) → IsRising least xs → passes test (item_at n xs) ≡ true → ((m : ℕ) → m < n → passes test (item_at m xs) ≡ false) → first_that test xs ≡ Some n
  first-some n least [] r there before = absurd cc
  first-some n least (x ∷ xs) r there before = go (eqb n x.0) refl (test x.1) refl (λ later. first-some n x.0 xs r.1 later (λ m lt. none-later m x xs r.1 (before m lt)))
    where
      go : (b : Bool) → eqb n x.0 ≡ b → (c : Bool) → test x.1 ≡ c → (passes test (item_at n xs) ≡ true → first_that test xs ≡ Some n) → first_that test (x ∷ xs) ≡ Some n
      go true e true f rest = rw (f, eqb-true n x.0 e) refl
      go true e false f rest = absurd (let now : test x.1 ≡ true = rw e at there in cc)
      go false e true f rest = absurd (lower (leb n x.0) refl)
        where
          lower : (d : Bool) → leb n x.0 ≡ d → ⊥
          lower true g =
              let none : item_at n xs ≡ None = none-least n x.0 xs (leb-true n x.0 g) r.1 in
              let later : passes test (item_at n xs) ≡ true = rw e at there in
              let off : passes test (item_at n xs) ≡ false = rw none refl in
              cc
          lower false g =
              let off : test x.1 ≡ false = sym (head-is x xs) ∙ before x.0 (omega (arith, leb-false n x.0 g)) in
              cc
      go false e false f rest =
          let later : passes test (item_at n xs) ≡ true = rw e at there in
          rw f (rest later)

-- ---- by an index

-- what passes has this key
module _ {A : Type 0} (key : A → Option ℕ) (test : A → Bool) (id : ℕ) (only : (a : A) → is_key id (key a) ≡ false → test a ≡ false) (t : Table A) (r : OrderedIndex) (is : IsTable t) (index : IsIndexOf key t.items t.limit r) where
  -- none passes up to a number
  abbrev pub NoneUpTo : ℕ → Type 0
  NoneUpTo after = (m : ℕ) → m ≤ after → passes test (item_at m t.items) ≡ false

  unowned : (o : Option A) → is_key id (key_at key o) ≡ false → passes test o ≡ false
  unowned None e = refl
  unowned (Some a) e = only a e

  -- what isn't in the index doesn't pass
  not-in : (m : ℕ) → is_in (id, m) r.pairs ≡ false → passes test (item_at m t.items) ≡ false
  not-in m e = unowned (item_at m t.items) (sym (index.members id m) ∙ e)

  pub none-start : NoneUpTo 0
  none-start = λ m le. ap (passes test) (none-least m 0 t.items le is.rising)

  -- none between a number and the next of the key
  below-next : (after number m : ℕ) → NoneUpTo after → IsNextOf id after r.pairs (Some number) → m < number → passes test (item_at m t.items) ≡ false
  below-next after number m none next lt = go (leb m after) refl (is_in (id, m) r.pairs) refl
    where
      go : (b : Bool) → leb m after ≡ b → (c : Bool) → is_in (id, m) r.pairs ≡ c → passes test (item_at m t.items) ≡ false
      go true e c f = none m (leb-true m after e)
      go false e false f = not-in m f
      go false e true f = absurd (let le = next.2 m (omega (arith, leb-false m after e)) f in omega arith)

  pub none-next : (after number : ℕ) → NoneUpTo after → IsNextOf id after r.pairs (Some number) → passes test (item_at number t.items) ≡ false → NoneUpTo number
  none-next after number none next off = λ m le. go m le (eqb m number) refl
    where
      go : (m : ℕ) → m ≤ number → (b : Bool) → eqb m number ≡ b → passes test (item_at m t.items) ≡ false
      go m le true e = rw (eqb-true m number e) off
      go m le false e = below-next after number m none next (omega (arith, eqb-false m number e))

  pub first-found : (after number : ℕ) → NoneUpTo after → IsNextOf id after r.pairs (Some number) → passes test (item_at number t.items) ≡ true → first_that test t.items ≡ Some number
  first-found after number none next on = first-some test number 0 t.items is.rising on (λ m lt. below-next after number m none next lt)

  pub first-missing : (after : ℕ) → NoneUpTo after → IsNextOf id after r.pairs None → first_that test t.items ≡ None
  first-missing after none next = first-none test 0 t.items is.rising (λ m. go m (leb m after) refl)
    where
      go : (m : ℕ) (b : Bool) → leb m after ≡ b → passes test (item_at m t.items) ≡ false
      go m true e = none m (leb-true m after e)
      go m false e = not-in m (next m (omega (arith, leb-false m after e)))
