-- Entries in numbered places: what stands where, and what is counted for an endpoint.
use Rattle.std.proofs.Common.{◌≡◌, ℕ, suc, zero, ◌+◌, ◌-◌, ◌<◌, ◌≤◌, List, [], ◌∷◌, ◌++◌, length, length-append, length-set, map, set, slice_get, take, take_at, Bool, true, false, cond, eqb, Option, Some, None, refl, sym, ap, ◌∙◌, subst, arith, inl, inr}
use Rattle.std.specs.Prelude.{◌⊎◌}
use Rattle.std.specs.List.{AllByRecursion}
use Rattle.std.proofs.lemmas.Bool.{eqb-true, eqb-false, eq-eqb, ne_eqb}
use Rattle.coap_endpoint.specs.declared.endpoint.Endpoint.{Endpoint}
use Rattle.coap_endpoint.specs.Endpoint.{same_endpoint}
use Rattle.coap_endpoint.proofs.Equality.{Tells-endpoint}
use Rattle.endpoint_counts.specs.declared.endpoints.EndpointCounts.{EndpointCounts}
use Rattle.endpoint_counts.specs.declared.slots.Entry.{Entry}
use Rattle.endpoint_counts.specs.Digests.{digest_of_endpoint}
use Rattle.ordered_index.specs.Ordered.{is_key}
use Rattle.endpoint_counts.specs.Slots.{entry_key, found, is_entry_of, numbered, slots_of, AreDistinct, AreGapless, AreSome}
use Rattle.coap_pending.proofs.Tables.{none-least}
use Rattle.endpoint_counts.proofs.Firsts.{first-some}
use Rattle.coap_pending.specs.Table.{Numbered, Table, IsRising, IsTable, admitted_to, changed_at, first_that, item_at, passes, without, withdrawn, withdrawn_at}

-- ---- places

module _ {A : Type 0} where
  -- places rise
  pub numbered-rising : (k : ℕ) (xs : List A) → IsRising k (numbered k xs)
  numbered-rising k [] = tt
  numbered-rising k (x ∷ xs) = (omega arith, numbered-rising (suc k) xs)

  -- up to their number
  pub numbered-below : (k most : ℕ) (xs : List A) → k + length xs ≤ most → AllByRecursion (λ x. x.0 ≤ most) (numbered k xs)
  numbered-below k most [] le = tt
  numbered-below k most (x ∷ xs) le = (omega arith, numbered-below (suc k) most xs (omega arith))

  -- and are as many as the items
  pub numbered-length : (k : ℕ) (xs : List A) → length (numbered k xs) ≡ length xs
  numbered-length k [] = refl
  numbered-length k (x ∷ xs) = ap suc (numbered-length (suc k) xs)

  -- so they are without a gap
  numbered-items : (k : ℕ) (xs : List A) → map (λ x. x.1) (numbered k xs) ≡ xs
  numbered-items k [] = refl
  numbered-items k (x ∷ xs) = ap (λ (l : List A). x ∷ l) (numbered-items (suc k) xs)

  pub numbered-gapless : (xs : List A) → AreGapless (numbered 0 xs)
  numbered-gapless xs = ap (numbered 0) (sym (numbered-items 0 xs))

  -- no place has a number that isn't after the one before the first
  pub numbered-low : (k q : ℕ) (xs : List A) → q ≤ k → item_at q (numbered k xs) ≡ None
  numbered-low k q [] le = refl
  numbered-low k q (x ∷ xs) le =
      let other : eqb q (suc k) ≡ false = ne_eqb q (suc k) (λ e. omega arith) in
      rw other (numbered-low (suc k) q xs (omega arith))

  -- what stands at a place
  pub numbered-at : (k i q : ℕ) (xs : List A) → q ≡ k + suc i → item_at q (numbered k xs) ≡ slice_get xs i
  numbered-at k i q [] e = refl
  numbered-at k zero q (x ∷ xs) e = let one : eqb q (suc k) ≡ true = eq-eqb q (suc k) (omega arith) in rw one refl
  numbered-at k (suc i) q (x ∷ xs) e =
      let other : eqb q (suc k) ≡ false = ne_eqb q (suc k) (λ f. omega arith) in
      rw other (numbered-at (suc k) i q xs (omega arith))

  -- one more at the end
  pub numbered-push : (k n : ℕ) (xs : List A) (x : A) → n ≡ k + length xs + 1 → numbered k (xs ++ x ∷ []) ≡ numbered k xs ++ (n, x) ∷ []
  numbered-push k n [] x e = let one : n ≡ suc k = omega arith in rw one refl
  numbered-push k n (y ∷ ys) x e = ap (λ (l : List (Numbered A)). (suc k, y) ∷ l) (numbered-push (suc k) n ys x (omega arith))

  -- nothing changes where no place has the number
  changed-low : (k n : ℕ) (f : A → A) (xs : List A) → n ≤ k → changed_at n f (numbered k xs) ≡ numbered k xs
  changed-low k n f [] le = refl
  changed-low k n f (x ∷ xs) le =
      let other : eqb (suc k) n ≡ false = ne_eqb (suc k) n (λ e. omega arith) in
      rw other (ap (λ (l : List (Numbered A)). (suc k, x) ∷ l) (changed-low (suc k) n f xs (omega arith)))

  -- another stands at a place
  pub numbered-set : (k i n : ℕ) (xs : List A) (x : A) → n ≡ k + suc i → i < length xs → numbered k (set xs i x) ≡ changed_at n (λ a. x) (numbered k xs)
  numbered-set k i n [] x e lt = absurd (omega arith)
  numbered-set k zero n (y ∷ ys) x e lt =
      let one : eqb (suc k) n ≡ true = eq-eqb (suc k) n (omega arith) in
      rw one (ap (λ (l : List (Numbered A)). (suc k, x) ∷ l) (sym (changed-low (suc k) n (λ a. x) ys (omega arith))))
  numbered-set k (suc i) n (y ∷ ys) x e lt =
      let other : eqb (suc k) n ≡ false = ne_eqb (suc k) n (λ f. omega arith) in
      rw other (ap (λ (l : List (Numbered A)). (suc k, y) ∷ l) (numbered-set (suc k) i n ys x (omega arith) (omega arith)))

  -- nothing goes where no place has the number
  without-low : (k n : ℕ) (xs : List A) → n ≤ k → without n (numbered k xs) ≡ numbered k xs
  without-low k n [] le = refl
  without-low k n (x ∷ xs) le =
      let other : eqb (suc k) n ≡ false = ne_eqb (suc k) n (λ e. omega arith) in
      rw other (ap (λ (l : List (Numbered A)). (suc k, x) ∷ l) (without-low (suc k) n xs (omega arith)))

  -- the last goes
  pub numbered-pop : (k n : ℕ) (xs : List A) (x : A) → n ≡ k + length xs + 1 → without n (numbered k (xs ++ x ∷ [])) ≡ numbered k xs
  numbered-pop k n [] x e = let one : eqb (suc k) n ≡ true = eq-eqb (suc k) n (omega arith) in rw one refl
  numbered-pop k n (y ∷ ys) x e =
      let other : eqb (suc k) n ≡ false = ne_eqb (suc k) n (λ f. omega arith) in
      rw other (ap (λ (l : List (Numbered A)). (suc k, y) ∷ l) (numbered-pop (suc k) n ys x (omega arith)))

-- places are a table
pub slots-is : (xs : List Entry) (limit : ℕ) → length xs ≤ limit → IsTable (slots_of xs limit)
slots-is xs limit le = record {
  within = (let same = numbered-length 0 xs in omega arith);
  rising = numbered-rising 0 xs;
  below = numbered-below 0 (length xs) xs (omega arith);
}

-- one more entry
pub slots-push : (xs : List Entry) (x : Entry) (limit : ℕ) → slots_of (xs ++ x ∷ []) limit ≡ admitted_to x (slots_of xs limit)
slots-push xs x limit =
    let items : numbered 0 (xs ++ x ∷ []) ≡ numbered 0 xs ++ (length xs + 1, x) ∷ [] = numbered-push 0 (length xs + 1) xs x (omega arith) in
    let many : length (xs ++ x ∷ []) ≡ length xs + 1 = length-append xs (x ∷ []) in
    λ i. record { items = items i; limit = limit; per_client = 0; admitted = many i; seed = 0 }

-- another entry at a place
pub slots-set : (xs : List Entry) (n : ℕ) (x : Entry) (limit : ℕ) → 0 < n → n ≤ length xs → slots_of (set xs (n - 1) x) limit ≡ record (slots_of xs limit) { items = changed_at n (λ e. x) (numbered 0 xs) }
slots-set xs n x limit some le =
    let items : numbered 0 (set xs (n - 1) x) ≡ changed_at n (λ e. x) (numbered 0 xs) = numbered-set 0 (n - 1) n xs x (omega arith) (omega arith) in
    let many : length (set xs (n - 1) x) ≡ length xs = length-set xs (n - 1) x in
    λ i. record { items = items i; limit = limit; per_client = 0; admitted = many i; seed = 0 }

-- a list without a length is empty
pub none-of : (xs : List Entry) → length xs ≡ 0 → xs ≡ []
none-of [] e = refl
none-of (x ∷ xs) e = absurd (omega arith)

-- a list is empty, or has a last item
pub last-split : (xs : List Entry) → (xs ≡ []) ⊎ ((ys : List Entry) × (y : Entry) × (xs ≡ ys ++ y ∷ []))
last-split [] = inl refl
last-split (x ∷ xs) = go (last-split xs)
  where
    go : (xs ≡ []) ⊎ ((ys : List Entry) × (y : Entry) × (xs ≡ ys ++ y ∷ [])) → (x ∷ xs ≡ []) ⊎ ((ys : List Entry) × (y : Entry) × (x ∷ xs ≡ ys ++ y ∷ []))
    go (inl e) = inr ([], x, ap (λ (l : List Entry). x ∷ l) e)
    go (inr (ys, y, e)) = inr (x ∷ ys, y, ap (λ (l : List Entry). x ∷ l) e)

-- the last item of a list
slice_get-last : (xs : List Entry) (x : Entry) → slice_get (xs ++ x ∷ []) (length xs) ≡ Some x
slice_get-last [] x = refl
slice_get-last (y ∷ ys) x = slice_get-last ys x

-- the last goes
pub slots-pop : (xs : List Entry) (limit : ℕ) → slots_of (take (length xs - 1) xs) limit ≡ withdrawn (slots_of xs limit)
slots-pop xs limit = go (last-split xs)
  where
    go : (xs ≡ []) ⊎ ((ys : List Entry) × (y : Entry) × (xs ≡ ys ++ y ∷ [])) → slots_of (take (length xs - 1) xs) limit ≡ withdrawn (slots_of xs limit)
    go (inl e) = subst (λ (l : List Entry). slots_of (take (length l - 1) l) limit ≡ withdrawn (slots_of l limit)) (sym e) refl
    go (inr (ys, y, e)) = subst (λ (l : List Entry). slots_of (take (length l - 1) l) limit ≡ withdrawn (slots_of l limit)) (sym e) (one ys y)
      where
        one : (zs : List Entry) (z : Entry) → slots_of (take (length (zs ++ z ∷ []) - 1) (zs ++ z ∷ [])) limit ≡ withdrawn (slots_of (zs ++ z ∷ []) limit)
        one zs z =
            let many : length (zs ++ z ∷ []) ≡ length zs + 1 = length-append zs (z ∷ []) in
            let fewer : length (zs ++ z ∷ []) - 1 ≡ length zs = omega arith in
            let rest : take (length (zs ++ z ∷ []) - 1) (zs ++ z ∷ []) ≡ zs = ap (λ (n : ℕ). take n (zs ++ z ∷ [])) fewer ∙ take_at zs (z ∷ []) (length zs) refl in
            let there : item_at (length (zs ++ z ∷ [])) (numbered 0 (zs ++ z ∷ [])) ≡ Some z = numbered-at 0 (length zs) (length (zs ++ z ∷ [])) (zs ++ z ∷ []) (omega arith) ∙ slice_get-last zs z in
            let items : without (length (zs ++ z ∷ [])) (numbered 0 (zs ++ z ∷ [])) ≡ numbered 0 zs = numbered-pop 0 (length (zs ++ z ∷ [])) zs z (omega arith) in
            let gone : withdrawn (slots_of (zs ++ z ∷ []) limit) ≡ withdrawn_at (Some z) (slots_of (zs ++ z ∷ []) limit) = ap (λ (o : Option Entry). withdrawn_at o (slots_of (zs ++ z ∷ []) limit)) there in
            (λ i. record { items = numbered 0 (rest i); limit = limit; per_client = 0; admitted = length (rest i); seed = 0 })
            ∙ sym (gone ∙ (λ i. record { items = items i; limit = limit; per_client = 0; admitted = fewer i; seed = 0 }))

-- ---- an endpoint's place

-- no place up to this number is of the endpoint
abbrev pub NoneOfUpTo : Endpoint → Table Entry → ℕ → Type 0
NoneOfUpTo at t after = (m : ℕ) → m ≤ after → passes (is_entry_of at) (item_at m t.items) ≡ false

-- an entry with another key is of another endpoint
pub other-key : (at : Endpoint) (e : Entry) → is_key (digest_of_endpoint at) (entry_key e) ≡ false → is_entry_of at e ≡ false
other-key at e off = go (same_endpoint e.peer at) refl
  where
    go : (b : Bool) → same_endpoint e.peer at ≡ b → b ≡ false
    go false f = refl
    go true f = absurd (
        let same : e.peer ≡ at = Tells-endpoint.only e.peer at f in
        let on : eqb (digest_of_endpoint at) (digest_of_endpoint e.peer) ≡ true = eq-eqb (digest_of_endpoint at) (digest_of_endpoint e.peer) (sym (ap digest_of_endpoint same)) in
        cc)

-- ---- what is counted for an endpoint

-- the entry of an endpoint, if it has one
pub data FoundView (at : Endpoint) (xs : List (Numbered Entry)) : Type 0 where
  no_entry : found at xs ≡ None → first_that (is_entry_of at) xs ≡ None → ((n : ℕ) (x : Entry) → item_at n xs ≡ Some x → is_entry_of at x ≡ false) → FoundView at xs
  an_entry : (n : ℕ) (x : Entry) → item_at n xs ≡ Some x → is_entry_of at x ≡ true → found at xs ≡ Some x.counts → first_that (is_entry_of at) xs ≡ Some n → FoundView at xs

-- the item of the head's number is the head
pub head-item : (x : Numbered Entry) (xs : List (Numbered Entry)) → item_at x.0 (x ∷ xs) ≡ Some x.1
head-item x xs = rw (eq-eqb x.0 x.0 refl) refl

-- the others are among the rest
pub rest-item : (x : Numbered Entry) (xs : List (Numbered Entry)) (n : ℕ) (y : Entry) → IsRising x.0 xs → item_at n xs ≡ Some y → item_at n (x ∷ xs) ≡ Some y
rest-item x xs n y r e = go (eqb n x.0) refl
  where
    go : (b : Bool) → eqb n x.0 ≡ b → cond b (Some x.1) (item_at n xs) ≡ Some y
    go true f = absurd (let none : item_at n xs ≡ None = none-least n x.0 xs (let same = eqb-true n x.0 f in omega arith) r in cc)
    go false f = e

pub found-view : (at : Endpoint) (least : ℕ) (xs : List (Numbered Entry)) → IsRising least xs → FoundView at xs
found-view at least [] r = no_entry refl refl (λ n x e. absurd cc)
found-view at least (x ∷ xs) r = go (is_entry_of at x.1) refl (found-view at x.0 xs r.1)
  where
    go : (b : Bool) → is_entry_of at x.1 ≡ b → FoundView at xs → FoundView at (x ∷ xs)
    go true e v = an_entry x.0 x.1 (head-item x xs) e (rw e refl) (rw e refl)
    go false e (no_entry none first other) = no_entry (rw e none) (rw e first) (λ n y f. pick n y (eqb n x.0) f)
      where
        pick : (n : ℕ) (y : Entry) (b : Bool) → cond b (Some x.1) (item_at n xs) ≡ Some y → is_entry_of at y ≡ false
        pick n y true f = let same : x.1 ≡ y = cc in subst (λ (z : Entry). is_entry_of at z ≡ false) same e
        pick n y false f = other n y f
    go false e (an_entry n y f on is first) = an_entry n y (rest-item x xs n y r.1 f) on (rw e is) (rw e first)

-- an endpoint's entry is its own only one
pub found-at : (at : Endpoint) (xs : List (Numbered Entry)) (n : ℕ) (x : Entry) → IsRising 0 xs → AreDistinct xs → item_at n xs ≡ Some x → is_entry_of at x ≡ true → found at xs ≡ Some x.counts
found-at at xs n x r distinct e on = go (found-view at 0 xs r)
  where
    go : FoundView at xs → found at xs ≡ Some x.counts
    go (no_entry none first other) = absurd (let off = other n x e in cc)
    go (an_entry m y f too is first) =
        let alike : same_endpoint x.peer y.peer ≡ true = subst (λ (z : Endpoint). same_endpoint x.peer z ≡ true) (sym (Tells-endpoint.only y.peer at too)) on in
        let same : n ≡ m = distinct n m x y e f alike in
        let one : x ≡ y = (let g = subst (λ (k : ℕ). item_at k xs ≡ Some x) same e in cc) in
        is ∙ ap (λ (z : Entry). Some z.counts) (sym one)

-- where none is the endpoint's, nothing is counted
pub found-none : (at : Endpoint) (xs : List (Numbered Entry)) → IsRising 0 xs → ((n : ℕ) (x : Entry) → item_at n xs ≡ Some x → is_entry_of at x ≡ false) → found at xs ≡ None
found-none at xs r other = go (found-view at 0 xs r)
  where
    go : FoundView at xs → found at xs ≡ None
    go (no_entry none first others) = none
    go (an_entry m y f on is first) = absurd (let off = other m y f in cc)

-- the entry of the place that is found first
pub first-there : (at : Endpoint) (xs : List (Numbered Entry)) (n : ℕ) → IsRising 0 xs → first_that (is_entry_of at) xs ≡ Some n → (x : Entry) × (item_at n xs ≡ Some x) × (is_entry_of at x ≡ true) × (found at xs ≡ Some x.counts)
first-there at xs n r e = go (found-view at 0 xs r)
  where
    go : FoundView at xs → (x : Entry) × (item_at n xs ≡ Some x) × (is_entry_of at x ≡ true) × (found at xs ≡ Some x.counts)
    go (no_entry none first other) = absurd cc
    go (an_entry m y f on is first) = let same : m ≡ n = cc in (y, subst (λ (k : ℕ). item_at k xs ≡ Some y) same f, on, is)

-- none is found where nothing is counted
pub first-none : (at : Endpoint) (xs : List (Numbered Entry)) → IsRising 0 xs → first_that (is_entry_of at) xs ≡ None → found at xs ≡ None
first-none at xs r e = go (found-view at 0 xs r)
  where
    go : FoundView at xs → found at xs ≡ None
    go (no_entry none first other) = none
    go (an_entry m y f on is first) = absurd cc

-- ---- entries come, change and go

-- something is counted in each entry, where others stay and the new one counts something
pub some-set : (n : ℕ) (xs ys : List (Numbered Entry)) (e : Entry) → 0 < e.counts.all → item_at n ys ≡ Some e → ((q : ℕ) → eqb q n ≡ false → item_at q ys ≡ item_at q xs) → AreSome xs → AreSome ys
some-set n xs ys e some now others are = λ q y f. go q y f (eqb q n) refl
  where
    go : (q : ℕ) (y : Entry) → item_at q ys ≡ Some y → (b : Bool) → eqb q n ≡ b → 0 < y.counts.all
    go q y f true g = let is : e ≡ y = (let h = subst (λ (k : ℕ). item_at k ys ≡ Some y) (eqb-true q n g) f in cc) in subst (λ (z : Entry). 0 < z.counts.all) is some
    go q y f false g = are q y (sym (others q g) ∙ f)

-- what comes of the entries: others are what they were, or the last one
module _ (at : Endpoint) (xs ys : List (Numbered Entry)) (rx : IsRising 0 xs) (ry : IsRising 0 ys) (dx : AreDistinct xs) where
  -- one is set, where it was
  module _ (n : ℕ) (x : Entry) (counts : EndpointCounts) (there : item_at n xs ≡ Some x) (on : is_entry_of at x ≡ true) (now : item_at n ys ≡ Some (record { peer = at; counts = counts })) (others : (q : ℕ) → eqb q n ≡ false → item_at q ys ≡ item_at q xs) where
    -- an entry is of the endpoint that it was of
    was : (q : ℕ) (y : Entry) → item_at q ys ≡ Some y → (z : Entry) × (item_at q xs ≡ Some z) × (z.peer ≡ y.peer)
    was q y e = go (eqb q n) refl
      where
        go : (b : Bool) → eqb q n ≡ b → (z : Entry) × (item_at q xs ≡ Some z) × (z.peer ≡ y.peer)
        go true f =
            let same = eqb-true q n f in
            let is : record { peer = at; counts = counts } ≡ y = (let g = subst (λ (k : ℕ). item_at k ys ≡ Some y) same e in cc) in
            (x, subst (λ (k : ℕ). item_at k xs ≡ Some x) (sym same) there, Tells-endpoint.only x.peer at on ∙ ap (λ (z : Entry). z.peer) is)
        go false f = (y, sym (others q f) ∙ e, refl)

    pub distinct-set : AreDistinct ys
    distinct-set = λ p q u v e f alike. (
        let (z, g, i) = was p u e in
        let (w, h, j) = was q v f in
        dx p q z w g h (rw (i, j) alike)
        )

    pub found-set : (e : Endpoint) → found e ys ≡ cond (same_endpoint at e) (Some counts) (found e xs)
    found-set e = go (same_endpoint at e) refl
      where
        go : (b : Bool) → same_endpoint at e ≡ b → found e ys ≡ cond b (Some counts) (found e xs)
        go true f = found-at e ys n (record { peer = at; counts = counts }) ry distinct-set now f
        go false f = pick (found-view e 0 xs rx)
          where
            other : (m : ℕ) (y : Entry) → item_at m ys ≡ Some y → ((q : ℕ) (z : Entry) → item_at q xs ≡ Some z → is_entry_of e z ≡ false) → is_entry_of e y ≡ false
            other m y g none = let (z, h, i) = was m y g in subst (λ (k : Endpoint). same_endpoint k e ≡ false) i (none m z h)

            pick : FoundView e xs → found e ys ≡ found e xs
            pick (no_entry none first others) = found-none e ys ry (λ m y g. other m y g others) ∙ sym none
            pick (an_entry m y g too is first) = found-at e ys m y ry distinct-set (moved (eqb m n) refl) too ∙ sym is
              where
                moved : (b : Bool) → eqb m n ≡ b → item_at m ys ≡ Some y
                moved true h = absurd (
                    let same = eqb-true m n h in
                    let one : x ≡ y = (let k = subst (λ (k : ℕ). item_at k xs ≡ Some y) same g in cc) in
                    let whose : at ≡ e = sym (Tells-endpoint.only x.peer at on) ∙ ap (λ (z : Entry). z.peer) one ∙ Tells-endpoint.only y.peer e too in
                    let itself : same_endpoint at e ≡ true = subst (λ (z : Endpoint). same_endpoint at z ≡ true) whose (Tells-endpoint.itself at) in
                    cc)
                moved false h = others m h ∙ g

  -- one comes, where there was none
  module _ (n : ℕ) (counts : EndpointCounts) (fresh : item_at n xs ≡ None) (none : found at xs ≡ None) (now : item_at n ys ≡ Some (record { peer = at; counts = counts })) (others : (q : ℕ) → eqb q n ≡ false → item_at q ys ≡ item_at q xs) where
    -- none was the endpoint's
    off : (q : ℕ) (y : Entry) → item_at q xs ≡ Some y → is_entry_of at y ≡ false
    off = go (found-view at 0 xs rx)
      where
        go : FoundView at xs → (q : ℕ) (y : Entry) → item_at q xs ≡ Some y → is_entry_of at y ≡ false
        go (no_entry nothing first other) = other
        go (an_entry m y g too is first) = absurd cc

    -- it is the new one or an old one
    is-one : (q : ℕ) (y : Entry) → item_at q ys ≡ Some y → ((q ≡ n) × (y.peer ≡ at)) ⊎ (item_at q xs ≡ Some y)
    is-one q y e = go (eqb q n) refl
      where
        go : (b : Bool) → eqb q n ≡ b → ((q ≡ n) × (y.peer ≡ at)) ⊎ (item_at q xs ≡ Some y)
        go true f =
            let same = eqb-true q n f in
            let is : record { peer = at; counts = counts } ≡ y = (let g = subst (λ (k : ℕ). item_at k ys ≡ Some y) same e in cc) in
            inl (same, sym (ap (λ (z : Entry). z.peer) is))
        go false f = inr (sym (others q f) ∙ e)

    pub distinct-more : AreDistinct ys
    distinct-more = λ p q u v e f alike. go p q u v alike (is-one p u e) (is-one q v f)
      where
        never : (q : ℕ) (z : Entry) (p : Endpoint) → p ≡ at → item_at q xs ≡ Some z → same_endpoint z.peer p ≡ true → ⊥
        never q z p is g alike = let unlike = off q z g in let yes : same_endpoint z.peer at ≡ true = subst (λ (k : Endpoint). same_endpoint z.peer k ≡ true) is alike in cc

        go : (p q : ℕ) (u v : Entry) → same_endpoint u.peer v.peer ≡ true → ((p ≡ n) × (u.peer ≡ at)) ⊎ (item_at p xs ≡ Some u) → ((q ≡ n) × (v.peer ≡ at)) ⊎ (item_at q xs ≡ Some v) → p ≡ q
        go p q u v alike (inl f) (inl g) = f.0 ∙ sym g.0
        go p q u v alike (inl f) (inr g) = absurd (never q v u.peer f.1 g (let same = Tells-endpoint.only u.peer v.peer alike in subst (λ (k : Endpoint). same_endpoint v.peer k ≡ true) (sym same) (Tells-endpoint.itself v.peer)))
        go p q u v alike (inr f) (inl g) = absurd (never p u v.peer g.1 f alike)
        go p q u v alike (inr f) (inr g) = dx p q u v f g alike

    pub found-more : (e : Endpoint) → found e ys ≡ cond (same_endpoint at e) (Some counts) (found e xs)
    found-more e = go (same_endpoint at e) refl
      where
        go : (b : Bool) → same_endpoint at e ≡ b → found e ys ≡ cond b (Some counts) (found e xs)
        go true f = found-at e ys n (record { peer = at; counts = counts }) ry distinct-more now f
        go false f = pick (found-view e 0 xs rx)
          where
            other : (m : ℕ) (y : Entry) → ((q : ℕ) (z : Entry) → item_at q xs ≡ Some z → is_entry_of e z ≡ false) → ((m ≡ n) × (y.peer ≡ at)) ⊎ (item_at m xs ≡ Some y) → is_entry_of e y ≡ false
            other m y nothing (inl g) = subst (λ (k : Endpoint). same_endpoint k e ≡ false) (sym g.1) f
            other m y nothing (inr g) = nothing m y g

            pick : FoundView e xs → found e ys ≡ found e xs
            pick (no_entry nothing first all) = found-none e ys ry (λ m y g. other m y all (is-one m y g)) ∙ sym nothing
            pick (an_entry m y g too is first) = found-at e ys m y ry distinct-more (others m (ne_eqb m n (λ h. let gone = subst (λ (k : ℕ). item_at k xs ≡ Some y) h g in cc)) ∙ g) too ∙ sym is

  -- one goes, and the last comes into its place
  module _ (n last : ℕ) (x moved : Entry) (there : item_at n xs ≡ Some x) (on : is_entry_of at x ≡ true) (end : item_at last xs ≡ Some moved) (gone : item_at last ys ≡ None) (now : eqb n last ≡ false → item_at n ys ≡ Some moved) (others : (q : ℕ) → eqb q n ≡ false → eqb q last ≡ false → item_at q ys ≡ item_at q xs) where
    -- each was at its place, or was the last
    came : (q : ℕ) (y : Entry) → item_at q ys ≡ Some y → (p : ℕ) × (item_at p xs ≡ Some y) × (p ≡ n → ⊥) × ((p ≡ q) ⊎ ((q ≡ n) × (p ≡ last)))
    came q y e = go (eqb q last) refl (eqb q n) refl
      where
        go : (a : Bool) → eqb q last ≡ a → (b : Bool) → eqb q n ≡ b → (p : ℕ) × (item_at p xs ≡ Some y) × (p ≡ n → ⊥) × ((p ≡ q) ⊎ ((q ≡ n) × (p ≡ last)))
        go true f b g = absurd (let none = subst (λ (k : ℕ). item_at k ys ≡ None) (sym (eqb-true q last f)) gone in cc)
        go false f true g =
            let same = eqb-true q n g in
            let apart : eqb n last ≡ false = subst (λ (k : ℕ). eqb k last ≡ false) same f in
            let is : moved ≡ y = (let h = now apart in let k = subst (λ (k : ℕ). item_at k ys ≡ Some y) same e in cc) in
            (last, end ∙ ap (λ (z : Entry). Some z) is, λ h. eqb-false n last apart (sym h), inr (same, refl))
        go false f false g = (q, sym (others q g f) ∙ e, eqb-false q n g, inl refl)

    pub some-less : AreSome xs → AreSome ys
    some-less are = λ q y e. (let (p, g, off, c) = came q y e in are p y g)

    pub distinct-less : AreDistinct ys
    distinct-less = λ p q u v e f alike. (
        let (i, g, offi, ci) = came p u e in
        let (j, h, offj, cj) = came q v f in
        meet p q i j (dx i j u v g h alike) ci cj offi (ends p u e) (ends q v f)
        )
      where
        ends : (q : ℕ) (y : Entry) → item_at q ys ≡ Some y → q ≡ last → ⊥
        ends q y e same = let none = subst (λ (k : ℕ). item_at k ys ≡ None) (sym same) gone in cc

        meet : (p q i j : ℕ) → i ≡ j → ((i ≡ p) ⊎ ((p ≡ n) × (i ≡ last))) → ((j ≡ q) ⊎ ((q ≡ n) × (j ≡ last))) → (i ≡ n → ⊥) → (p ≡ last → ⊥) → (q ≡ last → ⊥) → p ≡ q
        meet p q i j one (inl a) (inl b) off lp lq = sym a ∙ one ∙ b
        meet p q i j one (inl a) (inr b) off lp lq = absurd (lp (sym a ∙ one ∙ b.1))
        meet p q i j one (inr a) (inl b) off lp lq = absurd (lq (sym b ∙ sym one ∙ a.1))
        meet p q i j one (inr a) (inr b) off lp lq = a.0 ∙ sym b.0

    pub found-less : (e : Endpoint) → found e ys ≡ cond (same_endpoint at e) None (found e xs)
    found-less e = go (same_endpoint at e) refl
      where
        go : (b : Bool) → same_endpoint at e ≡ b → found e ys ≡ cond b None (found e xs)
        go true f = found-none e ys ry (λ m y g. away m y (came m y g) (same_endpoint y.peer e) refl)
          where
            away : (m : ℕ) (y : Entry) → ((p : ℕ) × (item_at p xs ≡ Some y) × (p ≡ n → ⊥) × ((p ≡ m) ⊎ ((m ≡ n) × (p ≡ last)))) → (b : Bool) → same_endpoint y.peer e ≡ b → b ≡ false
            away m y c false h = refl
            away m y (p, g, unlike, c) true h = absurd (unlike (dx p n y x g there (
                let mine = Tells-endpoint.only x.peer at on in
                let whose = Tells-endpoint.only at e f in
                let yours = Tells-endpoint.only y.peer e h in
                subst (λ (k : Endpoint). same_endpoint y.peer k ≡ true) (yours ∙ sym whose ∙ sym mine) (Tells-endpoint.itself y.peer))))
        go false f = pick (found-view e 0 xs rx)
          where
            pick : FoundView e xs → found e ys ≡ found e xs
            pick (no_entry nothing first all) = found-none e ys ry (λ m y g. let (p, h, unlike, c) = came m y g in all p y h) ∙ sym nothing
            pick (an_entry m y g too is first) = place (eqb m last) refl ∙ sym is
              where
                apart : m ≡ n → ⊥
                apart h =
                    let one : x ≡ y = (let k = subst (λ (k : ℕ). item_at k xs ≡ Some y) h g in cc) in
                    let whose : at ≡ e = sym (Tells-endpoint.only x.peer at on) ∙ ap (λ (z : Entry). z.peer) one ∙ Tells-endpoint.only y.peer e too in
                    let itself : same_endpoint at e ≡ true = subst (λ (z : Endpoint). same_endpoint at z ≡ true) whose (Tells-endpoint.itself at) in
                    cc

                place : (b : Bool) → eqb m last ≡ b → found e ys ≡ Some y.counts
                place true h =
                    let same = eqb-true m last h in
                    let one : moved ≡ y = (let k = subst (λ (k : ℕ). item_at k xs ≡ Some y) same g in cc) in
                    let far : eqb n last ≡ false = ne_eqb n last (λ k. apart (same ∙ sym k)) in
                    found-at e ys n y ry distinct-less (now far ∙ ap (λ (z : Entry). Some z) one) too
                place false h = found-at e ys m y ry distinct-less (others m (ne_eqb m n apart) h ∙ g) too

-- an entry of an endpoint, where one passes
entry-there : (at : Endpoint) (o : Option Entry) → passes (is_entry_of at) o ≡ true → (x : Entry) × (o ≡ Some x) × (is_entry_of at x ≡ true)
entry-there at None e = absurd cc
entry-there at (Some x) e = (x, refl, e)

-- a place with an endpoint's entry is the endpoint's place
pub only-place : (at : Endpoint) (xs : List (Numbered Entry)) (n : ℕ) → IsRising 0 xs → AreDistinct xs → passes (is_entry_of at) (item_at n xs) ≡ true → first_that (is_entry_of at) xs ≡ Some n
only-place at xs n r d on = first-some (is_entry_of at) n 0 xs r on (λ m lt. other m lt (passes (is_entry_of at) (item_at m xs)) refl)
  where
    other : (m : ℕ) → m < n → (b : Bool) → passes (is_entry_of at) (item_at m xs) ≡ b → passes (is_entry_of at) (item_at m xs) ≡ false
    other m lt false e = e
    other m lt true e =
        let here = entry-there at (item_at n xs) on in
        let there = entry-there at (item_at m xs) e in
        let one : there.0.peer ≡ here.0.peer = Tells-endpoint.only there.0.peer at there.2 ∙ sym (Tells-endpoint.only here.0.peer at here.2) in
        let same : m ≡ n = d m n there.0 here.0 there.1 here.1 (rw one (Tells-endpoint.itself here.0.peer)) in
        absurd (omega arith)
