-- No more endpoints have counts than there are items to count.
use Rattle.std.proofs.Common.{◌≡◌, ℕ, ◌+◌, ◌<◌, ◌≤◌, List, [], ◌∷◌, length, Bool, true, false, Some, None, refl, sym, ap, ◌∙◌, subst, arith}
use Rattle.coap_endpoint.specs.declared.endpoint.Endpoint.{Endpoint}
use Rattle.coap_endpoint.specs.Endpoint.{same_endpoint}
use Rattle.coap_endpoint.proofs.Equality.{Tells-endpoint}
use Rattle.endpoint_counts.specs.declared.slots.Entry.{Entry}
use Rattle.endpoint_counts.specs.Endpoints.{open_of}
use Rattle.endpoint_counts.specs.Slots.{found, AreDistinct, AreSome}
use Rattle.coap_pending.specs.Table.{Numbered, Table, IsRising, IsTable, count, item_at}
use Rattle.coap_pending.proofs.Counts.{one_if}
use Rattle.endpoint_counts.proofs.Slotting.{found-at, head-item, rest-item}
use Rattle.coap_pending.proofs.Tables.{none-least}

module _ {A : Type 0} (who : A → Endpoint) where
  -- the item is this endpoint's
  abbrev whose : Endpoint → A → Bool
  whose e a = same_endpoint (who a) e

  -- the entries that count an item
  abbrev ones : List (Numbered Entry) → A → ℕ
  ones [] a = 0
  ones (x ∷ xs) a = one_if (whose x.1.peer a) + ones xs a

  -- the items that all entries count
  abbrev total : List (Numbered Entry) → List (Numbered A) → ℕ
  total [] items = 0
  total (x ∷ xs) items = count (whose x.1.peer) items + total xs items

  -- an item more is counted where it is
  total-more : (xs : List (Numbered Entry)) (a : Numbered A) (items : List (Numbered A)) → total xs (a ∷ items) ≡ ones xs a.1 + total xs items
  total-more [] a items = refl
  total-more (x ∷ xs) a items = omega (arith, total-more xs a items)

  -- none are counted where there are none
  total-none : (xs : List (Numbered Entry)) → total xs [] ≡ 0
  total-none [] = refl
  total-none (x ∷ xs) = omega (arith, total-none xs)

  -- what is distinct stays so without the first
  rest-distinct : (x : Numbered Entry) (xs : List (Numbered Entry)) → IsRising x.0 xs → AreDistinct (x ∷ xs) → AreDistinct xs
  rest-distinct x xs r distinct = λ n m u v e f. distinct n m u v (rest-item x xs n u r e) (rest-item x xs m v r f)

  -- an entry doesn't count what another does
  ones-off : (xs : List (Numbered Entry)) (a : A) (least : ℕ) → IsRising least xs → ((n : ℕ) (y : Entry) → item_at n xs ≡ Some y → whose y.peer a ≡ false) → ones xs a ≡ 0
  ones-off [] a least r off = refl
  ones-off (x ∷ xs) a least r off =
      let here = ap one_if (off x.0 x.1 (head-item x xs)) in
      let rest = ones-off xs a x.0 r.1 (λ n y e. off n y (rest-item x xs n y r.1 e)) in
      omega arith

  ones-most : (xs : List (Numbered Entry)) (a : A) (least : ℕ) → IsRising least xs → AreDistinct xs → ones xs a ≤ 1
  ones-most [] a least r distinct = omega arith
  ones-most (x ∷ xs) a least r distinct = go (whose x.1.peer a) refl (ones-most xs a x.0 r.1 (rest-distinct x xs r.1 distinct))
    where
      other : whose x.1.peer a ≡ true → (n : ℕ) (y : Entry) → item_at n xs ≡ Some y → whose y.peer a ≡ false
      other on n y e = pick (whose y.peer a) refl
        where
          pick : (b : Bool) → whose y.peer a ≡ b → b ≡ false
          pick false f = refl
          pick true f = absurd (
              let mine = Tells-endpoint.only (who a) x.1.peer on in
              let yours = Tells-endpoint.only (who a) y.peer f in
              let alike : same_endpoint x.1.peer y.peer ≡ true = subst (λ (z : Endpoint). same_endpoint x.1.peer z ≡ true) (sym mine ∙ yours) (Tells-endpoint.itself x.1.peer) in
              let same : x.0 ≡ n = distinct x.0 n x.1 y (head-item x xs) (rest-item x xs n y r.1 e) alike in
              let none : item_at n xs ≡ None = none-least n x.0 xs (omega arith) r.1 in
              cc)

      go : (b : Bool) → whose x.1.peer a ≡ b → ones xs a ≤ 1 → one_if b + ones xs a ≤ 1
      go true e most = let none = ones-off xs a x.0 r.1 (other e) in omega arith
      go false e most = omega arith

  -- no item is counted twice
  total-most : (xs : List (Numbered Entry)) (items : List (Numbered A)) (least : ℕ) → IsRising least xs → AreDistinct xs → total xs items ≤ length items
  total-most xs [] least r distinct = let none = total-none xs in omega arith
  total-most xs (a ∷ items) least r distinct = omega (arith, total-more xs a items, ones-most xs a.1 least r distinct, total-most xs items least r distinct)

  -- each entry counts one at least
  total-least : (xs : List (Numbered Entry)) (items : List (Numbered A)) (least : ℕ) → IsRising least xs → ((n : ℕ) (x : Entry) → item_at n xs ≡ Some x → 0 < count (whose x.peer) items) → length xs ≤ total xs items
  total-least [] items least r some = omega arith
  total-least (x ∷ xs) items least r some =
      let here = some x.0 x.1 (head-item x xs) in
      let rest = total-least xs items x.0 r.1 (λ n y e. some n y (rest-item x xs n y r.1 e)) in
      omega arith

  -- so there are no more entries than items
  pub few-entries : (t : Table Entry) (items : List (Numbered A)) → IsTable t → AreDistinct t.items → AreSome t.items → ((e : Endpoint) → open_of (found e t.items) ≡ count (λ a. same_endpoint (who a) e) items) → length t.items ≤ length items
  few-entries t items is distinct are counts =
      let most = total-most t.items items 0 is.rising distinct in
      let least = total-least t.items items 0 is.rising (λ n x e. (
      let own = found-at x.peer t.items n x is.rising distinct e (Tells-endpoint.itself x.peer) in
      let many : x.counts.all ≡ count (whose x.peer) items = sym (ap open_of own) ∙ counts x.peer in
      let some = are n x e in
      omega arith
      )) in
      omega arith
