-- What is listed of a table: one holding for each record, or for each client.
use Rattle.std.proofs.Common.{◌≡◌, ℕ, suc, zero, ◌+◌, ◌<◌, ◌≤◌, List, [], ◌∷◌, ◌++◌, length, map, slice_get, take, Bool, true, false, cond, Option, Some, None, refl, sym, ap, ◌∙◌, subst, arith}
use Rattle.std.specs.Option.{option_map}
use Rattle.coap_endpoint.specs.declared.endpoint.Endpoint.{Endpoint}
use Rattle.coap_endpoint.specs.Endpoint.{same_endpoint}
use Rattle.coap_endpoint.proofs.Equality.{Tells-endpoint}
use Rattle.coap_dedup.specs.declared.record.Record.{Record}
use Rattle.coap_pending.specs.Table.{Numbered, Table, IsRising, IsTable, count, item_at}
use Rattle.coap_pending.proofs.Tables.{none-least}
use Rattle.endpoint_counts.specs.declared.slots.Entry.{Entry}
use Rattle.endpoint_counts.specs.Endpoints.{open_of}
use Rattle.endpoint_counts.specs.Slots.{found, numbered, AreDistinct, AreGapless}
use Rattle.endpoint_counts.specs.Slots as slots
use Rattle.endpoint_counts.proofs.Slotting.{head-item, numbered-at, rest-item}
use Rattle.coap_core.specs.declared.most.Holding.{Holding}
use Rattle.coap_core.specs.Holdings.{AreOf, AreSome, client_holdings, had_by, holdings_of, record_holdings}
use Rattle.coap_core.proofs.Totals.{of-some}

-- ---- one after another

module _ {A : Type 0} where
  -- one item more
  pub more-listed : (all : List A) (place : ℕ) (p : A) → slice_get all place ≡ Some p → take place all ++ p ∷ [] ≡ take (place + 1) all
  more-listed [] place p e = absurd cc
  more-listed (x ∷ xs) zero p e = let same : x ≡ p = cc in ap (λ y. y ∷ []) (sym same)
  more-listed (x ∷ xs) (suc k) p e =
      let next : suc k + 1 ≡ suc (k + 1) = omega arith in
      rw next (ap (λ (ys : List A). x ∷ ys) (more-listed xs k p e))

  -- and all of them, where there is none left
  pub all-listed : (all : List A) (place : ℕ) → slice_get all place ≡ None → take place all ≡ all
  all-listed [] zero e = refl
  all-listed [] (suc k) e = refl
  all-listed (x ∷ xs) zero e = absurd cc
  all-listed (x ∷ xs) (suc k) e = ap (λ (ys : List A). x ∷ ys) (all-listed xs k e)

  -- beyond the last item there is none
  pub none-beyond : (all : List A) (place : ℕ) → length all ≤ place → slice_get all place ≡ None
  none-beyond [] place le = refl
  none-beyond (x ∷ xs) zero le = absurd (omega arith)
  none-beyond (x ∷ xs) (suc k) le = none-beyond xs k (omega arith)

-- the holding of a record
pub record-holding : (rs : List Record) (place : ℕ) (found : Option Endpoint) → found ≡ option_map (λ r. r.from) (slice_get rs place) → slice_get (record_holdings rs) place ≡ option_map (λ e. record { at = e; count = 1 }) found
record-holding [] place found e = rw e refl
record-holding (r ∷ rs) zero found e = rw e refl
record-holding (r ∷ rs) (suc k) found e = record-holding rs k found e

-- and that of a client
entry-holding : (xs : List (Numbered Entry)) (place : ℕ) → slice_get (client_holdings xs) place ≡ option_map (λ x. record { at = x.peer; count = x.counts.all }) (slice_get (map (λ x. x.1) xs) place)
entry-holding [] place = refl
entry-holding (x ∷ xs) zero = refl
entry-holding (x ∷ xs) (suc k) = entry-holding xs k

-- as an entry is looked up by its number
pub client-holding : (xs : List (Numbered Entry)) (place : ℕ) (found : Option Entry) → AreGapless xs → found ≡ item_at (place + 1) xs → slice_get (client_holdings xs) place ≡ option_map (λ x. record { at = x.peer; count = x.counts.all }) found
client-holding xs place found gapless e =
    let there : item_at (place + 1) xs ≡ slice_get (map (λ x. x.1) xs) place =
    ap (item_at (place + 1)) gapless ∙ numbered-at 0 place (place + 1) (map (λ x. x.1) xs) (omega arith) in
    entry-holding xs place ∙ ap (option_map (λ x. record { at = x.peer; count = x.counts.all })) (sym there ∙ sym e)

-- there are as many holdings as clients
pub holdings-length : (xs : List (Numbered Entry)) → length (client_holdings xs) ≡ length xs
holdings-length [] = refl
holdings-length (x ∷ xs) = ap suc (holdings-length xs)

-- as records
pub records-length : (rs : List Record) → length (record_holdings rs) ≡ length rs
records-length [] = refl
records-length (r ∷ rs) = ap suc (records-length rs)

-- and as many owners as items
pub owners-length : {A : Type 0} (who : A → Endpoint) (xs : List A) → length (map who xs) ≡ length xs
owners-length who [] = refl
owners-length who (x ∷ xs) = ap suc (owners-length who xs)

-- ---- what each endpoint has

-- the holdings of records are one for each owner
record-owners : (rs : List Record) → record_holdings rs ≡ holdings_of (map (λ r. r.from) rs)
record-owners [] = refl
record-owners (r ∷ rs) = ap (λ (ps : List Holding). record { at = r.from; count = 1 } ∷ ps) (record-owners rs)

-- one holding for each record
pub are-records : (rs : List Record) → AreOf (map (λ r. r.from) rs) (record_holdings rs)
are-records rs = record {
  some = subst AreSome (sym (record-owners rs)) (of-some (map (λ r. r.from) rs));
  each = λ e. ap (had_by e) (record-owners rs);
}

-- an endpoint without an entry has nothing
had-off : (e : Endpoint) (xs : List (Numbered Entry)) (least : ℕ) → IsRising least xs → ((n : ℕ) (y : Entry) → item_at n xs ≡ Some y → same_endpoint y.peer e ≡ false) → had_by e (client_holdings xs) ≡ 0
had-off e [] least r off = refl
had-off e (x ∷ xs) least r off =
    let here = off x.0 x.1 (head-item x xs) in
    let rest = had-off e xs x.0 r.1 (λ n y f. off n y (rest-item x xs n y r.1 f)) in
    rw here (omega arith)

-- and one with an entry what it says
had-found : (e : Endpoint) (xs : List (Numbered Entry)) (least : ℕ) → IsRising least xs → AreDistinct xs → had_by e (client_holdings xs) ≡ open_of (found e xs)
had-found e [] least r distinct = refl
had-found e (x ∷ xs) least r distinct = go (same_endpoint x.1.peer e) refl (had-found e xs x.0 r.1 (λ n m u v f g. distinct n m u v (rest-item x xs n u r.1 f) (rest-item x xs m v r.1 g)))
  where
    other : same_endpoint x.1.peer e ≡ true → (n : ℕ) (y : Entry) → item_at n xs ≡ Some y → same_endpoint y.peer e ≡ false
    other on n y f = pick (same_endpoint y.peer e) refl
      where
        pick : (b : Bool) → same_endpoint y.peer e ≡ b → b ≡ false
        pick false g = refl
        pick true g = absurd (
            let mine = Tells-endpoint.only x.1.peer e on in
            let yours = Tells-endpoint.only y.peer e g in
            let alike : same_endpoint x.1.peer y.peer ≡ true = subst (λ (z : Endpoint). same_endpoint x.1.peer z ≡ true) (mine ∙ sym yours) (Tells-endpoint.itself x.1.peer) in
            let same : x.0 ≡ n = distinct x.0 n x.1 y (head-item x xs) (rest-item x xs n y r.1 f) alike in
            let none : item_at n xs ≡ None = none-least n x.0 xs (omega arith) r.1 in
            cc)

    go : (b : Bool) → same_endpoint x.1.peer e ≡ b → had_by e (client_holdings xs) ≡ open_of (found e xs) → had_by e (client_holdings (x ∷ xs)) ≡ open_of (found e (x ∷ xs))
    go false f rest = rw f (omega arith)
    go true f rest =
        let none = had-off e xs x.0 r.1 (other f) in
        rw f (omega arith)

-- no entry is empty
some-entries : (xs : List (Numbered Entry)) (least : ℕ) → IsRising least xs → ((n : ℕ) (x : Entry) → item_at n xs ≡ Some x → 0 < x.counts.all) → AreSome (client_holdings xs)
some-entries [] least r some = tt
some-entries (x ∷ xs) least r some = (some x.0 x.1 (head-item x xs), some-entries xs x.0 r.1 (λ n y f. some n y (rest-item x xs n y r.1 f)))

module _ {A : Type 0} (who : A → Endpoint) where
  -- an endpoint has as many items as it has holdings of one each
  count-had : (e : Endpoint) (items : List (Numbered A)) → count (λ a. same_endpoint (who a) e) items ≡ had_by e (holdings_of (map (λ x. who x.1) items))
  count-had e [] = refl
  count-had e (x ∷ xs) = ap (λ n. cond (same_endpoint (who x.1) e) 1 0 + n) (count-had e xs)

  -- one holding for each client
  pub are-clients : (t : Table Entry) (items : List (Numbered A)) → IsTable t → AreDistinct t.items → slots.AreSome t.items → ((e : Endpoint) → open_of (found e t.items) ≡ count (λ a. same_endpoint (who a) e) items) → AreOf (map (λ x. who x.1) items) (client_holdings t.items)
  are-clients t items is distinct some counts = record {
    some = some-entries t.items 0 is.rising some;
    each = λ e. had-found e t.items 0 is.rising distinct ∙ counts e ∙ count-had e items;
  }
