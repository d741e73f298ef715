-- Exchanges that were admitted in order, and whose turn comes first then.
use Rattle.std.proofs.Common.{◌≡◌, ℕ, ◌+◌, ◌<◌, ◌≤◌, ◌&&◌, List, [], ◌∷◌, length, max, Bool, true, false, cond, eqb, leb, Option, Some, None, refl, sym, ap, ◌∙◌, subst, arith, inl, inr}
use Rattle.std.specs.Prelude.{◌⊎◌, IfSome}
use Rattle.std.specs.List.{AllByRecursion}
use Rattle.std.specs.Option.{option_map}
use Rattle.std.proofs.lemmas.Bool.{eqb-true, eqb-false}
use Rattle.std.proofs.lemmas.Bool.Decides.{nat_tests}
use Rattle.coap_endpoint.specs.declared.endpoint.Endpoint.{Endpoint}
use Rattle.coap_endpoint.specs.declared.target.Target.{Target}
use Rattle.coap_pending.specs.declared.exchange.Exchange.{Exchange}
use Rattle.coap_pending.specs.declared.exchange.Transition.{Transition}
use Rattle.coap_pending.specs.declared.exchange.Transition.TheVariants as transition
use Rattle.coap_exchange.specs.declared.send_queue.SendQueue.{SendQueue}
use Rattle.coap_pending.specs.Due.{sooner, as_due, first_due}
use Rattle.ordered_index.specs.Ordered.{is_before, Pair, OrderedIndex, is_in, one_of, AreRising, IsReplaced}
use Rattle.coap_pending.specs.Exchanges.{after_transition, is_changed_with, is_queued, is_sent_to, tainted_by, is_queued_to}
use Rattle.coap_exchange.specs.Index.{turn_among}
use Rattle.coap_pending.specs.Table.{Numbered, Table, IsRising, IsTable, admitted_to, all_changed, changed_at, count, item_at, passes, without}
use Rattle.coap_exchange.specs.SendQueue.{head_at, head_in, noted, AreInOrder, AreHeads, IsSendQueue, IsLowestUnder}
use Rattle.coap_exchange.proofs.Apart.{apart-fewer, rising-apart}
use Rattle.coap_pending.proofs.Counts.{count-all_changed}
use Rattle.coap_exchange.proofs.Dues.{IsDueIn, first_due-is}
use Rattle.coap_exchange.proofs.Heads.{StaysElsewhere, at-stays, IsAt, head-is, head-there, heads-moved, heads-same, replaced-fewer, replaced-free, that-same}
use Rattle.endpoint_counts.proofs.Indexing.{Moves, changed-at, moves-admitted, push-at}
use Rattle.coap_exchange.proofs.ExchangeCounting.{queued-taint, sent-taint}
use Rattle.coap_pending.proofs.Sooner.{same_first, sooner_left}
use Rattle.coap_pending.proofs.Tables.{admitted-is, item_at-fresh, without-gone}
use Rattle.coap_pending.proofs.Changes.{IsRising-all_changed}

-- ---- the order of admissions, as exchanges come, change and go

-- what is there was there, and was admitted at the same moment
abbrev pub AreKept : List (Numbered Exchange) → List (Numbered Exchange) → Type 0
AreKept xs ys = (q : ℕ) (y : Exchange) → item_at q ys ≡ Some y → (x : Exchange) × (item_at q xs ≡ Some x) × (x.admitted ≡ y.admitted)

-- so it stays in order
pub order-kept : (xs ys : List (Numbered Exchange)) (latest : ℕ) → AreKept xs ys → AreInOrder xs latest → AreInOrder ys latest
order-kept xs ys latest kept are = record {
  early = λ n y f. (let (x, there, same) = kept n y f in subst (λ (m : ℕ). m ≤ latest) same (are.early n x there));
  order = λ n m y z f g lt. (
      let (x, there, same) = kept n y f in
      let (w, at, alike) = kept m z g in
      let le = are.order n m x w there at lt in
      omega arith
      );
}

-- where one item changes, the others are kept
moved-kept : (n : ℕ) (xs ys : List (Numbered Exchange)) → Moves n xs ys → ((y : Exchange) → item_at n ys ≡ Some y → (x : Exchange) × (item_at n xs ≡ Some x) × (x.admitted ≡ y.admitted)) → AreKept xs ys
moved-kept n xs ys moves here = λ q y f. go q y f (eqb q n) refl
  where
    go : (q : ℕ) (y : Exchange) → item_at q ys ≡ Some y → (b : Bool) → eqb q n ≡ b → (x : Exchange) × (item_at q xs ≡ Some x) × (x.admitted ≡ y.admitted)
    go q y f true e = subst (λ (m : ℕ). (x : Exchange) × (item_at m xs ≡ Some x) × (x.admitted ≡ y.admitted)) (sym (eqb-true q n e)) (here y (subst (λ (m : ℕ). item_at m ys ≡ Some y) (eqb-true q n e) f))
    go q y f false e = (y, sym (moves.others q e) ∙ f, refl)

-- one goes
pub kept-without : (n : ℕ) (xs : List (Numbered Exchange)) → Moves n xs (without n xs) → AreKept xs (without n xs)
kept-without n xs moves = moved-kept n xs (without n xs) moves (λ y f. absurd (let gone = without-gone n xs in cc))

-- what is made of an item is of one
made-of : (f : Exchange → Exchange) → ((x : Exchange) → (f x).admitted ≡ x.admitted) → (o : Option Exchange) (y : Exchange) → option_map f o ≡ Some y → (x : Exchange) × (o ≡ Some x) × (x.admitted ≡ y.admitted)
made-of f same None y e = absurd cc
made-of f same (Some x) y e = (x, refl, let g : f x ≡ y = cc in sym (same x) ∙ ap (λ (z : Exchange). z.admitted) g)

-- one changes
pub kept-changed : (n : ℕ) (f : Exchange → Exchange) (xs : List (Numbered Exchange)) → ((x : Exchange) → (f x).admitted ≡ x.admitted) → Moves n xs (changed_at n f xs) → AreKept xs (changed_at n f xs)
kept-changed n f xs same moves = moved-kept n xs (changed_at n f xs) moves (λ y g. made-of f same (item_at n xs) y (sym (changed-at n f xs) ∙ g))

-- a change leaves the moment of the admission
pub admitted-after : (ch : Transition) (x : Exchange) → (after_transition ch x).admitted ≡ x.admitted
admitted-after (transition.Send s) x = refl
admitted-after (transition.Fire now) x = refl
admitted-after transition.Acknowledge x = refl
admitted-after (transition.Answer a) x = refl

-- and so does a taint
admitted-tainted : (target : Target) (x : Exchange) → (tainted_by target x).admitted ≡ x.admitted
admitted-tainted target x = go (is_changed_with target x)
  where
    go : (b : Bool) → (cond b (record x { tainted = true }) x).admitted ≡ x.admitted
    go true = refl
    go false = refl

-- a taint leaves the key
pub key-tainted : (target : Target) (x : Exchange) → (tainted_by target x).key ≡ x.key
key-tainted target x = go (is_changed_with target x)
  where
    go : (b : Bool) → (cond b (record x { tainted = true }) x).key ≡ x.key
    go true = refl
    go false = refl

-- all change
at-all_changed : (f : Exchange → Exchange) (q : ℕ) (xs : List (Numbered Exchange)) → item_at q (all_changed f xs) ≡ option_map f (item_at q xs)
at-all_changed f q [] = refl
at-all_changed f q (x ∷ xs) = go (eqb q x.0) (at-all_changed f q xs)
  where
    go : (b : Bool) → item_at q (all_changed f xs) ≡ option_map f (item_at q xs) → cond b (Some (f x.1)) (item_at q (all_changed f xs)) ≡ option_map f (cond b (Some x.1) (item_at q xs))
    go true e = refl
    go false e = e

-- ---- what tells whose turn it is

-- a taint leaves it
pub send_queue-tainted : (target : Target) (xs : List (Numbered Exchange)) (send_queue : SendQueue) → IsRising 0 xs → IsSendQueue xs send_queue → IsSendQueue (all_changed (tainted_by target) xs) send_queue
send_queue-tainted target xs send_queue r are = record {
  heads = heads-same xs (all_changed (tainted_by target) xs) send_queue.heads same are.heads;
  order = λ e. order-kept xs (all_changed (tainted_by target) xs) send_queue.latest (λ q y f. made-of (tainted_by target) (admitted-tainted target) (item_at q xs) y (sym (at-all_changed (tainted_by target) q xs) ∙ f)) (are.order e);
}
  where
    queued : (e : Endpoint) (o : Option Exchange) → passes (is_queued_to e) (option_map (tainted_by target) o) ≡ passes (is_queued_to e) o
    queued e None = refl
    queued e (Some x) = queued-taint target e x

    same : (e : Endpoint) → head_at (all_changed (tainted_by target) xs) e ≡ head_at xs e
    same e = rw (count-all_changed (is_sent_to e) (tainted_by target) xs (sent-taint target e), that-same (is_queued_to e) xs (all_changed (tainted_by target) xs) r (IsRising-all_changed (tainted_by target) 0 xs r) (λ m. ap (passes (is_queued_to e)) (at-all_changed (tainted_by target) m xs) ∙ queued e (item_at m xs))) refl

-- nothing has a number that wasn't given yet
none-past : (most n : ℕ) (ys : List (Numbered Exchange)) → AllByRecursion (λ z. z.0 ≤ most) ys → most < n → item_at n ys ≡ None
none-past most n [] all lt = refl
none-past most n (z ∷ ys) all lt = go (eqb n z.0) refl (none-past most n ys all.1 lt)
  where
    go : (b : Bool) → eqb n z.0 ≡ b → item_at n ys ≡ None → cond b (Some z.1) (item_at n ys) ≡ None
    go true h rest = absurd (let one = eqb-true n z.0 h in let le = all.0 in omega arith)
    go false h rest = rest

-- one is admitted in order, where it is no earlier than the latest
order-admitted : (t : Table Exchange) (latest now : ℕ) (x : Exchange) → IsTable t → x.admitted ≡ now → latest ≤ now → AreInOrder t.items latest → AreInOrder (admitted_to x t).items now
order-admitted t latest now x is e le are = record {
  early = λ n y f. early n y f (eqb n (t.admitted + 1)) refl;
  order = λ n m y z f g lt. order n m y z f g lt (eqb n (t.admitted + 1)) refl (eqb m (t.admitted + 1)) refl;
}
  where
    moves : Moves (t.admitted + 1) t.items (admitted_to x t).items
    moves = moves-admitted t x is

    new : (y : Exchange) → item_at (t.admitted + 1) (admitted_to x t).items ≡ Some y → x ≡ y
    new y f = let there = push-at (t.admitted + 1) t.items x (item_at-fresh t is) in cc

    low : (q : ℕ) (y : Exchange) → item_at q t.items ≡ Some y → (b : Bool) → leb q t.admitted ≡ b → q ≤ t.admitted
    low q y f true g = grind (arith, nat_tests)
    low q y f false g = absurd (let none = none-past t.admitted q t.items is.below (grind (arith, nat_tests)) in cc)

    early : (n : ℕ) (y : Exchange) → item_at n (admitted_to x t).items ≡ Some y → (b : Bool) → eqb n (t.admitted + 1) ≡ b → y.admitted ≤ now
    early n y f true g =
        let same = new y (subst (λ (m : ℕ). item_at m (admitted_to x t).items ≡ Some y) (eqb-true n (t.admitted + 1) g) f) in
        let moment : x.admitted ≡ y.admitted = ap (λ (z : Exchange). z.admitted) same in
        omega arith
    early n y f false g = let before = are.early n y (sym (moves.others n g) ∙ f) in omega arith

    order : (n m : ℕ) (y z : Exchange) → item_at n (admitted_to x t).items ≡ Some y → item_at m (admitted_to x t).items ≡ Some z → n < m → (b : Bool) → eqb n (t.admitted + 1) ≡ b → (c : Bool) → eqb m (t.admitted + 1) ≡ c → y.admitted ≤ z.admitted
    order n m y z f g lt false h false k = are.order n m y z (sym (moves.others n h) ∙ f) (sym (moves.others m k) ∙ g) lt
    order n m y z f g lt false h true k =
        let same = new z (subst (λ (q : ℕ). item_at q (admitted_to x t).items ≡ Some z) (eqb-true m (t.admitted + 1) k) g) in
        let moment : x.admitted ≡ z.admitted = ap (λ (w : Exchange). w.admitted) same in
        let before = are.early n y (sym (moves.others n h) ∙ f) in
        omega arith
    order n m y z f g lt true h false k =
        let few = low m z (sym (moves.others m k) ∙ g) (leb m t.admitted) refl in
        let one = eqb-true n (t.admitted + 1) h in
        absurd (omega arith)
    order n m y z f g lt true h true k =
        let one = eqb-true n (t.admitted + 1) h in
        let other = eqb-true m (t.admitted + 1) k in
        absurd (omega arith)

-- one is admitted
pub send_queue-admitted : (t : Table Exchange) (x : Exchange) (now : ℕ) (send_queue new : SendQueue) → IsTable t → x.admitted ≡ now → IsSendQueue t.items send_queue → AreHeads (admitted_to x t).items new.heads → new.in_order ≡ (send_queue.in_order && leb send_queue.latest now) → new.latest ≡ max send_queue.latest now → IsSendQueue (admitted_to x t).items new
send_queue-admitted t x now send_queue new is e are heads flag latest = record {
  heads = heads;
  order = λ f. go send_queue.in_order refl (leb send_queue.latest now) refl (sym flag ∙ f);
}
  where
    go : (b : Bool) → send_queue.in_order ≡ b → (c : Bool) → leb send_queue.latest now ≡ c → (b && c) ≡ true → AreInOrder (admitted_to x t).items new.latest
    go true f true g h =
        let le : send_queue.latest ≤ now = grind (arith, nat_tests) in
        let last : new.latest ≡ now = omega arith in
        subst (AreInOrder (admitted_to x t).items) (sym last) (order-admitted t send_queue.latest now x is e le (are.order f))
    go true f false g h = absurd cc
    go false f c g h = absurd cc

-- ---- whose turn comes first

module _ (nstart : ℕ) (xs : List (Numbered Exchange)) (send_queue : SendQueue) (r : IsRising 0 xs) (are : IsSendQueue xs send_queue) (on : send_queue.in_order ≡ true) where
  -- when it is the turn of an exchange
  turn : Exchange → Option ℕ
  turn x = turn_among nstart xs x

  -- it is the turn of one that waits, where fewer are sent to its endpoint
  turn-on : (x : Exchange) → is_queued x ≡ true → count (is_sent_to x.key.target.at) xs < nstart → turn_among nstart xs x ≡ Some x.admitted
  turn-on x q lt = let free : leb nstart (count (is_sent_to x.key.target.at) xs) ≡ false = grind (arith, nat_tests) in rw (q, free) refl

  -- and of no other
  turn-only : (x : Exchange) → (turn_among nstart xs x ≡ None) ⊎ ((turn_among nstart xs x ≡ Some x.admitted) × (is_queued x ≡ true) × (count (is_sent_to x.key.target.at) xs < nstart))
  turn-only x = go (is_queued x) refl (leb nstart (count (is_sent_to x.key.target.at) xs)) refl
    where
      go : (b : Bool) → is_queued x ≡ b → (c : Bool) → leb nstart (count (is_sent_to x.key.target.at) xs) ≡ c → (turn_among nstart xs x ≡ None) ⊎ ((turn_among nstart xs x ≡ Some x.admitted) × (is_queued x ≡ true) × (count (is_sent_to x.key.target.at) xs < nstart))
      go true e false f = inr (turn-on x e (grind (arith, nat_tests)), e, grind (arith, nat_tests))
      go true e true f = inl (rw (e, f) refl)
      go false e c f = inl (rw e refl)

  -- the head of its endpoint stands in the index
  head-in : (m : ℕ) (y : Exchange) → item_at m xs ≡ Some y → is_queued y ≡ true → (h : ℕ) × (is_in (count (is_sent_to y.key.target.at) xs, h) send_queue.heads.pairs ≡ true) × (h ≤ m)
  head-in m y there q =
      let (h, e, le) = head-there xs r m y there q in
      (h, are.heads.all y.key.target.at (count (is_sent_to y.key.target.at) xs, h) e, le)

  -- what stands there waits, and as many are sent to its endpoint
  in-head : (c n : ℕ) → is_in (c, n) send_queue.heads.pairs ≡ true → (x : Exchange) × (item_at n xs ≡ Some x) × (is_queued x ≡ true) × (count (is_sent_to x.key.target.at) xs ≡ c)
  in-head c n there =
      let (e, h) = are.heads.only (c, n) there in
      let (x, at, q, same, many) = head-is xs r e (c, n) h in
      (x, at, q, ap (λ (d : Endpoint). count (is_sent_to d) xs) same ∙ many)

  -- where none stands under fewer than `nstart`, it is nobody's turn
  pub turn-none : IsLowestUnder nstart send_queue.heads.pairs None → None ≡ first_due (turn_among nstart xs) xs
  turn-none none = same_first {P = IsDueIn (turn_among nstart xs) xs} {Q = IsDueIn (turn_among nstart xs) xs} None (first_due (turn_among nstart xs) xs) (λ x d. d) (λ x d. d) (record { least = λ x d. (let (m, y, there, e) = d in nothing x m y there e (turn-only y)); there = inl refl }) (first_due-is (turn_among nstart xs) 0 xs r)
    where
      nothing : (x : Option Pair) (m : ℕ) (y : Exchange) → item_at m xs ≡ Some y → x ≡ as_due m (turn_among nstart xs y) → (turn_among nstart xs y ≡ None) ⊎ ((turn_among nstart xs y ≡ Some y.admitted) × (is_queued y ≡ true) × (count (is_sent_to y.key.target.at) xs < nstart)) → sooner None x ≡ None
      nothing x m y there e (inl f) = e ∙ ap (as_due m) f
      nothing x m y there e (inr f) =
          let (h, i, le) = head-in m y there f.1 in
          let many : nstart ≤ count (is_sent_to y.key.target.at) xs = none (count (is_sent_to y.key.target.at) xs, h) i in
          let few : count (is_sent_to y.key.target.at) xs < nstart = f.2 in
          absurd (omega arith)

  -- what stands there has an exchange
  pub turn-there : (n : ℕ) → IsLowestUnder nstart send_queue.heads.pairs (Some n) → item_at n xs ≡ None → ⊥
  turn-there n lowest none =
      let (c, lt, i) = lowest.0 in
      let (x, there, q, many) = in-head c n i in
      let a = there in cc

  -- of those that stand under fewer than `nstart` it is the turn of the least
  pub turn-some : (n : ℕ) (x : Exchange) → IsLowestUnder nstart send_queue.heads.pairs (Some n) → item_at n xs ≡ Some x → Some (x.admitted, n) ≡ first_due (turn_among nstart xs) xs
  turn-some n x lowest there = same_first {P = IsDueIn (turn_among nstart xs) xs} {Q = IsDueIn (turn_among nstart xs) xs} (Some (x.admitted, n)) (first_due (turn_among nstart xs) xs) (λ y d. d) (λ y d. d) (record { least = λ z d. (let (m, y, at, e) = d in later z m y at e (turn-only y)); there = inr here }) (first_due-is (turn_among nstart xs) 0 xs r)
    where
      here : IsDueIn (turn_among nstart xs) xs (Some (x.admitted, n))
      here =
          let (c, lt, i) = lowest.0 in
          let (y, at, q, many) = in-head c n i in
          let same : y ≡ x = (let a = at in cc) in
          let few : count (is_sent_to y.key.target.at) xs < nstart = omega arith in
          (n, x, there, sym (ap (as_due n) (subst (λ (z : Exchange). turn_among nstart xs z ≡ Some z.admitted) same (turn-on y q few))))

      before : (m : ℕ) (y : Exchange) → item_at m xs ≡ Some y → n ≤ m → is_before (y.admitted, m) (x.admitted, n) ≡ false
      before m y at le = go (eqb n m) refl
        where
          go : (b : Bool) → eqb n m ≡ b → is_before (y.admitted, m) (x.admitted, n) ≡ false
          go true e =
              let one : n ≡ m = eqb-true n m e in
              let same : x ≡ y = (let a = subst (λ (q : ℕ). item_at q xs ≡ Some x) one there in cc) in
              let moment : x.admitted ≡ y.admitted = ap (λ (z : Exchange). z.admitted) same in
              grind (arith, nat_tests)
          go false e =
              let other = eqb-false n m e in
              let lt : n < m = omega (arith, other) in
              let order : x.admitted ≤ y.admitted = (are.order on).order n m x y there at lt in
              grind (arith, nat_tests)

      later : (z : Option Pair) (m : ℕ) (y : Exchange) → item_at m xs ≡ Some y → z ≡ as_due m (turn_among nstart xs y) → (turn_among nstart xs y ≡ None) ⊎ ((turn_among nstart xs y ≡ Some y.admitted) × (is_queued y ≡ true) × (count (is_sent_to y.key.target.at) xs < nstart)) → sooner (Some (x.admitted, n)) z ≡ Some (x.admitted, n)
      later z m y at e (inl f) = rw (e, f) refl
      later z m y at e (inr f) =
          let (h, i, le) = head-in m y at f.1 in
          let least : n ≤ h = lowest.1 (count (is_sent_to y.key.target.at) xs, h) i f.2 in
          rw (e, f.0) (sooner_left (x.admitted, n) (y.admitted, m) (before m y at (omega arith)))

-- ---- one exchange comes, changes or goes

-- a change leaves the endpoint
pub endpoint-after : (ch : Transition) (x : Exchange) → (after_transition ch x).key.target.at ≡ x.key.target.at
endpoint-after (transition.Send s) x = refl
endpoint-after (transition.Fire now) x = refl
endpoint-after transition.Acknowledge x = refl
endpoint-after (transition.Answer a) x = refl

-- and an exchange that is changed doesn't wait for its turn
pub changed-off : (n : ℕ) (f : Exchange → Exchange) (xs : List (Numbered Exchange)) → IfSome (item_at n xs) (λ x. is_queued (f x) ≡ false) → passes is_queued (item_at n (changed_at n f xs)) ≡ false
changed-off n f xs off = ap (passes is_queued) (changed-at n f xs) ∙ go (item_at n xs) off
  where
    go : (o : Option Exchange) → IfSome o (λ x. is_queued (f x) ≡ false) → passes is_queued (option_map f o) ≡ false
    go None e = refl
    go (Some x) e = e

-- what is gone doesn't wait
pub without-off : (n : ℕ) (xs : List (Numbered Exchange)) → passes is_queued (item_at n (without n xs)) ≡ false
without-off n xs = ap (passes is_queued) (without-gone n xs)

module _ (n : ℕ) (xs ys : List (Numbered Exchange)) (at : Option Endpoint) (moves : Moves n xs ys) (rx : IsRising 0 xs) (ry : IsRising 0 ys) (stays : StaysElsewhere at (item_at n xs) (item_at n ys)) (send_queue : SendQueue) (are : IsSendQueue xs send_queue) where
  -- the head that comes doesn't stand in the index, unless it was there
  pub send_queue-free : IfSome (head_in ys at) (λ p. is_in p send_queue.heads.pairs ≡ true → head_in xs at ≡ Some p)
  send_queue-free = replaced-free n xs ys at moves rx ry stays send_queue.heads are.heads

  -- there is room for it
  pub send_queue-room : passes is_queued (item_at n ys) ≡ false → length send_queue.heads.pairs + one_of (head_in ys at) ≤ send_queue.heads.limit + one_of (head_in xs at)
  send_queue-room off =
      let fewer = replaced-fewer n xs ys at moves rx ry stays send_queue.heads are.heads off in
      let room = are.heads.room in
      omega arith

  -- and then it tells whose turn it is
  pub send_queue-moved : AreKept xs ys → passes is_queued (item_at n ys) ≡ false → (new : OrderedIndex) → new.limit ≡ send_queue.heads.limit → length new.pairs + one_of (head_in xs at) ≡ length send_queue.heads.pairs + one_of (head_in ys at) → IsReplaced send_queue.heads.pairs new.pairs (head_in xs at) (head_in ys at) → IsSendQueue ys (record send_queue { heads = new })
  send_queue-moved kept off new limit len replaced = record {
    heads = heads-moved n xs ys at moves rx ry stays send_queue.heads are.heads new replaced (let room = send_queue-room off in omega arith);
    order = λ e. order-kept xs ys send_queue.latest kept (are.order e);
  }

-- ---- there is room for the heads

-- no more endpoints have a head than there are exchanges
pub heads-fewer : (xs : List (Numbered Exchange)) (heads : OrderedIndex) → IsRising 0 xs → AreHeads xs heads → AreRising heads.pairs → length heads.pairs ≤ length xs
heads-fewer xs heads r are rising = apart-fewer heads.pairs xs (rising-apart heads.pairs rising (λ p q i j e. one p q (are.only p i) (are.only q j) e)) (λ p i. item p (are.only p i))
  where
    item : (p : Pair) → ((e : Endpoint) × (head_at xs e ≡ Some p)) → (x : Exchange) × (item_at p.1 xs ≡ Some x)
    item p (e, h) = let found = head-is xs r e p h in (found.0, found.1)

    one : (p q : Pair) → ((e : Endpoint) × (head_at xs e ≡ Some p)) → ((e : Endpoint) × (head_at xs e ≡ Some q)) → p.1 ≡ q.1 → p ≡ q
    one p q (d, f) (e, g) same =
        let first = head-is xs r d p f in
        let other = head-is xs r e q g in
        let alike : first.0 ≡ other.0 = (let at = subst (λ (n : ℕ). item_at n xs ≡ Some first.0) same first.1 in let on = other.1 in cc) in
        let whose : d ≡ e = sym first.3 ∙ ap (λ (x : Exchange). x.key.target.at) alike ∙ other.3 in
        let found : head_at xs e ≡ Some p = subst (λ (z : Endpoint). head_at xs z ≡ Some p) whose f in
        cc

-- so there is room for one more where there is for another exchange
pub heads-room : (t : Table Exchange) (send_queue : SendQueue) → IsTable t → length t.items < t.limit → IsSendQueue t.items send_queue → AreRising send_queue.heads.pairs → send_queue.heads.limit ≡ t.limit → length send_queue.heads.pairs < send_queue.heads.limit
heads-room t send_queue is room are rising limit = let fewer = heads-fewer t.items send_queue.heads is.rising are.heads rising in omega arith

-- ---- one is admitted

-- there is one at most
pub one-most : (o : Option Pair) → one_of o ≤ 1
one-most None = omega arith
one-most (Some p) = omega arith

module _ (t : Table Exchange) (x : Exchange) (is : IsTable t) (little : length t.items < t.limit) (send_queue : SendQueue) (are : IsSendQueue t.items send_queue) (room : length send_queue.heads.pairs < send_queue.heads.limit) where
  -- there was none with its number
  at-fresh : IsAt (Some x.key.target.at) (item_at (t.admitted + 1) t.items)
  at-fresh = subst (IsAt (Some x.key.target.at)) (sym (item_at-fresh t is)) tt

  -- then it is there
  at-new : IsAt (Some x.key.target.at) (item_at (t.admitted + 1) (admitted_to x t).items)
  at-new = subst (IsAt (Some x.key.target.at)) (sym (push-at (t.admitted + 1) t.items x (item_at-fresh t is))) refl

  -- it changes nothing elsewhere
  new-stays : StaysElsewhere (Some x.key.target.at) (item_at (t.admitted + 1) t.items) (item_at (t.admitted + 1) (admitted_to x t).items)
  new-stays = at-stays (Some x.key.target.at) (item_at (t.admitted + 1) t.items) (item_at (t.admitted + 1) (admitted_to x t).items) at-fresh at-new

  -- the head that comes doesn't stand in the index, unless it was there
  pub admitted-free : IfSome (head_at (admitted_to x t).items x.key.target.at) (λ p. is_in p send_queue.heads.pairs ≡ true → head_at t.items x.key.target.at ≡ Some p)
  admitted-free = replaced-free (t.admitted + 1) t.items (admitted_to x t).items (Some x.key.target.at) (moves-admitted t x is) is.rising (admitted-is t x is little).rising new-stays send_queue.heads are.heads

  -- and then it tells whose turn it is
  pub send_queue-more : (new : OrderedIndex) → new.limit ≡ send_queue.heads.limit → length new.pairs + one_of (head_at t.items x.key.target.at) ≡ length send_queue.heads.pairs + one_of (head_at (admitted_to x t).items x.key.target.at) → IsReplaced send_queue.heads.pairs new.pairs (head_at t.items x.key.target.at) (head_at (admitted_to x t).items x.key.target.at) → IsSendQueue (admitted_to x t).items (noted x.admitted (record send_queue { heads = new }))
  send_queue-more new limit len replaced =
      let one = one-most (head_at (admitted_to x t).items x.key.target.at) in
      send_queue-admitted t x x.admitted send_queue (noted x.admitted (record send_queue { heads = new })) is refl are
      (heads-moved (t.admitted + 1) t.items (admitted_to x t).items (Some x.key.target.at) (moves-admitted t x is) is.rising (admitted-is t x is little).rising new-stays send_queue.heads are.heads new replaced (omega arith))
      refl refl
