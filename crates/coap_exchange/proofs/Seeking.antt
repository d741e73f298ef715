-- What is sought stands first of those in an index; what is due first stands first in one.
use Rattle.std.proofs.Common.{◌≡◌, ℕ, ◌+◌, ◌-◌, ◌≤◌, ◌<◌, ◌&&◌, ◌^◌, List, [], ◌∷◌, map, min, Bool, true, false, cond, eqb, ltb, leb, Option, Some, None, refl, sym, ap, ◌∙◌, subst, arith, inl, inr}
use Rattle.std.specs.Prelude.{◌⊎◌, not, IfSome}
use Rattle.std.proofs.lemmas.Bool.{eqb-true, eq-eqb, ne_eqb}
use Rattle.std.proofs.lemmas.Bool.Decides.{nat_tests}
use Rattle.coap_store.specs.declared.key.CacheKey.{CacheKey}
use Rattle.coap_store.specs.Keys.{same_key}
use Rattle.coap_store.proofs.Keys.{Tells-key}
use Rattle.coap_pending.specs.declared.exchange.Exchange.{Exchange}
use Rattle.coap_pending.specs.declared.exchange.ExchangeState.{ExchangeState}
use Rattle.coap_pending.specs.declared.exchange.ExchangeState.TheVariants.{Queued, Sent, Acked, Done}
use Rattle.coap_pending.specs.declared.exchange.Sending.{Sending}
use Rattle.coap_pending.specs.Due.{sooner, as_due, due_row, first_due, later}
use Rattle.ordered_index.specs.Ordered.{is_before, Pair, OrderedIndex, is_in, is_key, IsLeast, IsNextOf}
use Rattle.coap_endpoint.specs.declared.endpoint.Endpoint.{Endpoint}
use Rattle.coap_endpoint.specs.Endpoint.{same_endpoint}
use Rattle.coap_pending.specs.Exchanges.{answer_at, is_joinable, is_some_as, was_sent_as, due_among, due_in, is_blocked, is_queued, is_queued_state, is_sent_state, answer_in_state, is_missing, timer_or, AreTimely}
use Rattle.coap_store.specs.Digests.{digest_of_key}
use Rattle.coap_exchange.specs.Index.{cache_key_of, id_in, id_of, opening_of, end_in, end_of, turn_among, AreListed}
use Rattle.endpoint_counts.specs.IndexOf.{key_at, IsIndexOf}
use Rattle.coap_pending.specs.Table.{Numbered, IsRising, item_at, count, first_that, passes}
use Rattle.coap_pending.proofs.Counts.{one_if, all-at, AllItems}
use Rattle.coap_pending.proofs.Sooner.{IsFirst, IsIn, first_of-is, same_first_of, sooner_assoc, sooner_comm, sooner_left}

-- ---- the first that passes

module _ {A : Type 0} where
  -- a number at or below the least has no item
  pub none-under : (n least : ℕ) (xs : List (Numbered A)) → n ≤ least → IsRising least xs → item_at n xs ≡ None
  none-under n least [] le r = refl
  none-under n least (x ∷ xs) le r =
      let other : eqb n x.0 ≡ false = ne_eqb n x.0 (λ e. let above = r.0 in omega arith) in
      rw other (none-under n x.0 xs (omega (arith, r.0)) r.1)

  -- what passes has a number above the least
  pub passes-above : (test : A → Bool) (n least : ℕ) (xs : List (Numbered A)) → IsRising least xs → passes test (item_at n xs) ≡ true → least < n
  passes-above test n least xs r e = go (leb n least) refl
    where
      go : (b : Bool) → leb n least ≡ b → least < n
      go true f = absurd (let none : item_at n xs ≡ None = none-under n least xs (grind (arith, nat_tests)) r in let gone : passes test (item_at n xs) ≡ false = ap (λ (o : Option A). passes test o) none in cc)
      go false f = grind (arith, nat_tests)

  -- nothing has the number 0
  pub none-zero : (test : A → Bool) (n : ℕ) (xs : List (Numbered A)) → n ≤ 0 → IsRising 0 xs → passes test (item_at n xs) ≡ false
  none-zero test n xs le r = ap (λ (o : Option A). passes test o) (none-under n 0 xs le r)

  -- what none of the table passes, none of its rest passes
  rest-none : (test : A → Bool) (x : Numbered A) (xs : List (Numbered A)) → IsRising x.0 xs → (m : ℕ) → passes test (item_at m (x ∷ xs)) ≡ false → passes test (item_at m xs) ≡ false
  rest-none test x xs r m e = go (eqb m x.0) refl e
    where
      go : (b : Bool) → eqb m x.0 ≡ b → passes test (cond b (Some x.1) (item_at m xs)) ≡ false → passes test (item_at m xs) ≡ false
      go true f h = ap (λ (o : Option A). passes test o) (none-under m x.0 xs (let same = eqb-true m x.0 f in omega arith) r)
      go false f h = h

  -- the first item is found by its number
  head-at : (test : A → Bool) (x : Numbered A) (xs : List (Numbered A)) → passes test (item_at x.0 (x ∷ xs)) ≡ test x.1
  head-at test x xs = ap (λ (b : Bool). passes test (cond b (Some x.1) (item_at x.0 xs))) (eq-eqb x.0 x.0 refl)

  -- one that doesn't pass is skipped
  skip : (test : A → Bool) (x : Numbered A) (xs : List (Numbered A)) → test x.1 ≡ false → first_that test (x ∷ xs) ≡ first_that test xs
  skip test x xs e = rw e refl

  -- where none passes there is no first
  pub none-that : (test : A → Bool) (least : ℕ) (xs : List (Numbered A)) → IsRising least xs → ((m : ℕ) → passes test (item_at m xs) ≡ false) → first_that test xs ≡ None
  none-that test least [] r none = refl
  none-that test least (x ∷ xs) r none = skip test x xs (sym (head-at test x xs) ∙ none x.0) ∙ none-that test x.0 xs r.1 (λ m. rest-none test x xs r.1 m (none m))

  -- the first that passes is the one with the least number
  pub that-first : (test : A → Bool) (n least : ℕ) (xs : List (Numbered A)) → IsRising least xs → passes test (item_at n xs) ≡ true → ((m : ℕ) → m < n → passes test (item_at m xs) ≡ false) → first_that test xs ≡ Some n
  that-first test n least [] r there none = absurd cc
  that-first test n least (x ∷ xs) r there none = go (eqb n x.0) refl there (that-first test n x.0 xs r.1)
    where
      go : (b : Bool) → eqb n x.0 ≡ b → passes test (cond b (Some x.1) (item_at n xs)) ≡ true
          → (passes test (item_at n xs) ≡ true → ((m : ℕ) → m < n → passes test (item_at m xs) ≡ false) → first_that test xs ≡ Some n)
          → first_that test (x ∷ xs) ≡ Some n
      go true f h rest = rw h (ap (λ (m : ℕ). Some m) (sym (eqb-true n x.0 f)))
      go false f h rest =
          let above : x.0 < n = (let le = passes-above test n x.0 xs r.1 h in omega arith) in
          skip test x xs (sym (head-at test x xs) ∙ none x.0 above) ∙ rest h (λ m lt. rest-none test x xs r.1 m (none m lt))

  -- those before the next of an index don't pass, and where there is no next, none does
  pub listed-before : (test : A → Bool) (key after n : ℕ) (xs : List (Numbered A)) (pairs : List Pair) → AreListed test key xs pairs → IsNextOf key after pairs (Some n) → ((m : ℕ) → m ≤ after → passes test (item_at m xs) ≡ false) → (m : ℕ) → m < n → passes test (item_at m xs) ≡ false
  listed-before test key after n xs pairs listed next done m lt = go (passes test (item_at m xs)) refl (leb m after) refl
    where
      go : (b : Bool) → passes test (item_at m xs) ≡ b → (d : Bool) → leb m after ≡ d → b ≡ false
      go false e d f = refl
      go true e true f = absurd (let none = done m (grind (arith, nat_tests)) in cc)
      go true e false f = absurd (let least : n ≤ m = next.2 m (grind (arith, nat_tests)) (listed m e) in omega arith)

  -- nor do those up to it, if it doesn't either
  pub listed-up : (test : A → Bool) (key after n : ℕ) (xs : List (Numbered A)) (pairs : List Pair) → AreListed test key xs pairs → IsNextOf key after pairs (Some n) → ((m : ℕ) → m ≤ after → passes test (item_at m xs) ≡ false) → passes test (item_at n xs) ≡ false → (m : ℕ) → m ≤ n → passes test (item_at m xs) ≡ false
  listed-up test key after n xs pairs listed next done off m le = go (eqb m n) refl
    where
      go : (b : Bool) → eqb m n ≡ b → passes test (item_at m xs) ≡ false
      go true e = subst (λ (k : ℕ). passes test (item_at k xs) ≡ false) (sym (eqb-true m n e)) off
      go false e = listed-before test key after n xs pairs listed next done m (grind (arith, nat_tests))

  -- where no number is left in the index none passes
  pub listed-none : (test : A → Bool) (key after : ℕ) (xs : List (Numbered A)) (pairs : List Pair) → AreListed test key xs pairs → IsNextOf key after pairs None → ((m : ℕ) → m ≤ after → passes test (item_at m xs) ≡ false) → (m : ℕ) → passes test (item_at m xs) ≡ false
  listed-none test key after xs pairs listed next done m = go (passes test (item_at m xs)) refl (leb m after) refl
    where
      go : (b : Bool) → passes test (item_at m xs) ≡ b → (d : Bool) → leb m after ≡ d → b ≡ false
      go false e d f = refl
      go true e true f = absurd (let none = done m (grind (arith, nat_tests)) in cc)
      go true e false f = absurd (let none = next m (grind (arith, nat_tests)) in let there = listed m e in cc)

-- ---- the first of an index is due first

module _ {A : Type 0} (key_of : A → Option ℕ) where
  -- what is due of each item
  abbrev Rows : List (Numbered A) → List (Option Pair)
  Rows xs = map (due_row key_of) xs

  -- a pair stands in the index
  abbrev Tells : List Pair → Option Pair → Type 0
  Tells pairs None = ⊥
  Tells pairs (Some p) = is_in p pairs ≡ true

  -- the least of an index is its first
  least-first : (pairs : List Pair) (o : Option Pair) → IsLeast pairs o → IsFirst (Tells pairs) o
  least-first pairs None e = record { least = λ x t. nothing x t; there = inl refl }
    where
      nothing : (x : Option Pair) → Tells pairs x → sooner None x ≡ None
      nothing None t = refl
      nothing (Some p) t = absurd (let empty : is_in p [] ≡ true = subst (λ (l : List Pair). is_in p l ≡ true) e t in cc)
  least-first pairs (Some p) is = record { least = λ x t. lower x t; there = inr is.0 }
    where
      lower : (x : Option Pair) → Tells pairs x → sooner (Some p) x ≡ Some p
      lower None t = refl
      lower (Some q) t = sooner_left p q (is.1 q t)

  -- an item has its row
  row-in : (n : ℕ) (xs : List (Numbered A)) (a : A) → item_at n xs ≡ Some a → IsIn (as_due n (key_of a)) (Rows xs)
  row-in n [] a e = absurd cc
  row-in n (x ∷ xs) a e = go (eqb n x.0) refl e (row-in n xs a)
    where
      go : (b : Bool) → eqb n x.0 ≡ b → cond b (Some x.1) (item_at n xs) ≡ Some a → (item_at n xs ≡ Some a → IsIn (as_due n (key_of a)) (Rows xs)) → IsIn (as_due n (key_of a)) (Rows (x ∷ xs))
      go true f h rest = let same : x.1 ≡ a = cc in inl (ap (λ (m : ℕ). as_due m (key_of a)) (eqb-true n x.0 f) ∙ ap (λ (b : A). as_due x.0 (key_of b)) (sym same))
      go false f h rest = inr (rest h)

  -- a row has its item
  in-row : (least : ℕ) (xs : List (Numbered A)) (p : Option Pair) → IsRising least xs → IsIn p (Rows xs) → (n : ℕ) × (a : A) × (item_at n xs ≡ Some a) × (p ≡ as_due n (key_of a)) × (least < n)
  in-row least [] p r i = absurd i
  in-row least (x ∷ xs) p r i = elim i [ inl e ↦ (x.0, x.1, ap (λ (b : Bool). cond b (Some x.1) (item_at x.0 xs)) (eq-eqb x.0 x.0 refl), e, r.0) | inr e ↦ further (in-row x.0 xs p r.1 e) ]
    where
      further : ((n : ℕ) × (a : A) × (item_at n xs ≡ Some a) × (p ≡ as_due n (key_of a)) × (x.0 < n)) → (n : ℕ) × (a : A) × (item_at n (x ∷ xs) ≡ Some a) × (p ≡ as_due n (key_of a)) × (least < n)
      further f =
          let above = f.4 in
          let lower = r.0 in
          (f.0, f.1, ap (λ (b : Bool). cond b (Some x.1) (item_at f.0 xs)) (ne_eqb f.0 x.0 (λ e. omega arith)) ∙ f.2, f.3, omega arith)

  -- an key that is found is an item's
  key-found : (o n : ℕ) (found : Option A) → is_key o (key_at key_of found) ≡ true → (a : A) × (found ≡ Some a) × (key_of a ≡ Some o)
  key-found o n None e = absurd cc
  key-found o n (Some a) e = go (key_of a) refl e
    where
      go : (p : Option ℕ) → key_of a ≡ p → is_key o p ≡ true → (b : A) × (Some a ≡ Some b) × (key_of b ≡ Some o)
      go None f h = absurd cc
      go (Some q) f h = (a, refl, f ∙ ap (λ (m : ℕ). Some m) (sym (eqb-true o q h)))

  -- so the first of an index is what is due first
  pub index-first : (most : ℕ) (xs : List (Numbered A)) (index : OrderedIndex) (o : Option Pair) → IsRising 0 xs → IsIndexOf key_of xs most index → IsLeast index.pairs o → o ≡ first_due key_of xs
  index-first most xs index o r is least = same_first_of o (first_due key_of xs) (λ x t. to x t) (λ x i. from x i) (least-first index.pairs o least) (first_of-is (Rows xs))
    where
      to : (x : Option Pair) → Tells index.pairs x → (x ≡ None) ⊎ IsIn x (Rows xs)
      to None t = inl refl
      to (Some p) t =
          let found = key-found p.0 p.1 (item_at p.1 xs) (sym (is.members p.0 p.1) ∙ t) in
          inr (subst (λ (q : Option Pair). IsIn q (Rows xs)) (ap (λ (q : Option ℕ). as_due p.1 q) found.2) (row-in p.1 xs found.0 found.1))

      from : (x : Option Pair) → IsIn x (Rows xs) → (x ≡ None) ⊎ Tells index.pairs x
      from x i = let found = in-row 0 xs x r i in told x found.0 found.1 found.2 found.3 (key_of found.1) refl
        where
          told : (y : Option Pair) (n : ℕ) (a : A) → item_at n xs ≡ Some a → y ≡ as_due n (key_of a) → (p : Option ℕ) → key_of a ≡ p → (y ≡ None) ⊎ Tells index.pairs y
          told y n a at e None f = inl (e ∙ ap (λ (q : Option ℕ). as_due n q) f)
          told y n a at e (Some o) f =
              inr (subst (λ (q : Option Pair). Tells index.pairs q) (sym (e ∙ ap (λ (q : Option ℕ). as_due n q) f)) (is.members o n ∙ ap (λ (q : Option A). is_key o (key_at key_of q)) at ∙ ap (λ (q : Option ℕ). is_key o q) f ∙ eq-eqb o o refl))

  -- and it is early where all are
  pub first-early : (most bound : ℕ) (xs : List (Numbered A)) (index : OrderedIndex) (o : Option Pair) → IsIndexOf key_of xs most index → IsLeast index.pairs o → ((n : ℕ) → IfSome (item_at n xs) (λ a. IfSome (key_of a) (λ m. m ≤ bound))) → IfSome o (λ d. d.0 ≤ bound)
  first-early most bound xs index None is least early = tt
  first-early most bound xs index (Some p) is least early =
      let found = key-found p.0 p.1 (item_at p.1 xs) (sym (is.members p.0 p.1) ∙ least.0) in
      let at = subst (λ (o : Option A). IfSome o (λ a. IfSome (key_of a) (λ m. m ≤ bound))) found.1 (early p.1) in
      subst (λ (o : Option ℕ). IfSome o (λ m. m ≤ bound)) found.2 at

-- ---- what is due is a deadline, the end of a timeout, or a turn

-- a moment and a number
abbrev pair-of : ℕ → ℕ → Option Pair
pair-of p n = Some (p, n)

-- the earlier of two moments of one number
earlier : (p q n : ℕ) → q ≤ p → sooner (pair-of p n) (pair-of q n) ≡ pair-of q n
earlier p q n le = go (is_before (q, n) (p, n)) refl
  where
    go : (b : Bool) → is_before (q, n) (p, n) ≡ b → Some (cond b (q, n) (p, n)) ≡ pair-of q n
    go true e = refl
    go false e = let same : p ≡ q = grind (arith, nat_tests) in ap (λ (m : ℕ). pair-of m n) same

-- the same the other way round
not-later : (p q n : ℕ) → p < q → sooner (pair-of p n) (pair-of q n) ≡ pair-of p n
not-later p q n lt =
    let e : is_before (q, n) (p, n) ≡ false = grind (arith, nat_tests) in
    sooner_left (p, n) (q, n) e

-- what is due of one that is sent: its deadline or its timeout
timer-row : (n last : ℕ) (o : Option Sending) → as_due n (Some (timer_or last o)) ≡ sooner (Some (last, n)) (sooner (as_due n (end_in o)) None)
timer-row n last None = refl
timer-row n last (Some s) = go (leb s.timer.due last) refl
  where
    go : (b : Bool) → leb s.timer.due last ≡ b → pair-of (min s.timer.due last) n ≡ sooner (pair-of last n) (pair-of s.timer.due n)
    go true e =
        let least : min s.timer.due last ≡ s.timer.due = (let le : s.timer.due ≤ last = grind (arith, nat_tests) in omega arith) in
        ap (λ (m : ℕ). pair-of m n) least ∙ sym (earlier last s.timer.due n (grind (arith, nat_tests)))
    go false e =
        let least : min s.timer.due last ≡ last = (let le : last < s.timer.due = grind (arith, nat_tests) in omega arith) in
        ap (λ (m : ℕ). pair-of m n) least ∙ sym (not-later last s.timer.due n (grind (arith, nat_tests)))

-- what is due of an exchange, in three
split-row : (s : ExchangeState) (blocked : Bool) (ms n : ℕ) (x : Exchange) → as_due n (due_in s blocked ms x)
    ≡ sooner (later ms (as_due n (cond (not (is_missing (answer_in_state s))) None (Some x.admitted)))) (sooner (as_due n (cond (is_sent_state s) (end_in x.sending) None)) (as_due n (cond (is_queued_state s && not blocked) (Some x.admitted) None)))
split-row Queued true ms n x = refl
split-row Queued false ms n x = sym (earlier (x.admitted + ms) x.admitted n (omega arith))
split-row Sent blocked ms n x = timer-row n (x.admitted + ms) x.sending
split-row Acked blocked ms n x = refl
split-row (Done a) blocked ms n x = refl

-- the order of deadlines is that of admissions
later-before : (a b : Pair) (ms : ℕ) → is_before (b.0 + ms, b.1) (a.0 + ms, a.1) ≡ is_before b a
later-before a b ms = go (is_before b a) refl
  where
    go : (c : Bool) → is_before b a ≡ c → is_before (b.0 + ms, b.1) (a.0 + ms, a.1) ≡ c
    go true e = grind (arith, nat_tests)
    go false e = grind (arith, nat_tests)

-- so the sooner is the sooner
later-sooner : (ms : ℕ) (a b : Option Pair) → later ms (sooner a b) ≡ sooner (later ms a) (later ms b)
later-sooner ms None b = refl
later-sooner ms (Some a) None = refl
later-sooner ms (Some a) (Some b) = rw (later-before a b ms) (go (is_before b a))
  where
    go : (c : Bool) → later ms (Some (cond c b a)) ≡ Some (cond c (b.0 + ms, b.1) (a.0 + ms, a.1))
    go true = refl
    go false = refl

-- of two soonest of two the soonest, in another order
cross : (a b c d : Option Pair) → sooner (sooner a b) (sooner c d) ≡ sooner (sooner a c) (sooner b d)
cross a b c d =
    sooner_assoc a b (sooner c d)
    ∙ ap (λ (o : Option Pair). sooner a o) (sym (sooner_assoc b c d) ∙ ap (λ (o : Option Pair). sooner o d) (sooner_comm b c) ∙ sooner_assoc c b d)
    ∙ sym (sooner_assoc a c (sooner b d))

-- what is due first is the first of three: deadlines, timeouts and send_queue
pub split-due : (nstart ms : ℕ) (all xs : List (Numbered Exchange)) → first_due (due_among nstart ms all) xs ≡ sooner (later ms (first_due opening_of xs)) (sooner (first_due end_of xs) (first_due (turn_among nstart all) xs))
split-due nstart ms all [] = refl
split-due nstart ms all (x ∷ xs) =
    ap (λ (o : Option Pair). sooner o (first_due (due_among nstart ms all) xs)) (split-row x.1.state (is_blocked nstart all x.1) ms x.0 x.1)
    ∙ ap (λ (o : Option Pair). sooner (sooner (later ms (due_row opening_of x)) (sooner (due_row end_of x) (due_row (turn_among nstart all) x))) o) (split-due nstart ms all xs)
    ∙ cross (later ms (due_row opening_of x)) (sooner (due_row end_of x) (due_row (turn_among nstart all) x)) (later ms (first_due opening_of xs)) (sooner (first_due end_of xs) (first_due (turn_among nstart all) xs))
    ∙ ap (λ (o : Option Pair). sooner o (sooner (sooner (due_row end_of x) (due_row (turn_among nstart all) x)) (sooner (first_due end_of xs) (first_due (turn_among nstart all) xs)))) (sym (later-sooner ms (due_row opening_of x) (first_due opening_of xs)))
    ∙ ap (λ (o : Option Pair). sooner (later ms (first_due opening_of (x ∷ xs))) o) (cross (due_row end_of x) (due_row (turn_among nstart all) x) (first_due end_of xs) (first_due (turn_among nstart all) xs))

-- where none waits for its turn, it is nobody's
pub no-turn : (nstart : ℕ) (all xs : List (Numbered Exchange)) → 0 ≡ count is_queued xs → first_due (turn_among nstart all) xs ≡ None
no-turn nstart all [] e = refl
no-turn nstart all (x ∷ xs) e = go (is_queued x.1) e (no-turn nstart all xs)
  where
    go : (b : Bool) → 0 ≡ one_if b + count is_queued xs → (0 ≡ count is_queued xs → first_due (turn_among nstart all) xs ≡ None) → sooner (as_due x.0 (cond (b && not (is_blocked nstart all x.1)) (Some x.1.admitted) None)) (first_due (turn_among nstart all) xs) ≡ None
    go true f rest = absurd (omega arith)
    go false f rest = rest (let g : 0 ≡ 0 + count is_queued xs = f in omega arith)

-- moments of admissions are early
pub openings-early : (xs : List (Numbered Exchange)) → AreTimely xs → (n : ℕ) → IfSome (item_at n xs) (λ x. IfSome (opening_of x) (λ m. m ≤ 2 ^ 62))
openings-early xs timely n = all-at (λ x. IfSome (opening_of x) (λ m. m ≤ 2 ^ 62)) n xs (each xs timely)
  where
    one : (x : Exchange) → x.admitted ≤ 2 ^ 62 → (b : Bool) → IfSome (cond b None (Some x.admitted)) (λ m. m ≤ 2 ^ 62)
    one x le true = tt
    one x le false = le

    each : (ys : List (Numbered Exchange)) → AreTimely ys → AllItems (λ x. IfSome (opening_of x) (λ m. m ≤ 2 ^ 62)) ys
    each [] t = tt
    each (y ∷ ys) t = (one y.1 t.0 (not (is_missing (answer_in_state y.1.state))), each ys t.1)

-- ---- who stands in an index

-- those that pass, if all of them have this key
pub key-listed : {A : Type 0} (key_of : A → Option ℕ) (test : A → Bool) (key most : ℕ) (xs : List (Numbered A)) (index : OrderedIndex) → ((a : A) → test a ≡ true → key_of a ≡ Some key) → IsIndexOf key_of xs most index → AreListed test key xs index.pairs
key-listed {A} key_of test key most xs index owns is = λ n e. is.members key n ∙ go (item_at n xs) e
  where
    go : (o : Option A) → passes test o ≡ true → is_key key (key_at key_of o) ≡ true
    go None e = absurd cc
    go (Some a) e = ap (λ (p : Option ℕ). is_key key p) (owns a e) ∙ eq-eqb key key refl

-- what was sent with an id is found by it
pub sent-by-id : (at : Endpoint) (id now : ℕ) (x : Exchange) → was_sent_as at id now x ≡ true → id_of x ≡ Some id
sent-by-id at id now x e = go (same_endpoint x.key.target.at at) x.sending e
  where
    same : (m : ℕ) (b : Bool) → eqb m id ≡ b → (d : Bool) → (b && d) ≡ true → Some m ≡ Some id
    same m true f d g = ap (λ (k : ℕ). Some k) (eqb-true m id f)
    same m false f d g = absurd cc

    go : (b : Bool) (o : Option Sending) → (b && is_some_as id now o) ≡ true → id_in o ≡ Some id
    go false o f = absurd cc
    go true None f = absurd cc
    go true (Some s) f = same s.id (eqb s.id id) refl (ltb (now - s.timer.started) 247000) f

-- a GET of an equal key is found by its digest
pub joinable-by-key : (secret : ℕ) (key : CacheKey) (x : Exchange) → is_joinable key x ≡ true → cache_key_of secret x ≡ Some (digest_of_key secret key)
joinable-by-key secret key x e = go x.is_get (not x.tainted) (is_missing (answer_at x)) (same_key x.key key) refl e
  where
    go : (get clean missing same : Bool) → same_key x.key key ≡ same → (get && (clean && (missing && same))) ≡ true → cond (get && (clean && missing)) (Some (digest_of_key secret x.key)) None ≡ Some (digest_of_key secret key)
    go true true true true f h = ap (λ (k : CacheKey). Some (digest_of_key secret k)) (Tells-key.only x.key key f)
    go true true true false f h = absurd cc
    go true true false same f h = absurd cc
    go true false missing same f h = absurd cc
    go false clean missing same f h = absurd cc
