-- The heads of endpoints, as exchanges come, change and go, and whose turn they tell.
use Rattle.std.proofs.Common.{◌≡◌, ℕ, ◌+◌, ◌<◌, ◌≤◌, ◌&&◌, ◌||◌, List, [], ◌∷◌, ◌++◌, length, Bool, true, false, cond, eqb, leb, Option, Some, None, refl, sym, ap, ◌∙◌, subst, arith, inl, inr}
use Rattle.std.specs.Prelude.{◌⊎◌, not, IfSome}
use Rattle.std.specs.Option.{option_map}
use Rattle.std.proofs.lemmas.Bool.{eqb-true, eq-eqb, ne_eqb}
use Rattle.std.proofs.lemmas.Bool.Decides.{nat_tests}
use Rattle.coap_endpoint.specs.declared.endpoint.Endpoint.{Endpoint}
use Rattle.coap_endpoint.specs.Endpoint.{same_endpoint}
use Rattle.coap_endpoint.proofs.Equality.{Tells-endpoint}
use Rattle.coap_pending.specs.declared.exchange.Exchange.{Exchange}
use Rattle.coap_pending.specs.Exchanges.{is_queued, is_sent, is_sent_to, is_queued_to}
use Rattle.ordered_index.specs.Ordered.{Pair, OrderedIndex, is_in, is_some_pair, one_of, IsReplaced}
use Rattle.coap_pending.specs.Table.{Numbered, IsRising, count, first_that, item_at, passes}
use Rattle.coap_exchange.specs.SendQueue.{head_at, head_in, head_with, AreHeads}
use Rattle.coap_pending.proofs.Counts.{one_if, count-push}
use Rattle.endpoint_counts.proofs.Indexing.{Moves}
use Rattle.ordered_index.proofs.Ordering.{pair_itself, pair_only}
use Rattle.coap_exchange.proofs.Seeking.{none-that, none-under, that-first, passes-above}

-- ---- the first that passes

module _ {A : Type 0} (test : A → Bool) where
  -- it is the first that passes, and where there is none, none passes
  abbrev pub IsThat : List (Numbered A) → Option ℕ → Type 0
  IsThat xs None = (m : ℕ) → passes test (item_at m xs) ≡ false
  IsThat xs (Some n) = (passes test (item_at n xs) ≡ true) × ((m : ℕ) → m < n → passes test (item_at m xs) ≡ false)

  -- behind an item that doesn't pass
  then-that : (x : Numbered A) (xs : List (Numbered A)) (o : Option ℕ) → test x.1 ≡ false → IsRising x.0 xs → IsThat xs o → IsThat (x ∷ xs) o
  then-that x xs o off r that = go o that
    where
      one : (m : ℕ) → passes test (item_at m xs) ≡ false → passes test (item_at m (x ∷ xs)) ≡ false
      one m e = both (eqb m x.0)
        where
          both : (b : Bool) → passes test (cond b (Some x.1) (item_at m xs)) ≡ false
          both true = off
          both false = e

      go : (p : Option ℕ) → IsThat xs p → IsThat (x ∷ xs) p
      go None none = λ m. one m (none m)
      go (Some n) first =
          let above : x.0 < n = passes-above test n x.0 xs r first.0 in
          let other : eqb n x.0 ≡ false = ne_eqb n x.0 (λ e. omega arith) in
          (ap (λ (b : Bool). passes test (cond b (Some x.1) (item_at n xs))) other ∙ first.0, λ m lt. one m (first.1 m lt))

  -- so the first of a table is
  pub that-is : (least : ℕ) (xs : List (Numbered A)) → IsRising least xs → IsThat xs (first_that test xs)
  that-is least [] r = λ m. refl
  that-is least (x ∷ xs) r = go (test x.1) refl (that-is x.0 xs r.1)
    where
      go : (b : Bool) → test x.1 ≡ b → IsThat xs (first_that test xs) → IsThat (x ∷ xs) (first_that test (x ∷ xs))
      go true e rest = rw e (ap (λ (b : Bool). passes test (cond b (Some x.1) (item_at x.0 xs))) (eq-eqb x.0 x.0 refl) ∙ e, λ m lt. ap (passes test) (none-under m m (x ∷ xs) (omega arith) (lt, r.1)))
      go false e rest = rw e (then-that x xs (first_that test xs) e r.1 rest)

  -- of tables in which the same numbers pass the first is the same
  pub that-same : (xs ys : List (Numbered A)) → IsRising 0 xs → IsRising 0 ys → ((m : ℕ) → passes test (item_at m ys) ≡ passes test (item_at m xs)) → first_that test ys ≡ first_that test xs
  that-same xs ys rx ry same = go (first_that test xs) (that-is 0 xs rx)
    where
      go : (o : Option ℕ) → IsThat xs o → first_that test ys ≡ o
      go None none = none-that test 0 ys ry (λ m. same m ∙ none m)
      go (Some n) first = that-first test n 0 ys ry (same n ∙ first.0) (λ m lt. same m ∙ first.1 m lt)

-- ---- a head

-- the endpoint is this one, or it isn't
is-at : (at : Option Endpoint) (e : Endpoint) → (at ≡ Some e) ⊎ (at ≡ Some e → ⊥)
is-at None e = inr (λ f. absurd cc)
is-at (Some d) e = go (same_endpoint d e) refl
  where
    go : (b : Bool) → same_endpoint d e ≡ b → (Some d ≡ Some e) ⊎ (Some d ≡ Some e → ⊥)
    go true f = inl (ap (λ (x : Endpoint). Some x) (Tells-endpoint.only d e f))
    go false f = inr (λ g. let same : d ≡ e = cc in let on : same_endpoint d e ≡ true = rw same (Tells-endpoint.itself e) in absurd cc)

-- both hold of what holds with another
both-left : (a b : Bool) → (a && b) ≡ true → a ≡ true
both-left true b e = refl
both-left false b e = absurd cc

-- either way round
both-right : (a b : Bool) → (a && b) ≡ true → b ≡ true
both-right true b e = e
both-right false b e = absurd cc

-- who passes a test with an endpoint
passes-with : (test : Exchange → Bool) (e : Endpoint) (o : Option Exchange) → passes (λ x. test x && same_endpoint x.key.target.at e) o ≡ true → (x : Exchange) × (o ≡ Some x) × (test x ≡ true) × (x.key.target.at ≡ e)
passes-with test e None f = absurd cc
passes-with test e (Some x) f = (x, refl, both-left (test x) (same_endpoint x.key.target.at e) f, Tells-endpoint.only x.key.target.at e (both-right (test x) (same_endpoint x.key.target.at e) f))

-- who waits for its turn is found by its endpoint
passes-own : (o : Option Exchange) (x : Exchange) → o ≡ Some x → is_queued x ≡ true → passes (is_queued_to x.key.target.at) o ≡ true
passes-own o x e q = rw (e, q) (Tells-endpoint.itself x.key.target.at)

module _ (xs : List (Numbered Exchange)) (r : IsRising 0 xs) where
  -- a head waits for its turn with its endpoint
  pub head-is : (e : Endpoint) (p : Pair) → head_at xs e ≡ Some p → (x : Exchange) × (item_at p.1 xs ≡ Some x) × (is_queued x ≡ true) × (x.key.target.at ≡ e) × (count (is_sent_to e) xs ≡ p.0)
  head-is e p h = go (first_that (is_queued_to e) xs) (that-is (is_queued_to e) 0 xs r) h
    where
      go : (o : Option ℕ) → IsThat (is_queued_to e) xs o → option_map (λ n. (count (is_sent_to e) xs, n)) o ≡ Some p → (x : Exchange) × (item_at p.1 xs ≡ Some x) × (is_queued x ≡ true) × (x.key.target.at ≡ e) × (count (is_sent_to e) xs ≡ p.0)
      go None that f = absurd cc
      go (Some n) that f =
          let same : (count (is_sent_to e) xs, n) ≡ p = cc in
          let number : n ≡ p.1 = ap (λ (q : Pair). q.1) same in
          let found = passes-with is_queued e (item_at p.1 xs) (subst (λ (m : ℕ). passes (is_queued_to e) (item_at m xs) ≡ true) number that.0) in
          (found.0, found.1, found.2, found.3, ap (λ (q : Pair). q.0) same)

  -- it is the head of one endpoint alone
  pub head-only : (d e : Endpoint) (p : Pair) → head_at xs d ≡ Some p → head_at xs e ≡ Some p → d ≡ e
  head-only d e p f g =
      let one = head-is d p f in
      let other = head-is e p g in
      let same : one.0 ≡ other.0 = (let a = one.1 in let b = other.1 in cc) in
      sym one.3 ∙ ap (λ (x : Exchange). x.key.target.at) same ∙ other.3

  -- whoever waits for its turn isn't before the head of its endpoint
  pub head-there : (m : ℕ) (y : Exchange) → item_at m xs ≡ Some y → is_queued y ≡ true → (h : ℕ) × (head_at xs y.key.target.at ≡ Some (count (is_sent_to y.key.target.at) xs, h)) × (h ≤ m)
  head-there m y there q = go (first_that (is_queued_to y.key.target.at) xs) refl (that-is (is_queued_to y.key.target.at) 0 xs r)
    where
      go : (o : Option ℕ) → first_that (is_queued_to y.key.target.at) xs ≡ o → IsThat (is_queued_to y.key.target.at) xs o → (h : ℕ) × (head_at xs y.key.target.at ≡ Some (count (is_sent_to y.key.target.at) xs, h)) × (h ≤ m)
      go None e none = absurd (let off = none m in let on = passes-own (item_at m xs) y there q in cc)
      go (Some h) e first = (h, ap (option_map (λ n. (count (is_sent_to y.key.target.at) xs, n))) e, least (leb h m) refl)
        where
          least : (b : Bool) → leb h m ≡ b → h ≤ m
          least true f = grind (arith, nat_tests)
          least false f = absurd (let off = first.1 m (grind (arith, nat_tests)) in let on = passes-own (item_at m xs) y there q in cc)

-- where none waits for its turn, none waits with an endpoint
no-first : (xs : List (Numbered Exchange)) (at : Endpoint) → count is_queued xs ≡ 0 → first_that (is_queued_to at) xs ≡ None
no-first [] at none = refl
no-first (x ∷ xs) at none = go (is_queued x.1) refl none (no-first xs at)
  where
    go : (b : Bool) → is_queued x.1 ≡ b → (cond b 1 0) + count is_queued xs ≡ 0 → (count is_queued xs ≡ 0 → first_that (is_queued_to at) xs ≡ None) → first_that (is_queued_to at) (x ∷ xs) ≡ None
    go true e f rest = absurd (omega arith)
    go false e f rest = rw e (rest (omega arith))

-- so no endpoint has a head
pub no-head : (xs : List (Numbered Exchange)) (at : Endpoint) → count is_queued xs ≡ 0 → head_at xs at ≡ None
no-head xs at none = ap (option_map (λ n. (count (is_sent_to at) xs, n))) (no-first xs at none)

-- the number, unless there is one before it
abbrev first_with : Option ℕ → ℕ → Option ℕ
first_with None n = Some n
first_with (Some m) n = Some m

-- one that passes comes after all others
first-push : {A : Type 0} (test : A → Bool) (xs : List (Numbered A)) (n : ℕ) (x : A) → test x ≡ true → first_that test (xs ++ (n, x) ∷ []) ≡ first_with (first_that test xs) n
first-push test [] n x on = rw on refl
first-push test (y ∷ ys) n x on = go (test y.1) refl (first-push test ys n x on)
  where
    go : (b : Bool) → test y.1 ≡ b → first_that test (ys ++ (n, x) ∷ []) ≡ first_with (first_that test ys) n → first_that test (y ∷ (ys ++ (n, x) ∷ [])) ≡ first_with (first_that test (y ∷ ys)) n
    go true e h = rw e refl
    go false e h = rw e h

-- so an exchange that waits and comes after all others is the head of its endpoint, unless that has one
pub head-push : (xs : List (Numbered Exchange)) (n : ℕ) (x : Exchange) (sent : ℕ) → is_queued x ≡ true → is_sent x ≡ false → sent ≡ count (is_sent_to x.key.target.at) xs → head_with (head_at xs x.key.target.at) sent n ≡ head_at (xs ++ (n, x) ∷ []) x.key.target.at
head-push xs n x sent waits unsent are =
    let at = x.key.target.at in
    let first = first-push (is_queued_to at) xs n x (rw waits (Tells-endpoint.itself at)) in
    let none : one_if (is_sent_to at x) ≡ 0 = rw unsent refl in
    let same : count (is_sent_to at) (xs ++ (n, x) ∷ []) ≡ sent = omega (arith, count-push (is_sent_to at) xs (n, x), none, are) in
    rw (first, same, ← are) (go (first_that (is_queued_to at) xs))
  where
    go : (o : Option ℕ) → head_with (option_map (λ m. (sent, m)) o) sent n ≡ option_map (λ m. (sent, m)) (first_with o n)
    go None = refl
    go (Some m) = refl

-- ---- one exchange comes, changes or goes

-- it is with this endpoint, if there is one
abbrev pub IsAt : Option Endpoint → Option Exchange → Type 0
IsAt at o = IfSome o (λ x. at ≡ Some x.key.target.at)

-- with another endpoint it passes no test
passes-off : (at : Option Endpoint) (test : Exchange → Bool) (e : Endpoint) (o : Option Exchange) → IsAt at o → (at ≡ Some e → ⊥) → passes (λ x. test x && same_endpoint x.key.target.at e) o ≡ false
passes-off at test e o is other = go (passes (λ x. test x && same_endpoint x.key.target.at e) o) refl
  where
    here : (x : Exchange) → o ≡ Some x → x.key.target.at ≡ e → at ≡ Some e
    here x f same = subst (λ (p : Option Exchange). IsAt at p) f is ∙ ap (λ (d : Endpoint). Some d) same

    go : (b : Bool) → passes (λ x. test x && same_endpoint x.key.target.at e) o ≡ b → b ≡ false
    go false f = refl
    go true f = let found = passes-with test e o f in absurd (other (here found.0 found.1 found.3))

-- the head of an endpoint is among the heads
pub head-among : (xs : List (Numbered Exchange)) (heads : OrderedIndex) → AreHeads xs heads → (at : Option Endpoint) → IfSome (head_in xs at) (λ p. is_in p heads.pairs ≡ true)
head-among xs heads are None = tt
head-among xs heads are (Some at) = go (head_at xs at) refl
  where
    go : (o : Option Pair) → head_at xs at ≡ o → IfSome o (λ p. is_in p heads.pairs ≡ true)
    go None is = tt
    go (Some p) is = are.all at p is

-- at all other endpoints as little is sent, and as little waits, as before
abbrev pub StaysElsewhere : Option Endpoint → Option Exchange → Option Exchange → Type 0
StaysElsewhere at was is = (e : Endpoint) → (at ≡ Some e → ⊥) → (passes (is_sent_to e) is ≡ passes (is_sent_to e) was) × (passes (is_queued_to e) is ≡ passes (is_queued_to e) was)

-- so it is where what was and what is are both with this endpoint
pub at-stays : (at : Option Endpoint) (was is : Option Exchange) → IsAt at was → IsAt at is → StaysElsewhere at was is
at-stays at was is wx wy = λ e other. (passes-off at is_sent e is wy other ∙ sym (passes-off at is_sent e was wx other), passes-off at is_queued e is wy other ∙ sym (passes-off at is_queued e was wx other))

module _ (n : ℕ) (xs ys : List (Numbered Exchange)) (at : Option Endpoint) (moves : Moves n xs ys) (rx : IsRising 0 xs) (ry : IsRising 0 ys) (stays : StaysElsewhere at (item_at n xs) (item_at n ys)) where
  -- the heads of the other endpoints stay
  head-elsewhere : (e : Endpoint) → (at ≡ Some e → ⊥) → head_at ys e ≡ head_at xs e
  head-elsewhere e other =
      let counted = moves.counts (is_sent_to e) in
      let alike : one_if (passes (is_sent_to e) (item_at n ys)) ≡ one_if (passes (is_sent_to e) (item_at n xs)) = ap one_if (stays e other).0 in
      let same : count (is_sent_to e) ys ≡ count (is_sent_to e) xs = omega arith in
      rw (same, that-same (is_queued_to e) xs ys rx ry each) refl
    where
      each : (m : ℕ) → passes (is_queued_to e) (item_at m ys) ≡ passes (is_queued_to e) (item_at m xs)
      each m = go (eqb m n) refl
        where
          go : (b : Bool) → eqb m n ≡ b → passes (is_queued_to e) (item_at m ys) ≡ passes (is_queued_to e) (item_at m xs)
          go true f = rw (eqb-true m n f) (stays e other).1
          go false f = ap (passes (is_queued_to e)) (moves.others m f)

  module _ (old : OrderedIndex) (are : AreHeads xs old) where
    -- the head that was stands in the index
    pub replaced-there : IfSome (head_in xs at) (λ p. is_in p old.pairs ≡ true)
    replaced-there = head-among xs old are at

    -- the head that comes doesn't, unless it was
    pub replaced-free : IfSome (head_in ys at) (λ p. is_in p old.pairs ≡ true → head_in xs at ≡ Some p)
    replaced-free = go at refl
      where
        same : (e : Endpoint) (p : Pair) → at ≡ Some e → head_at ys e ≡ Some p → is_in p old.pairs ≡ true → head_at xs e ≡ Some p
        same e p f h there =
            let (d, g) = are.only p there in
            elim (is-at at d) [
              | inl k ↦ (let one : e ≡ d = (let a = sym f ∙ k in cc) in rw one g)
              | inr k ↦ absurd (k (f ∙ ap (λ (x : Endpoint). Some x) (head-only ys ry e d p h (head-elsewhere d k ∙ g))))
            ]

        some : (e : Endpoint) → at ≡ Some e → (o : Option Pair) → head_at ys e ≡ o → IfSome o (λ p. is_in p old.pairs ≡ true → head_at xs e ≡ Some p)
        some e f None h = tt
        some e f (Some p) h = same e p f h

        go : (a : Option Endpoint) → at ≡ a → IfSome (head_in ys a) (λ p. is_in p old.pairs ≡ true → head_in xs a ≡ Some p)
        go None f = tt
        go (Some e) f = some e f (head_at ys e) refl

    -- no more heads come than go, where the exchange doesn't wait for its turn
    pub replaced-fewer : passes is_queued (item_at n ys) ≡ false → one_of (head_in ys at) ≤ one_of (head_in xs at)
    replaced-fewer off = go at
      where
        there : (e : Endpoint) (p q : Option ℕ) → IsThat (is_queued_to e) ys p → IsThat (is_queued_to e) xs q → one_of {A = Pair} (option_map (λ m. (count (is_sent_to e) ys, m)) p) ≤ one_of {A = Pair} (option_map (λ m. (count (is_sent_to e) xs, m)) q)
        there e None q f g = omega arith
        there e (Some m) (Some k) f g = omega arith
        there e (Some m) None f g = absurd (other (eqb m n) refl)
          where
            other : (b : Bool) → eqb m n ≡ b → ⊥
            other true h =
                let found = passes-with is_queued e (item_at m ys) f.0 in
                let on : passes is_queued (item_at n ys) ≡ true = rw (← eqb-true m n h, found.1) found.2 in
                cc
            other false h = let none = g m in let some = sym (ap (passes (is_queued_to e)) (moves.others m h)) ∙ f.0 in cc

        go : (a : Option Endpoint) → one_of (head_in ys a) ≤ one_of (head_in xs a)
        go None = omega arith
        go (Some e) = there e (first_that (is_queued_to e) ys) (first_that (is_queued_to e) xs) (that-is (is_queued_to e) 0 ys ry) (that-is (is_queued_to e) 0 xs rx)

    module _ (new : OrderedIndex) (replaced : IsReplaced old.pairs new.pairs (head_in xs at) (head_in ys at)) where
      -- what is the head of the endpoint
      some-head : (zs : List (Numbered Exchange)) (p : Pair) (a : Option Endpoint) → is_some_pair p (head_in zs a) ≡ true → (e : Endpoint) × (a ≡ Some e) × (head_at zs e ≡ Some p)
      some-head zs p None f = absurd cc
      some-head zs p (Some e) f = go (head_at zs e) refl f
        where
          go : (o : Option Pair) → head_at zs e ≡ o → is_some_pair p o ≡ true → (d : Endpoint) × (Some e ≡ Some d) × (head_at zs d ≡ Some p)
          go None g h = absurd cc
          go (Some q) g h = (e, refl, g ∙ ap (λ (x : Pair). Some x) (sym (pair_only p q h)))

      -- the head of the endpoint is
      head-some : (zs : List (Numbered Exchange)) (p : Pair) (a : Option Endpoint) (e : Endpoint) → a ≡ Some e → head_at zs e ≡ Some p → is_some_pair p (head_in zs a) ≡ true
      head-some zs p a e f g = rw (f, g) (pair_itself p)

      -- only heads stand in the index
      replaced-only : (p : Pair) → is_in p new.pairs ≡ true → (e : Endpoint) × (head_at ys e ≡ Some p)
      replaced-only p there = go (is_some_pair p (head_in ys at)) refl (is_some_pair p (head_in xs at)) refl (sym (replaced p) ∙ there)
        where
          go : (b : Bool) → is_some_pair p (head_in ys at) ≡ b → (c : Bool) → is_some_pair p (head_in xs at) ≡ c → (b || (not c && is_in p old.pairs)) ≡ true → (e : Endpoint) × (head_at ys e ≡ Some p)
          go true f c g h = let found = some-head ys p at f in (found.0, found.2)
          go false f true g h = absurd cc
          go false f false g h =
              let (e, k) = are.only p h in
              elim (is-at at e) [
                | inl l ↦ absurd (let on = head-some xs p at e l k in cc)
                | inr l ↦ (e, head-elsewhere e l ∙ k)
              ]

      -- and all of them
      replaced-all : (e : Endpoint) (p : Pair) → head_at ys e ≡ Some p → is_in p new.pairs ≡ true
      replaced-all e p h = replaced p ∙ elim (is-at at e) [
        | inl l ↦ rw (head-some ys p at e l h) refl
        | inr l ↦ go (is_some_pair p (head_in ys at)) (is_some_pair p (head_in xs at)) refl (λ f. l (also f)) (are.all e p (sym (head-elsewhere e l) ∙ h))
      ]
        where
          also : is_some_pair p (head_in xs at) ≡ true → at ≡ Some e
          also f = let found = some-head xs p at f in found.1 ∙ ap (λ (x : Endpoint). Some x) (same found.0 found.1 found.2)
            where
              same : (d : Endpoint) → at ≡ Some d → head_at xs d ≡ Some p → d ≡ e
              same d k g = elim (is-at at e) [
                | inl l ↦ (let a = sym k ∙ l in cc)
                | inr l ↦ head-only xs rx d e p g (sym (head-elsewhere e l) ∙ h)
              ]

          go : (b : Bool) (c : Bool) → is_some_pair p (head_in xs at) ≡ c → (is_some_pair p (head_in xs at) ≡ true → ⊥) → is_in p old.pairs ≡ true → (b || (not c && is_in p old.pairs)) ≡ true
          go true c f never there = refl
          go false true f never there = absurd (never f)
          go false false f never there = there

      -- so the index keeps step
      pub heads-moved : length new.pairs ≤ new.limit → AreHeads ys new
      heads-moved room = record { only = replaced-only; all = replaced-all; room = room }

-- ---- all of them change

-- the heads of tables in which as many are sent and the same ones wait are the same
pub heads-same : (xs ys : List (Numbered Exchange)) (index : OrderedIndex) → ((e : Endpoint) → head_at ys e ≡ head_at xs e) → AreHeads xs index → AreHeads ys index
heads-same xs ys index same are = record {
  only = λ p there. (let (e, h) = are.only p there in (e, same e ∙ h));
  all = λ e p h. are.all e p (sym (same e) ∙ h);
  room = are.room;
}
