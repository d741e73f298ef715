-- Who is to be served first, as exchanges and waiters come, change and go.
use Rattle.std.proofs.Common.{◌≡◌, ℕ, ◌+◌, ◌≤◌, ◌&&◌, ◌||◌, List, [], ◌∷◌, length, Bool, true, false, cond, eqb, leb, Option, Some, None, refl, sym, ap, ◌∙◌, subst, arith, inl, inr}
use Rattle.std.specs.Prelude.{◌⊎◌, not, IfSome}
use Rattle.std.specs.Option.{is_some, option_map}
use Rattle.std.proofs.lemmas.Bool.{eqb-true, eqb-false, eq-eqb, ne_eqb, leb-true, leb-false}
use Rattle.std.proofs.lemmas.Bool.Decides.{nat_tests}
use Rattle.coap_pending.specs.declared.exchange.Exchange.{Exchange}
use Rattle.coap_store.specs.declared.answer.Answer.{Answer}
use Rattle.coap_pending.specs.declared.waiter.Waiter.{Waiter}
use Rattle.coap_pending.specs.declared.waiter.WaiterState.{WaiterState}
use Rattle.coap_pending.specs.declared.waiter.WaiterState.TheVariants.{Waiting, Delivering}
use Rattle.coap_exchange.specs.Answered.{got_of, awaited_of, got_in}
use Rattle.coap_pending.specs.Due.{sooner, as_due, first_due}
use Rattle.coap_endpoint.specs.declared.target.Target.{Target}
use Rattle.coap_pending.specs.declared.exchange.ExchangeState.{ExchangeState}
use Rattle.coap_pending.specs.declared.exchange.ExchangeState.TheVariants.{Queued, Sent, Acked, Done}
use Rattle.coap_pending.specs.declared.exchange.Sending.{Sending}
use Rattle.coap_pending.specs.Exchanges.{acked, answer_at, answer_in_state, answer_of, is_done, is_missing, fired_exchange, is_changed_with, is_queued, is_queued_state, is_sent, is_sent_state, sent, tainted_by}
use Rattle.endpoint_counts.specs.IndexOf.{key_at, IsIndexOf}
use Rattle.coap_exchange.specs.WaiterIndex.{answered_of}
use Rattle.coap_exchange.specs.Ready.{ready_at, ready_in, ready_of, AreReady, Tables}
use Rattle.ordered_index.specs.Ordered.{Pair, OrderedIndex, is_in, is_key, is_pair, is_some_pair, one_of, AreRising, IsLeast, IsNextOf, IsReplaced}
use Rattle.coap_pending.specs.Table.{Numbered, Table, IsRising, IsTable, item_at, admitted_to, all_changed, changed_at, count, first_that, passes}
use Rattle.coap_pending.specs.Waiters.{awaited_by, exchange_of, fired_state, fired_waiter, moment_of, waits_for, waits_in_state}
use Rattle.coap_exchange.proofs.Apart.{AreApart, apart-fewer, rising-apart}
use Rattle.coap_exchange.proofs.Answering.{answered-waits, waits-answered}
use Rattle.coap_exchange.proofs.Dues.{IsDueIn, first_due-is}
use Rattle.endpoint_counts.proofs.Firsts.{first-found, first-missing, none-start}
use Rattle.coap_exchange.proofs.Heads.{IsThat, that-is, that-same}
use Rattle.endpoint_counts.proofs.Indexing.{changed-at, changed-others, none-above, push-at, push-others}
use Rattle.ordered_index.proofs.Ordering.{pair_itself, pair_only}
use Rattle.coap_pending.proofs.Sooner.{same_first, sooner_left, sooner_none}
use Rattle.coap_exchange.proofs.Waiting.{passes-awaited, passes-unawaited}

-- ---- who waits first

-- who waits for an exchange waits for it
waits-whom : (e : ℕ) (o : Option Waiter) → passes (waits_for e) o ≡ true → awaited_by o ≡ Some e
waits-whom e o h = go (awaited_by o) refl
  where
    go : (a : Option ℕ) → awaited_by o ≡ a → a ≡ Some e
    go None f = absurd (let off = passes-unawaited e o f in cc)
    go (Some x) f = ap (λ (n : ℕ). Some n) (eqb-true x e (sym (passes-awaited e x o f) ∙ h))

-- and whoever waits for it
whom-waits : (e : ℕ) (o : Option Waiter) → awaited_by o ≡ Some e → passes (waits_for e) o ≡ true
whom-waits e o h = passes-awaited e e o h ∙ eq-eqb e e refl

-- who waits is there
awaited-there : (o : Option Waiter) (e : ℕ) → awaited_by o ≡ Some e → (w : Waiter) × (o ≡ Some w)
awaited-there None e h = absurd cc
awaited-there (Some w) e h = (w, refl)

-- the first that waits does
first-waits : (e n : ℕ) (ws : List (Numbered Waiter)) → IsRising 0 ws → first_that (waits_for e) ws ≡ Some n → awaited_by (item_at n ws) ≡ Some e
first-waits e n ws r h =
    let that : IsThat (waits_for e) ws (Some n) = subst (λ (o : Option ℕ). IsThat (waits_for e) ws o) h (that-is (waits_for e) 0 ws r) in
    waits-whom e (item_at n ws) that.0

-- the index finds the first that waits
unawaited : (e : ℕ) (w : Waiter) → is_key e (awaited_of w) ≡ false → waits_for e w ≡ false
unawaited e w h = go w.state h
  where
    go : (s : WaiterState) → is_key e (exchange_of s) ≡ false → waits_in_state e s ≡ false
    go (Waiting n) f = ne_eqb n e (λ g. eqb-false e n f (sym g))
    go (Delivering bytes id timer) f = refl

-- the next number of an exchange, from the start, is that of the first who waits for it
pub first-waiting : (e : ℕ) (t : Table Waiter) (r : OrderedIndex) → IsTable t → IsIndexOf awaited_of t.items t.limit r → (o : Option ℕ) → IsNextOf e 0 r.pairs o → o ≡ first_that (waits_for e) t.items
first-waiting e t r is index None next = sym (first-missing awaited_of (waits_for e) e (unawaited e) t r is index 0 (none-start awaited_of (waits_for e) e (unawaited e) t r is index) next)
first-waiting e t r is index (Some n) next =
    let there : is_key e (key_at awaited_of (item_at n t.items)) ≡ true = sym (index.members e n) ∙ next.1 in
    sym (first-found awaited_of (waits_for e) e (unawaited e) t r is index 0 n (none-start awaited_of (waits_for e) e (unawaited e) t r is index) next (on (item_at n t.items) there))
  where
    on : (o : Option Waiter) → is_key e (key_at awaited_of o) ≡ true → passes (waits_for e) o ≡ true
    on None h = absurd cc
    on (Some w) h = go w.state h
      where
        go : (s : WaiterState) → is_key e (exchange_of s) ≡ true → waits_in_state e s ≡ true
        go (Waiting m) f = eq-eqb m e (sym (eqb-true e m f))
        go (Delivering bytes id timer) f = absurd cc

-- ---- who is ready

-- the parts of what is ready
ready-parts : (m n : Option ℕ) (p : Pair) → ready_of m n ≡ Some p → (m ≡ Some p.0) × (n ≡ Some p.1)
ready-parts None n p e = absurd cc
ready-parts (Some m) None p e = absurd cc
ready-parts (Some m) (Some n) p e = let same : (m, n) ≡ p = cc in (ap (λ (q : Pair). Some q.0) same, ap (λ (q : Pair). Some q.1) same)

module _ (t : Tables) (is : IsTable t.waiters) where
  -- who is ready waits for the exchange
  ready-waits : (e : ℕ) (p : Pair) → ready_at t e ≡ Some p → awaited_by (item_at p.1 t.waiters.items) ≡ Some e
  ready-waits e p h = first-waits e p.1 t.waiters.items is.rising (ready-parts (got_in e t.exchanges.items) (first_that (waits_for e) t.waiters.items) p h).1

  -- for one exchange alone
  ready-key : (d e : ℕ) (p q : Pair) → ready_at t d ≡ Some p → ready_at t e ≡ Some q → p.1 ≡ q.1 → d ≡ e
  ready-key d e p q f g same =
      let one = ready-waits d p f in
      let other : awaited_by (item_at p.1 t.waiters.items) ≡ Some e = subst (λ (n : ℕ). awaited_by (item_at n t.waiters.items) ≡ Some e) (sym same) (ready-waits e q g) in
      let both : Some d ≡ Some e = sym one ∙ other in
      cc

  -- so pairs of one number are one
  ready-one : (d e : ℕ) (p q : Pair) → ready_at t d ≡ Some p → ready_at t e ≡ Some q → p.1 ≡ q.1 → p ≡ q
  ready-one d e p q f g same =
      let key = ready-key d e p q f g same in
      let here : ready_at t d ≡ Some q = subst (λ (n : ℕ). ready_at t n ≡ Some q) (sym key) g in
      let both : Some p ≡ Some q = sym f ∙ here in
      cc

  -- and there
  ready-item : (e : ℕ) (p : Pair) → ready_at t e ≡ Some p → (w : Waiter) × (item_at p.1 t.waiters.items ≡ Some w)
  ready-item e p h = awaited-there (item_at p.1 t.waiters.items) e (ready-waits e p h)

-- ---- the first of all

module _ (t : Tables) (is : IsTable t.waiters) (index : OrderedIndex) (are : AreReady t index) where
  abbrev IsAnswered : Option Pair → Type 0
  IsAnswered x = IsDueIn (answered_of t.exchanges.items) t.waiters.items x

  -- whose exchange is answered is not before the one that is ready for it
  ready-before : (n e at : ℕ) (w : Waiter) → item_at n t.waiters.items ≡ Some w → awaited_of w ≡ Some e → got_in e t.exchanges.items ≡ Some at → (h : ℕ) × (is_in (at, h) index.pairs ≡ true) × (h ≤ n)
  ready-before n e at w there waits got = go (first_that (waits_for e) t.waiters.items) refl (that-is (waits_for e) 0 t.waiters.items is.rising)
    where
      on : passes (waits_for e) (item_at n t.waiters.items) ≡ true
      on = whom-waits e (item_at n t.waiters.items) (ap awaited_by there ∙ waits)

      go : (o : Option ℕ) → first_that (waits_for e) t.waiters.items ≡ o → IsThat (waits_for e) t.waiters.items o → (h : ℕ) × (is_in (at, h) index.pairs ≡ true) × (h ≤ n)
      go None f that = absurd (let off = that n in let here = on in cc)
      go (Some h) f that = (h, are.all e (at, h) (rw (got, f) refl), least (leb h n) refl)
        where
          least : (b : Bool) → leb h n ≡ b → h ≤ n
          least true g = leb-true h n g
          least false g = absurd (let off = that.1 n (omega (arith, leb-false h n g)) in let here = on in cc)

  -- what is answered comes no sooner than the least pair
  ready-least : (o : Option Pair) → IsLeast index.pairs o → (x : Option Pair) → IsAnswered x → sooner o x ≡ o
  ready-least o least x d = let (n, w, there, e) = d in go n w there (answered_of t.exchanges.items w) refl e
    where
      under : (n at h : ℕ) → is_in (at, h) index.pairs ≡ true → h ≤ n → (q : Option Pair) → IsLeast index.pairs q → sooner q (Some (at, n)) ≡ q
      under n at h i le None none = absurd (let f : is_in (at, h) [] ≡ true = rw none at i in cc)
      under n at h i le (Some p) first =
          let off = first.1 (at, h) i in
          sooner_left p (at, n) (grind (arith, nat_tests))

      go : (n : ℕ) (w : Waiter) → item_at n t.waiters.items ≡ Some w → (a : Option ℕ) → answered_of t.exchanges.items w ≡ a → x ≡ as_due n a → sooner o x ≡ o
      go n w there None f e = rw e (sooner_none o)
      go n w there (Some at) f e =
          let (k, waits, got) = answered-waits t.exchanges.items w at f in
          let (h, i, le) = ready-before n k at w there waits got in
          rw e (under n at h i le o least)

  -- and the least pair is answered
  ready-there : (o : Option Pair) → IsLeast index.pairs o → (o ≡ None) ⊎ IsAnswered o
  ready-there None least = inl refl
  ready-there (Some p) least =
      let (e, h) = are.only p least.0 in
      let parts = ready-parts (got_in e t.exchanges.items) (first_that (waits_for e) t.waiters.items) p h in
      let (w, there) = ready-item t is e p h in
      let waits : awaited_of w ≡ Some e = sym (ap awaited_by there) ∙ ready-waits t is e p h in
      inr (p.1, w, there, ap (as_due p.1) (sym (waits-answered t.exchanges.items w e waits ∙ parts.0)))

  -- the first that is ready is the first whose exchange is answered
  pub ready-first : (o : Option Pair) → IsLeast index.pairs o → o ≡ first_due (answered_of t.exchanges.items) t.waiters.items
  ready-first o least = same_first o (first_due (answered_of t.exchanges.items) t.waiters.items) (λ x d. d) (λ x d. d) (record { least = ready-least o least; there = ready-there o least }) (first_due-is (answered_of t.exchanges.items) 0 t.waiters.items is.rising)

-- ---- one exchange gets another that is ready

-- the exchange is this one, or it isn't
is-at : (at : Option ℕ) (e : ℕ) → (at ≡ Some e) ⊎ (at ≡ Some e → ⊥)
is-at None e = inr (λ f. absurd cc)
is-at (Some d) e = go (eqb d e) refl
  where
    go : (b : Bool) → eqb d e ≡ b → (Some d ≡ Some e) ⊎ (Some d ≡ Some e → ⊥)
    go true f = inl (ap (λ (x : ℕ). Some x) (eqb-true d e f))
    go false f = inr (λ g. eqb-false d e f (let same : d ≡ e = cc in same))

-- what is ready for an exchange
some-ready : (t : Tables) (p : Pair) (a : Option ℕ) → is_some_pair p (ready_in t a) ≡ true → (e : ℕ) × (a ≡ Some e) × (ready_at t e ≡ Some p)
some-ready t p None f = absurd cc
some-ready t p (Some e) f = go (ready_at t e) refl f
  where
    go : (o : Option Pair) → ready_at t e ≡ o → is_some_pair p o ≡ true → (d : ℕ) × (Some e ≡ Some d) × (ready_at t d ≡ Some p)
    go None g h = absurd cc
    go (Some q) g h = (e, refl, g ∙ ap (λ (x : Pair). Some x) (sym (pair_only p q h)))

-- what is ready at an exchange is ready in it
ready-some : (t : Tables) (p : Pair) (a : Option ℕ) (e : ℕ) → a ≡ Some e → ready_at t e ≡ Some p → is_some_pair p (ready_in t a) ≡ true
ready-some t p a e f g = rw (f, g) (pair_itself p)

-- the exchange of what is ready for one
ready-at : (t : Tables) (a : Option ℕ) (p : Pair) → ready_in t a ≡ Some p → (e : ℕ) × (a ≡ Some e) × (ready_at t e ≡ Some p)
ready-at t None p f = absurd cc
ready-at t (Some e) p f = (e, refl, f)

-- what is ready for the exchanges other than one stays
abbrev pub AreElsewhere : Tables → Tables → Option ℕ → Type 0
AreElsewhere old new at = (e : ℕ) → (at ≡ Some e → ⊥) → ready_at new e ≡ ready_at old e

module _ (old new : Tables) (oldw : IsTable old.waiters) (neww : IsTable new.waiters) (at : Option ℕ) (elsewhere : AreElsewhere old new at) (index : OrderedIndex) (are : AreReady old index) where
  -- what comes isn't there, unless it was
  pub ready-free : IfSome (ready_in new at) (λ p. is_in p index.pairs ≡ true → ready_in old at ≡ Some p)
  ready-free = go (ready_in new at) refl
    where
      same : (p : Pair) → ready_in new at ≡ Some p → is_in p index.pairs ≡ true → ready_in old at ≡ Some p
      same p f there =
          let (e, a, h) = ready-at new at p f in
          let (d, g) = are.only p there in
          elim (is-at at d) [
            | inl k ↦ rw k g
            | inr k ↦ absurd (k (a ∙ ap (λ (x : ℕ). Some x) (ready-key new neww e d p p h (elsewhere d k ∙ g) refl)))
          ]

      go : (o : Option Pair) → ready_in new at ≡ o → IfSome o (λ p. is_in p index.pairs ≡ true → ready_in old at ≡ Some p)
      go None f = tt
      go (Some p) f = same p f

  -- no more are ready than wait
  ready-apart : AreRising index.pairs → AreApart index.pairs
  ready-apart r = rising-apart index.pairs r (λ p q i j e. (let (d, f) = are.only p i in let (k, g) = are.only q j in ready-one old oldw d k p q f g e))

  -- no more pairs are ready than there are clients
  ready-fewer : AreRising index.pairs → length index.pairs ≤ length old.waiters.items
  ready-fewer r = apart-fewer index.pairs old.waiters.items (ready-apart r) (λ p i. (let (d, f) = are.only p i in ready-item old oldw d p f))

  -- one more too
  ready-more : AreRising index.pairs → (q : Pair) → ready_in new at ≡ Some q → ready_in old at ≡ None → length index.pairs + 1 ≤ length new.waiters.items
  ready-more r q f none = let fewer = apart-fewer (q ∷ index.pairs) new.waiters.items (apart, ready-apart r) (λ p i. there p (is_pair p q) refl i) in omega arith
    where
      -- the others are ready for other exchanges
      stays : (p : Pair) (d : ℕ) → ready_at old d ≡ Some p → (at ≡ Some d → ⊥) × (ready_at new d ≡ Some p)
      stays p d g =
          let other : at ≡ Some d → ⊥ = (λ k. let on : ready_in old at ≡ Some p = rw k g in cc) in
          (other, elsewhere d other ∙ g)

      apart : (p : Pair) → is_in p index.pairs ≡ true → q.1 ≡ p.1 → ⊥
      apart p i e =
          let (k, a, h) = ready-at new at q f in
          let (d, g) = are.only p i in
          let (other, now) = stays p d g in
          other (a ∙ ap (λ (x : ℕ). Some x) (ready-key new neww k d q p h now e))

      there : (p : Pair) (b : Bool) → is_pair p q ≡ b → (b || is_in p index.pairs) ≡ true → (w : Waiter) × (item_at p.1 new.waiters.items ≡ Some w)
      there p true g i =
          let (k, a, h) = ready-at new at q f in
          let same : p ≡ q = pair_only p q g in
          subst (λ (x : Pair). (w : Waiter) × (item_at x.1 new.waiters.items ≡ Some w)) (sym same) (ready-item new neww k q h)
      there p false g i = let (d, h) = are.only p i in ready-item new neww d p (stays p d h).1

  -- so there is room for what comes
  pub ready-room : AreRising index.pairs → new.waiters.limit ≡ old.waiters.limit → length index.pairs + one_of (ready_in new at) ≤ index.limit + one_of (ready_in old at)
  ready-room r limit = go (ready_in new at) refl (ready_in old at) refl
    where
      go : (o : Option Pair) → ready_in new at ≡ o → (p : Option Pair) → ready_in old at ≡ p → length index.pairs + one_of o ≤ index.limit + one_of p
      go None f p g = let fewer = ready-fewer r in let within = oldw.within in let same = are.limit in omega arith
      go (Some q) f (Some p) g = let fewer = ready-fewer r in let within = oldw.within in let same = are.limit in omega arith
      go (Some q) f None g = let more = ready-more r q f g in let within = neww.within in let same = are.limit in omega arith

  module _ (next : OrderedIndex) (replaced : IsReplaced index.pairs next.pairs (ready_in old at) (ready_in new at)) where
    ready-only : (p : Pair) → is_in p next.pairs ≡ true → (e : ℕ) × (ready_at new e ≡ Some p)
    ready-only p there = go (is_some_pair p (ready_in new at)) refl (is_some_pair p (ready_in old at)) refl (sym (replaced p) ∙ there)
      where
        go : (b : Bool) → is_some_pair p (ready_in new at) ≡ b → (c : Bool) → is_some_pair p (ready_in old at) ≡ c → (b || (not c && is_in p index.pairs)) ≡ true → (e : ℕ) × (ready_at new e ≡ Some p)
        go true f c g h = let found = some-ready new p at f in (found.0, found.2)
        go false f true g h = absurd cc
        go false f false g h =
            let (e, k) = are.only p h in
            elim (is-at at e) [
              | inl l ↦ absurd (let on = ready-some old p at e l k in cc)
              | inr l ↦ (e, elsewhere e l ∙ k)
            ]

    ready-all : (e : ℕ) (p : Pair) → ready_at new e ≡ Some p → is_in p next.pairs ≡ true
    ready-all e p h = replaced p ∙ elim (is-at at e) [
      | inl l ↦ rw (ready-some new p at e l h) refl
      | inr l ↦ go (is_some_pair p (ready_in new at)) (is_some_pair p (ready_in old at)) refl (λ f. l (also f l)) (are.all e p (sym (elsewhere e l) ∙ h))
    ]
      where
        also : is_some_pair p (ready_in old at) ≡ true → (at ≡ Some e → ⊥) → at ≡ Some e
        also f l =
            let (d, k, g) = some-ready old p at f in
            k ∙ ap (λ (x : ℕ). Some x) (ready-key old oldw d e p p g (sym (elsewhere e l) ∙ h) refl)

        go : (b : Bool) (c : Bool) → is_some_pair p (ready_in old at) ≡ c → (is_some_pair p (ready_in old at) ≡ true → ⊥) → is_in p index.pairs ≡ true → (b || (not c && is_in p index.pairs)) ≡ true
        go true c f never there = refl
        go false true f never there = absurd (never f)
        go false false f never there = there

    -- so the index keeps step
    pub ready-moved : next.limit ≡ index.limit → new.waiters.limit ≡ old.waiters.limit → AreReady new next
    ready-moved limit same = record { only = ready-only; all = ready-all; limit = limit ∙ are.limit ∙ sym same }

  -- what was ready is there
  pub there-as : (was : Option Pair) → ready_in old at ≡ was → IfSome was (λ p. is_in p index.pairs ≡ true)
  there-as was f = subst (λ (o : Option Pair). IfSome o (λ p. is_in p index.pairs ≡ true)) f (among at)
    where
      found : (e : ℕ) (o : Option Pair) → ready_at old e ≡ o → IfSome o (λ p. is_in p index.pairs ≡ true)
      found e None is = tt
      found e (Some p) is = are.all e p is

      among : (a : Option ℕ) → IfSome (ready_in old a) (λ p. is_in p index.pairs ≡ true)
      among None = tt
      among (Some e) = found e (ready_at old e) refl

  -- the same, given what it was and what it is
  pub free-as : (was is : Option Pair) → ready_in old at ≡ was → ready_in new at ≡ is → IfSome is (λ p. is_in p index.pairs ≡ true → was ≡ Some p)
  free-as was is f g = subst (λ (o : Option Pair). IfSome o (λ p. is_in p index.pairs ≡ true → was ≡ Some p)) g (subst (λ (w : Option Pair). IfSome (ready_in new at) (λ p. is_in p index.pairs ≡ true → w ≡ Some p)) f ready-free)

  pub room-as : AreRising index.pairs → new.waiters.limit ≡ old.waiters.limit → (was is : Option Pair) → ready_in old at ≡ was → ready_in new at ≡ is → length index.pairs + one_of is ≤ index.limit + one_of was
  room-as r limit was is f g = subst (λ (o : Option Pair). length index.pairs + one_of o ≤ index.limit + one_of was) g (subst (λ (w : Option Pair). length index.pairs + one_of (ready_in new at) ≤ index.limit + one_of w) f (ready-room r limit))

  pub moved-as : (was is : Option Pair) → ready_in old at ≡ was → ready_in new at ≡ is → (next : OrderedIndex) → IsReplaced index.pairs next.pairs was is → next.limit ≡ index.limit → new.waiters.limit ≡ old.waiters.limit → AreReady new next
  moved-as was is f g next replaced limit same = ready-moved next (subst (λ (o : Option Pair). IsReplaced index.pairs next.pairs (ready_in old at) o) (sym g) (subst (λ (w : Option Pair). IsReplaced index.pairs next.pairs w is) (sym f) replaced)) limit same

-- ---- exchanges for which nobody is ready

-- what hasn't an answer makes nobody ready
unanswered : (o : Option Answer) (first : Option ℕ) → not (is_missing o) ≡ false → ready_of (moment_of o) first ≡ None
unanswered None first e = refl
unanswered (Some a) first e = absurd cc

-- so an open exchange doesn't
pub open-unready : (t : Tables) (n : ℕ) → IfSome (item_at n t.exchanges.items) (λ x. is_done x ≡ false) → ready_in t (Some n) ≡ None
open-unready t n still = go (item_at n t.exchanges.items) refl still
  where
    go : (o : Option Exchange) → item_at n t.exchanges.items ≡ o → IfSome o (λ x. is_done x ≡ false) → ready_at t n ≡ None
    go None e f = rw e refl
    go (Some x) e f = rw e (unanswered (answer_at x) (first_that (waits_for n) t.waiters.items) f)

-- nor does one that is gone
pub gone-unready : (t : Tables) (n : ℕ) → item_at n t.exchanges.items ≡ None → ready_in t (Some n) ≡ None
gone-unready t n e = rw e refl

-- nor does one for which nobody waits
pub unused-unready : (t : Tables) (n : ℕ) → first_that (waits_for n) t.waiters.items ≡ None → ready_in t (Some n) ≡ None
unused-unready t n none = rw none (go (got_in n t.exchanges.items))
  where
    go : (o : Option ℕ) → ready_of o None ≡ None
    go None = refl
    go (Some moment) = refl

-- none waits where there is no first that does
pub unused-first : (n : ℕ) (ws : List (Numbered Waiter)) → eqb (count (waits_for n) ws) 0 ≡ not (is_some (first_that (waits_for n) ws))
unused-first n [] = refl
unused-first n (w ∷ ws) = go (waits_for n w.1) refl (unused-first n ws)
  where
    go : (b : Bool) → waits_for n w.1 ≡ b → eqb (count (waits_for n) ws) 0 ≡ not (is_some (first_that (waits_for n) ws)) → eqb (count (waits_for n) (w ∷ ws)) 0 ≡ not (is_some (first_that (waits_for n) (w ∷ ws)))
    go true e h = rw e (ne_eqb (1 + count (waits_for n) ws) 0 (λ f. omega arith))
    go false e h =
        let none : 0 + count (waits_for n) ws ≡ count (waits_for n) ws = omega arith in
        rw (e, none) h

-- ---- what stays where one item changes

-- an exchange changes
pub exchange-elsewhere : (n : ℕ) (t : Tables) (ys : Table Exchange) → ((q : ℕ) → eqb q n ≡ false → item_at q ys.items ≡ item_at q t.exchanges.items) → AreElsewhere t (record t { exchanges = ys }) (Some n)
exchange-elsewhere n t ys others e other =
    let off : eqb e n ≡ false = ne_eqb e n (λ f. other (ap (λ (x : ℕ). Some x) (sym f))) in
    ap (λ (o : Option Exchange). ready_of (moment_of (answer_of o)) (first_that (waits_for e) t.waiters.items)) (others e off)

-- a waiter waits for this exchange, or for none
abbrev pub WaitsAt : Option ℕ → Option Waiter → Type 0
WaitsAt at o = IfSome (awaited_by o) (λ e. at ≡ Some e)

-- who waits at one exchange doesn't wait for another
waits-off : (at : Option ℕ) (o : Option Waiter) → WaitsAt at o → (e : ℕ) → (at ≡ Some e → ⊥) → passes (waits_for e) o ≡ false
waits-off at o is e other = go (awaited_by o) refl is
  where
    go : (a : Option ℕ) → awaited_by o ≡ a → IfSome a (λ x. at ≡ Some x) → passes (waits_for e) o ≡ false
    go None f g = passes-unawaited e o f
    go (Some x) f g = passes-awaited e x o f ∙ ne_eqb x e (λ h. other (g ∙ ap (λ (y : ℕ). Some y) h))

-- a waiter changes
pub waiter-elsewhere : (n : ℕ) (t : Tables) (vs : Table Waiter) (at : Option ℕ) → IsTable t.waiters → IsTable vs → ((q : ℕ) → eqb q n ≡ false → item_at q vs.items ≡ item_at q t.waiters.items) → WaitsAt at (item_at n t.waiters.items) → WaitsAt at (item_at n vs.items) → AreElsewhere t (record t { waiters = vs }) at
waiter-elsewhere n t vs at old new others was is e other = ap (ready_of (got_in e t.exchanges.items)) (that-same (waits_for e) t.waiters.items vs.items old.rising new.rising each)
  where
    each : (m : ℕ) → passes (waits_for e) (item_at m vs.items) ≡ passes (waits_for e) (item_at m t.waiters.items)
    each m = go (eqb m n) refl
      where
        go : (b : Bool) → eqb m n ≡ b → passes (waits_for e) (item_at m vs.items) ≡ passes (waits_for e) (item_at m t.waiters.items)
        go true f = rw (eqb-true m n f) (waits-off at (item_at n vs.items) is e other ∙ sym (waits-off at (item_at n t.waiters.items) was e other))
        go false f = ap (passes (waits_for e)) (others m f)

-- what a waiter waits for
pub waits-its : (o : Option Waiter) → WaitsAt (awaited_by o) o
waits-its o = go (awaited_by o)
  where
    go : (a : Option ℕ) → IfSome a (λ e. a ≡ Some e)
    go None = tt
    go (Some e) = refl

-- ---- nothing is answered by it

-- where nothing else is ready the index stays
pub ready-same : (t new : Tables) (index : OrderedIndex) → ((e : ℕ) → ready_at new e ≡ ready_at t e) → new.waiters.limit ≡ t.waiters.limit → AreReady t index → AreReady new index
ready-same t new index same limit are = record {
  only = λ p there. (let (e, h) = are.only p there in (e, same e ∙ h));
  all = λ e p h. are.all e p (sym (same e) ∙ h);
  limit = are.limit ∙ sym limit;
}

-- the moment of an answer stays
pub got-changed : (n e : ℕ) (f : Exchange → Exchange) (xs ys : List (Numbered Exchange)) → ys ≡ changed_at n f xs → ((q : ℕ) → eqb q n ≡ false → item_at q ys ≡ item_at q xs) → IfSome (item_at n xs) (λ x. got_of (f x) ≡ got_of x) → got_in e ys ≡ got_in e xs
got-changed n e f xs ys is others kept = go (eqb e n) refl
  where
    at : (o : Option Exchange) → IfSome o (λ x. got_of (f x) ≡ got_of x) → moment_of (answer_of (option_map f o)) ≡ moment_of (answer_of o)
    at None k = refl
    at (Some x) k = k

    here : got_in n ys ≡ got_in n xs
    here = rw (is, changed-at n f xs) (at (item_at n xs) kept)

    go : (b : Bool) → eqb e n ≡ b → got_in e ys ≡ got_in e xs
    go true g = rw (eqb-true e n g) here
    go false g = ap (λ (o : Option Exchange). moment_of (answer_of o)) (others e g)

-- all change, and no answer comes
pub got-all : (e : ℕ) (f : Exchange → Exchange) (xs : List (Numbered Exchange)) → ((x : Exchange) → got_of (f x) ≡ got_of x) → got_in e (all_changed f xs) ≡ got_in e xs
got-all e f [] kept = refl
got-all e f (x ∷ xs) kept = go (eqb e x.0) (got-all e f xs kept)
  where
    go : (b : Bool) → got_in e (all_changed f xs) ≡ got_in e xs → moment_of (answer_of (cond b (Some (f x.1)) (item_at e (all_changed f xs)))) ≡ moment_of (answer_of (cond b (Some x.1) (item_at e xs)))
    go true i = kept x.1
    go false i = i

-- one comes without an answer
pub got-push : (t : Table Exchange) (x : Exchange) (e : ℕ) → IsTable t → got_of x ≡ None → got_in e (admitted_to x t).items ≡ got_in e t.items
got-push t x e is off = go (eqb e (t.admitted + 1)) refl
  where
    none : item_at (t.admitted + 1) t.items ≡ None
    none = none-above t.admitted t.items is.below

    here : got_in (t.admitted + 1) (admitted_to x t).items ≡ got_in (t.admitted + 1) t.items
    here = rw (push-at (t.admitted + 1) t.items x none, none) off

    go : (b : Bool) → eqb e (t.admitted + 1) ≡ b → got_in e (admitted_to x t).items ≡ got_in e t.items
    go true f = rw (eqb-true e (t.admitted + 1) f) here
    go false f = ap (λ (o : Option Exchange). moment_of (answer_of o)) (push-others (t.admitted + 1) e t.items x f)

-- what stays of an exchange that changes
pub got-sent : (n : ℕ) (s : Sending) (xs : List (Numbered Exchange)) → IfSome (item_at n xs) (λ x. is_queued x ≡ true) → IfSome (item_at n xs) (λ x. got_of (sent s x) ≡ got_of x)
got-sent n s xs queued = go (item_at n xs) queued
  where
    none : (s : ExchangeState) → is_queued_state s ≡ true → None ≡ moment_of (answer_in_state s)
    none Queued h = refl
    none Sent h = refl
    none Acked h = refl
    none (Done a) h = absurd cc

    go : (o : Option Exchange) → IfSome o (λ x. is_queued x ≡ true) → IfSome o (λ x. got_of (sent s x) ≡ got_of x)
    go None q = tt
    go (Some x) q = none x.state q

-- an acknowledgement leaves the moment of an answer as it is
pub got-acked : (n : ℕ) (xs : List (Numbered Exchange)) → IfSome (item_at n xs) (λ x. is_sent x ≡ true) → IfSome (item_at n xs) (λ x. got_of (acked x) ≡ got_of x)
got-acked n xs was = go (item_at n xs) was
  where
    none : (s : ExchangeState) → is_sent_state s ≡ true → None ≡ moment_of (answer_in_state s)
    none Queued h = refl
    none Sent h = refl
    none Acked h = refl
    none (Done a) h = absurd cc

    go : (o : Option Exchange) → IfSome o (λ x. is_sent x ≡ true) → IfSome o (λ x. got_of (acked x) ≡ got_of x)
    go None q = tt
    go (Some x) q = none x.state q

-- so does a timeout
pub got-fired : (n now : ℕ) (xs : List (Numbered Exchange)) → IfSome (item_at n xs) (λ x. got_of (fired_exchange now x) ≡ got_of x)
got-fired n now xs = go (item_at n xs)
  where
    go : (o : Option Exchange) → IfSome o (λ x. got_of (fired_exchange now x) ≡ got_of x)
    go None = tt
    go (Some x) = refl

-- and a taint
pub got-tainted : (target : Target) (x : Exchange) → got_of (tainted_by target x) ≡ got_of x
got-tainted target x = go (is_changed_with target x)
  where
    go : (b : Bool) → got_of (cond b (record x { tainted = true }) x) ≡ got_of x
    go true = refl
    go false = refl

-- ---- for whom a waiter waits when it changes

-- who is gone neither
pub waits-gone : (at : Option ℕ) (o : Option Waiter) → o ≡ None → WaitsAt at o
waits-gone at o e = rw e tt

-- a timer changes nothing of it
pub waits-fired : (e now : ℕ) (w : Waiter) → waits_for e (fired_waiter now w) ≡ waits_for e w
waits-fired e now w = go w.state
  where
    go : (s : WaiterState) → waits_in_state e (fired_state now s) ≡ waits_in_state e s
    go (Waiting n) = refl
    go (Delivering bytes id timer) = refl

-- a client whose timeout ended leaves who is ready as it was
pub ready-fired : (n now : ℕ) (t : Tables) (vs : Table Waiter) → IsTable t.waiters → IsTable vs → vs.items ≡ changed_at n (fired_waiter now) t.waiters.items → (e : ℕ) → ready_at (record t { waiters = vs }) e ≡ ready_at t e
ready-fired n now t vs old new is e = ap (ready_of (got_in e t.exchanges.items)) (that-same (waits_for e) t.waiters.items vs.items old.rising new.rising each)
  where
    both : (o : Option Waiter) → passes (waits_for e) (option_map (fired_waiter now) o) ≡ passes (waits_for e) o
    both None = refl
    both (Some w) = waits-fired e now w

    each : (m : ℕ) → passes (waits_for e) (item_at m vs.items) ≡ passes (waits_for e) (item_at m t.waiters.items)
    each m = go (eqb m n) refl
      where
        go : (b : Bool) → eqb m n ≡ b → passes (waits_for e) (item_at m vs.items) ≡ passes (waits_for e) (item_at m t.waiters.items)
        go true f = rw (eqb-true m n f, is, changed-at n (fired_waiter now) t.waiters.items) (both (item_at n t.waiters.items))
        go false f = rw is (ap (passes (waits_for e)) (changed-others n m (fired_waiter now) t.waiters.items f))
