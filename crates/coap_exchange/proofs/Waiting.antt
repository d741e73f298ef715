-- Who waits, and for which exchange, as waiters come, change and go.
use Rattle.std.proofs.Common.{◌≡◌, ℕ, ◌+◌, ◌^◌, ◌≤◌, List, [], ◌∷◌, ◌++◌, Bool, true, false, eqb, Option, Some, None, refl, sym, ap, ◌∙◌, arith}
use Rattle.std.specs.Prelude.{IfSome}
use Rattle.std.proofs.lemmas.Bool.{eqb-true, eqb-false, eq-eqb, ne_eqb}
use Rattle.coap_pending.specs.declared.timer.Timer.{Timer}
use Rattle.coap_pending.specs.declared.waiter.Waiter.{Waiter}
use Rattle.coap_pending.specs.declared.waiter.WaiterState.{WaiterState}
use Rattle.coap_pending.specs.declared.waiter.WaiterState.TheVariants.{Waiting, Delivering}
use Rattle.coap_pending.specs.Table.{Numbered, item_at, without, changed_at, count, passes}
use Rattle.coap_exchange.specs.Tally.{AreTallied}
use Rattle.coap_exchange.specs.Answered.{awaited_of}
use Rattle.endpoint_counts.specs.IndexOf.{key_at}
use Rattle.ordered_index.specs.Ordered.{Pair, is_key, many_of}
use Rattle.coap_pending.specs.Waiters.{awaited_by, delivered, exchange_of, fired_state, fired_waiter, waits_for, waits_in_state, AreShort, CanChange, CanFire, HasEnded, IsDue, IsStateShort}
use Rattle.coap_pending.specs.declared.waiter.WaiterTransition.TheVariants.{Fire as fire}
use Rattle.coap_pending.proofs.Schedule.{fired-short, first-short, short-bound}
use Rattle.coap_pending.proofs.Counts.{one_if, all-at, all-push, all-changed_at, all-without}
use Rattle.endpoint_counts.proofs.Indexing.{Moves}

-- equality goes both ways
turned : (a b : ℕ) → eqb a b ≡ eqb b a
turned a b = go (eqb a b) refl
  where
    go : (t : Bool) → eqb a b ≡ t → eqb a b ≡ eqb b a
    go true e = e ∙ sym (eq-eqb b a (sym (eqb-true a b e)))
    go false e = e ∙ sym (ne_eqb b a (λ f. eqb-false a b e (sym f)))

-- a waiter waits for its exchange alone
pub passes-awaited : (e x : ℕ) (o : Option Waiter) → awaited_by o ≡ Some x → passes (waits_for e) o ≡ eqb x e
passes-awaited e x None a = absurd cc
passes-awaited e x (Some w) a = go w.state a
  where
    go : (s : WaiterState) → exchange_of s ≡ Some x → waits_in_state e s ≡ eqb x e
    go (Waiting n) b = let same : n ≡ x = cc in rw same refl
    go (Delivering bytes id timer) b = absurd cc

-- who waits for nothing waits not for this
pub passes-unawaited : (e : ℕ) (o : Option Waiter) → awaited_by o ≡ None → passes (waits_for e) o ≡ false
passes-unawaited e None a = refl
passes-unawaited e (Some w) a = go w.state a
  where
    go : (s : WaiterState) → exchange_of s ≡ None → waits_in_state e s ≡ false
    go (Waiting n) b = absurd cc
    go (Delivering bytes id timer) b = refl

-- the exchange that one waits for is its key
key-waits : (e : ℕ) (o : Option Waiter) → is_key e (key_at awaited_of o) ≡ passes (waits_for e) o
key-waits e None = refl
key-waits e (Some w) = go w.state
  where
    go : (s : WaiterState) → is_key e (exchange_of s) ≡ waits_in_state e s
    go (Waiting n) = turned e n
    go (Delivering bytes id timer) = refl

-- the index counts one less for what one waited for, and one more for what it waits for then
abbrev pub HaveCounted : List Pair → List Pair → Option Waiter → Option Waiter → Type 0
HaveCounted old new was is = (e : ℕ) → many_of e new + one_if (is_key e (key_at awaited_of was)) ≡ many_of e old + one_if (is_key e (key_at awaited_of is))

-- so it counts those of the other table
counted-step : (xs ys : List (Numbered Waiter)) (old new : List Pair) (was is : Option Waiter) → AreTallied xs old → HaveCounted old new was is → ((e : ℕ) → count (waits_for e) ys + one_if (passes (waits_for e) was) ≡ count (waits_for e) xs + one_if (passes (waits_for e) is)) → AreTallied ys new
counted-step xs ys old new was is are have counted = λ e.
    let gone = ap one_if (key-waits e was) in
    let come = ap one_if (key-waits e is) in
    let before = are e in
    let moved = have e in
    let all = counted e in
    omega arith

-- so it does where one item is another
pub tallied-moved : (n : ℕ) (xs ys : List (Numbered Waiter)) (old new : List Pair) → Moves n xs ys → AreTallied xs old → HaveCounted old new (item_at n xs) (item_at n ys) → AreTallied ys new
tallied-moved n xs ys old new moves are have = counted-step xs ys old new (item_at n xs) (item_at n ys) are have (λ e. moves.counts (waits_for e))

-- ---- timeouts are no longer than they come to be

-- its timer is short
abbrev HasShort : Waiter → Type 0
HasShort w = IsStateShort w.state

-- timers stay short: of one more
pub short-push : (xs : List (Numbered Waiter)) (w : Numbered Waiter) (x : ℕ) → w.1.state ≡ Waiting x → AreShort xs → AreShort (xs ++ w ∷ [])
short-push xs w x s are = let short : HasShort w.1 = rw s tt in all-push HasShort xs w are short

-- of one less
pub short-without : (n : ℕ) (xs : List (Numbered Waiter)) → AreShort xs → AreShort (without n xs)
short-without n xs are = all-without HasShort n xs are

-- of one that is served
pub short-delivered : (n : ℕ) (bytes : List ℕ) (id : ℕ) (timer : Timer) (xs : List (Numbered Waiter)) → timer.timeout ≤ 3000 → AreShort xs → AreShort (changed_at n (delivered bytes id timer) xs)
short-delivered n bytes id timer xs le are = all-changed_at HasShort n (delivered bytes id timer) xs (λ w h. first-short timer le) are

-- a firing leaves a timer short
fired-has : (now : ℕ) (s : WaiterState) → IsStateShort s → IsStateShort (fired_state now s)
fired-has now (Waiting e) h = tt
fired-has now (Delivering bytes id timer) h = fired-short now timer h

-- of one that fires
pub short-fired : (n now : ℕ) (xs : List (Numbered Waiter)) → AreShort xs → AreShort (changed_at n (fired_waiter now) xs)
short-fired n now xs are = all-changed_at HasShort n (fired_waiter now) xs (λ w h. fired-has now w.state h) are

-- a timer that has ended can fire
can-fire : (now : ℕ) (s : WaiterState) → HasEnded now s → IsStateShort s → CanFire now s
can-fire now (Waiting e) ended h = tt
can-fire now (Delivering bytes id timer) ended h = (ended, short-bound timer h)

-- whose timer is due can be changed by it
pub fireable : (n now : ℕ) (xs : List (Numbered Waiter)) → now ≤ 2 ^ 62 → AreShort xs → IfSome (item_at n xs) (IsDue now) → IfSome (item_at n xs) (CanChange (fire now))
fireable n now xs le are due = go (item_at n xs) due (all-at HasShort n xs are)
  where
    go : (o : Option Waiter) → IfSome o (IsDue now) → IfSome o HasShort → IfSome o (CanChange (fire now))
    go None d h = tt
    go (Some w) d h = (le, can-fire now w.state d h)
