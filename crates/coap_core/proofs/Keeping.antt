-- Message ids that are kept: one is left for each request that is still to be sent, and for each client that is still to be served.
use Rattle.std.proofs.Common.{◌≡◌, ℕ, ◌+◌, ◌<◌, ◌≤◌, Bool, true, false, cond, eqb, List, [], ◌∷◌, Some, sym, subst, arith}
use Rattle.coap_pending.specs.declared.exchange.Exchange.{Exchange}
use Rattle.coap_pending.specs.declared.waiter.Waiter.{Waiter}
use Rattle.coap_pending.specs.Exchanges.{is_queued}
use Rattle.coap_pending.specs.Ids.{left_of}
use Rattle.coap_pending.specs.Table.{Numbered, item_at, count}
use Rattle.coap_pending.specs.Waiters.{is_waiting}
use Rattle.coap_model.specs.State.{State}
use Rattle.coap_core.specs.Needs.{CanGoOn}

-- an item that passes is counted
counted : {A : Type 0} (test : A → Bool) (n : ℕ) (xs : List (Numbered A)) (x : A) → item_at n xs ≡ Some x → test x ≡ true → 0 < count test xs
counted test n [] x e passes = absurd cc
counted {A} test n (y ∷ ys) x e passes = go (eqb n y.0) e (λ f. counted test n ys x f passes)
  where
    here : (s : Bool) → s ≡ true → 0 < cond s 1 0 + count test ys
    here true f = omega arith
    here false f = absurd cc

    go : (b : Bool) → cond b (Some y.1) (item_at n ys) ≡ Some x → (item_at n ys ≡ Some x → 0 < count test ys) → 0 < cond (test y.1) 1 0 + count test ys
    go true f rest = let same : y.1 ≡ x = cc in here (test y.1) (subst (λ (z : A). test z ≡ true) (sym same) passes)
    go false f rest = let i = rest f in omega arith

-- an id is left for a request that is to be sent
pub id-for-queued : (w : State) (now n : ℕ) (x : Exchange) → CanGoOn w → w.last ≤ now → item_at n w.exchanges ≡ Some x → is_queued x ≡ true → 0 < left_of now w.ids
id-for-queued w now n x can onward e queued = let some = counted is_queued n w.exchanges x e queued in let kept = can.ids now onward in omega (arith, some, kept)

-- one is left for a client that is to be served
pub id-for-waiting : (w : State) (now n : ℕ) (v : Waiter) → CanGoOn w → w.last ≤ now → item_at n w.waiters ≡ Some v → is_waiting v ≡ true → 0 < left_of now w.ids
id-for-waiting w now n v can onward e waits = let some = counted is_waiting n w.waiters v e waits in let kept = can.ids now onward in omega (arith, some, kept)
