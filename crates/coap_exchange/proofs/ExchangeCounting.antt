-- How many exchanges there are with each endpoint, as they come, change and go.
use Rattle.std.proofs.Common.{◌≡◌, ℕ, ◌+◌, ◌-◌, ◌<◌, ◌≤◌, ◌&&◌, List, [], ◌∷◌, ◌++◌, length, Bool, true, false, cond, Option, Some, None, refl, sym, ap, ◌∙◌, arith}
use Rattle.coap_endpoint.specs.declared.endpoint.Endpoint.{Endpoint}
use Rattle.coap_endpoint.specs.Endpoint.{same_endpoint}
use Rattle.coap_endpoint.proofs.Equality.{Tells-endpoint}
use Rattle.coap_pending.specs.declared.exchange.Exchange.{Exchange}
use Rattle.coap_pending.specs.declared.exchange.Transition.{Transition}
use Rattle.coap_pending.specs.declared.exchange.Transition.TheVariants as transition
use Rattle.coap_pending.specs.Exchanges.{after_transition, is_queued, is_sent, is_sent_to, tainted_by, is_changed_with, is_queued_to, is_with, is_sent_after}
use Rattle.coap_pending.specs.Table.{Numbered, Table, IsTable, item_at, without, all_changed, count, passes}
use Rattle.coap_exchange.specs.Updates.{updated, Allows}
use Rattle.coap_exchange.specs.Counted.{AreCounted}
use Rattle.endpoint_counts.specs.Endpoints.{is_one, Endpoints, open_in, queued_in, sent_in, one_if_at}
use Rattle.coap_endpoint.specs.declared.target.Target.{Target}
use Rattle.coap_pending.proofs.Counts.{one_if, count-push, count-less, count-all_changed, count-without, count-length}
use Rattle.endpoint_counts.proofs.Orders.{one-same}
use Rattle.endpoint_counts.proofs.EndpointCounting.{one_if_at-split}

-- ---- exchanges come, change and go

-- what is counted for an endpoint of an exchange, whatever its stage
at-with : (x : Exchange) (e : Endpoint) → one_if_at true x.key.target.at e ≡ one_if (is_with e x)
at-with x e = ap one_if (one-same x.key.target.at e)

-- of one that is sent
at-sent : (x : Exchange) (e : Endpoint) → one_if_at (is_sent x) x.key.target.at e ≡ one_if (is_sent_to e x)
at-sent x e = ap (λ (b : Bool). one_if (is_sent x && b)) (one-same x.key.target.at e)

-- of one that waits for its turn
at-queued : (x : Exchange) (e : Endpoint) → one_if_at (is_queued x) x.key.target.at e ≡ one_if (is_queued_to e x)
at-queued x e = ap (λ (b : Bool). one_if (is_queued x && b)) (one-same x.key.target.at e)

-- one comes that waits for its turn
pub counted-push : (xs : List (Numbered Exchange)) (old new : Endpoints) (n : ℕ) (x : Exchange) → is_sent x ≡ false → is_queued x ≡ true → AreCounted xs old
    → ((e : Endpoint) → open_in new e ≡ open_in old e + one_if_at true x.key.target.at e) → ((e : Endpoint) → sent_in new e ≡ sent_in old e) → ((e : Endpoint) → queued_in new e ≡ queued_in old e + one_if_at true x.key.target.at e) → AreCounted (xs ++ (n, x) ∷ []) new
counted-push xs old new n x off on are all sent queued = record {
  all = λ e. (let counted = count-push (is_with e) xs (n, x) in let one = at-with x e in let was = are.all e in let now = all e in omega arith);
  sent = λ e. (let counted = count-push (is_sent_to e) xs (n, x) in let none : one_if (is_sent x && same_endpoint x.key.target.at e) ≡ one_if false = ap (λ (b : Bool). one_if (b && same_endpoint x.key.target.at e)) off in let was = are.sent e in let now = sent e in omega arith);
  queued = λ e. (let counted = count-push (is_queued_to e) xs (n, x) in let one : one_if_at true x.key.target.at e ≡ one_if (is_queued_to e x) = ap (λ (b : Bool). one_if_at b x.key.target.at e) (sym on) ∙ at-queued x e in let was = are.queued e in let now = queued e in omega arith);
}

-- one that was counted is taken back
pub counted-undone : (xs : List (Numbered Exchange)) (old more new : Endpoints) (at : Endpoint) → AreCounted xs old
    → ((e : Endpoint) → open_in more e ≡ open_in old e + one_if_at true at e) → ((e : Endpoint) → sent_in more e ≡ sent_in old e) → ((e : Endpoint) → queued_in more e ≡ queued_in old e + one_if_at true at e)
    → ((e : Endpoint) → open_in new e ≡ open_in more e - one_if_at true at e) → ((e : Endpoint) → sent_in new e ≡ sent_in more e - one_if_at false at e) → ((e : Endpoint) → queued_in new e ≡ queued_in more e - one_if_at true at e) → AreCounted xs new
counted-undone xs old more new at are all sent queued closed unsent unqueued = record {
  all = λ e. omega (arith, all e, closed e, are.all e);
  sent = λ e. omega (arith, sent e, unsent e, are.sent e, one_if_at-split false at e, none e (is_one at e));
  queued = λ e. omega (arith, queued e, unqueued e, are.queued e);
}
  where
    none : (e : Endpoint) (b : Bool) → cond b (one_if false) 0 ≡ 0
    none e true = refl
    none e false = refl

-- it was counted
pub counted-there : (n : ℕ) (t : Table Exchange) (endpoints : Endpoints) (x : Exchange) → IsTable t → AreCounted t.items endpoints → item_at n t.items ≡ Some x → 0 < open_in endpoints x.key.target.at
counted-there n t endpoints x is are there =
    let counted = count-without (is_with x.key.target.at) n 0 t.items is.rising in
    let one : one_if (passes (is_with x.key.target.at) (item_at n t.items)) ≡ 1 = ap (λ (o : Option Exchange). one_if (passes (is_with x.key.target.at) o)) there ∙ ap one_if (Tells-endpoint.itself x.key.target.at) in
    let was = are.all x.key.target.at in
    omega arith

-- of those that pass a test there are no more than of all
with-less : (test : Exchange → Bool) (e : Endpoint) (x : Exchange) → (test x && same_endpoint x.key.target.at e) ≡ true → is_with e x ≡ true
with-less test e x s = go (test x) s
  where
    go : (b : Bool) → (b && same_endpoint x.key.target.at e) ≡ true → same_endpoint x.key.target.at e ≡ true
    go true f = f
    go false f = absurd cc

-- and of the others no more pass than there are
few-that : (test : Exchange → Bool) (counted : Endpoint → ℕ) (n : ℕ) (t : Table Exchange) (endpoints : Endpoints) (x : Exchange) → IsTable t → AreCounted t.items endpoints → ((e : Endpoint) → counted e ≡ count (λ y. test y && same_endpoint y.key.target.at e) t.items) → item_at n t.items ≡ Some x
    → counted x.key.target.at ≤ (open_in endpoints x.key.target.at - 1) + one_if (test x)
few-that test counted n t endpoints x is are counts there =
    let e = x.key.target.at in
    let passing = λ (y : Exchange). test y && same_endpoint y.key.target.at x.key.target.at in
    let with = count-without (is_with x.key.target.at) n 0 t.items is.rising in
    let some = count-without passing n 0 t.items is.rising in
    let one : one_if (passes (is_with x.key.target.at) (item_at n t.items)) ≡ 1 = ap (λ (o : Option Exchange). one_if (passes (is_with x.key.target.at) o)) there ∙ ap one_if (Tells-endpoint.itself x.key.target.at) in
    let other : one_if (passes passing (item_at n t.items)) ≡ one_if (test x && true) = ap (λ (o : Option Exchange). one_if (passes passing o)) there ∙ ap (λ (b : Bool). one_if (test x && b)) (Tells-endpoint.itself x.key.target.at) in
    let plain : one_if (test x && true) ≡ one_if (test x) = both (test x) in
    let less = count-less passing (is_with x.key.target.at) (with-less test x.key.target.at) (without n t.items) in
    let a = are.all x.key.target.at in
    let s = counts x.key.target.at in
    omega arith
  where
    both : (b : Bool) → one_if (b && true) ≡ one_if b
    both true = refl
    both false = refl

-- of the others no more are sent than there are
pub few-sent : (n : ℕ) (t : Table Exchange) (endpoints : Endpoints) (x : Exchange) → IsTable t → AreCounted t.items endpoints → item_at n t.items ≡ Some x → sent_in endpoints x.key.target.at ≤ (open_in endpoints x.key.target.at - 1) + one_if (is_sent x)
few-sent n t endpoints x is are there = few-that is_sent (sent_in endpoints) n t endpoints x is are are.sent there

-- nor wait more
pub few-queued : (n : ℕ) (t : Table Exchange) (endpoints : Endpoints) (x : Exchange) → IsTable t → AreCounted t.items endpoints → item_at n t.items ≡ Some x → queued_in endpoints x.key.target.at ≤ (open_in endpoints x.key.target.at - 1) + one_if (is_queued x)
few-queued n t endpoints x is are there = few-that is_queued (queued_in endpoints) n t endpoints x is are are.queued there

-- no more wait than there are exchanges
pub queued-few : (endpoints : Endpoints) (xs : List (Numbered Exchange)) (e : Endpoint) → AreCounted xs endpoints → queued_in endpoints e ≤ length xs
queued-few endpoints xs e are = let few = count-length (is_queued_to e) xs in let s = are.queued e in omega arith

-- no more are sent than there are exchanges
pub sent-few : (endpoints : Endpoints) (xs : List (Numbered Exchange)) (e : Endpoint) → AreCounted xs endpoints → sent_in endpoints e ≤ length xs
sent-few endpoints xs e are = let few = count-length (is_sent_to e) xs in let s = are.sent e in omega arith

-- an item is counted
counted-some : (test : Endpoint → Exchange → Bool) (n : ℕ) (t : Table Exchange) (old : Endpoint → ℕ) → IsTable t → ((e : Endpoint) → old e ≡ count (test e) t.items) → (e : Endpoint) → one_if (passes (test e) (item_at n t.items)) ≤ old e
counted-some test n t old is are e = let counted = count-without (test e) n 0 t.items is.rising in let was = are e in omega arith

-- what is counted of an item is no longer, once that is taken from the count of its endpoint
pub uncounted : (n : ℕ) (x : Exchange) (t : Table Exchange) (old new : Endpoint → ℕ) (test : Endpoint → Exchange → Bool) (one : Endpoint → ℕ) → IsTable t → item_at n t.items ≡ Some x → ((e : Endpoint) → old e ≡ count (test e) t.items) → ((e : Endpoint) → one e ≡ one_if (test e x)) → ((e : Endpoint) → new e ≡ old e - one e)
    → (e : Endpoint) → new e + one_if (passes (test e) (item_at n t.items)) ≡ old e
uncounted n x t old new test one is there counted same less e =
    let at : one_if (passes (test e) (item_at n t.items)) ≡ one_if (test e x) = ap (λ (p : Option Exchange). one_if (passes (test e) p)) there in
    let its = same e in
    let left = less e in
    let within = counted-some test n t old is counted e in
    omega arith

-- the same for all endpoints
pub at-with-of : (x : Exchange) → (e : Endpoint) → one_if_at true x.key.target.at e ≡ one_if (is_with e x)
at-with-of = at-with

-- of one that waits for its turn
pub at-queued-of : (x : Exchange) → (e : Endpoint) → one_if_at (is_queued x) x.key.target.at e ≡ one_if (is_queued_to e x)
at-queued-of = at-queued

-- of one that is sent
pub at-sent-of : (x : Exchange) → (e : Endpoint) → one_if_at (is_sent x) x.key.target.at e ≡ one_if (is_sent_to e x)
at-sent-of = at-sent

-- what a change makes of whether it is sent
pub sends-is : (ch : Transition) (x : Exchange) → is_sent (after_transition ch x) ≡ is_sent_after ch (is_sent x)
sends-is (transition.Send s) x = refl
sends-is (transition.Fire now) x = refl
sends-is transition.Acknowledge x = refl
sends-is (transition.Answer a) x = refl

-- a change leaves the endpoint
same-with : (ch : Transition) (e : Endpoint) (x : Exchange) → is_with e (after_transition ch x) ≡ is_with e x
same-with (transition.Send s) e x = refl
same-with (transition.Fire now) e x = refl
same-with transition.Acknowledge e x = refl
same-with (transition.Answer a) e x = refl

-- what is counted after a change
pub sent-after : (ch : Transition) (e : Endpoint) (x : Exchange) → one_if_at (is_sent_after ch (is_sent x)) x.key.target.at e ≡ one_if (is_sent_to e (after_transition ch x))
sent-after ch e x =
    ap (λ (b : Bool). one_if (is_sent_after ch (is_sent x) && b)) (one-same x.key.target.at e)
    ∙ ap (λ (b : Bool). one_if (b && same_endpoint x.key.target.at e)) (sym (sends-is ch x))
    ∙ ap (λ (b : Bool). one_if (is_sent (after_transition ch x) && b)) (sym (same-with ch e x))

-- what is updated waits for its turn with no endpoint
pub off-queue : (change : Option Transition) (o : Option Exchange) (e : Endpoint) → Allows (λ c x. is_queued (after_transition c x) ≡ false) change o → passes (is_queued_to e) (updated after_transition change o) ≡ false
off-queue None o e off = refl
off-queue (Some c) None e off = refl
off-queue (Some c) (Some x) e off = ap (λ (b : Bool). b && same_endpoint (after_transition c x).key.target.at e) off

-- a taint leaves the endpoint
same-taint : (target : Target) (e : Endpoint) (x : Exchange) → is_with e (tainted_by target x) ≡ is_with e x
same-taint target e x = go (is_changed_with target x)
  where
    go : (b : Bool) → is_with e (cond b (record x { tainted = true }) x) ≡ is_with e x
    go true = refl
    go false = refl

-- and what is sent
pub sent-taint : (target : Target) (e : Endpoint) (x : Exchange) → is_sent_to e (tainted_by target x) ≡ is_sent_to e x
sent-taint target e x = go (is_changed_with target x)
  where
    go : (b : Bool) → is_sent_to e (cond b (record x { tainted = true }) x) ≡ is_sent_to e x
    go true = refl
    go false = refl

-- and what waits
pub queued-taint : (target : Target) (e : Endpoint) (x : Exchange) → is_queued_to e (tainted_by target x) ≡ is_queued_to e x
queued-taint target e x = go (is_changed_with target x)
  where
    go : (b : Bool) → is_queued_to e (cond b (record x { tainted = true }) x) ≡ is_queued_to e x
    go true = refl
    go false = refl

-- all are tainted
pub counted-tainted : (target : Target) (xs : List (Numbered Exchange)) (endpoints : Endpoints) → AreCounted xs endpoints → AreCounted (all_changed (tainted_by target) xs) endpoints
counted-tainted target xs endpoints are = record {
  all = λ e. are.all e ∙ sym (count-all_changed (is_with e) (tainted_by target) xs (same-taint target e));
  sent = λ e. are.sent e ∙ sym (count-all_changed (is_sent_to e) (tainted_by target) xs (sent-taint target e));
  queued = λ e. are.queued e ∙ sym (count-all_changed (is_queued_to e) (tainted_by target) xs (queued-taint target e));
}

-- what is counted of the exchange that changes
pub recounted : (n : ℕ) (ch : Transition) (t : Table Exchange) (endpoints : Endpoints) (x : Exchange) (new : Endpoint → ℕ) → IsTable t → AreCounted t.items endpoints → item_at n t.items ≡ Some x
    → ((e : Endpoint) → new e ≡ (sent_in endpoints e - one_if_at (is_sent x) x.key.target.at e) + one_if_at (is_sent_after ch (is_sent x)) x.key.target.at e)
    → (e : Endpoint) → new e + one_if (passes (is_sent_to e) (item_at n t.items)) ≡ sent_in endpoints e + one_if (passes (λ y. is_sent_to e (after_transition ch y)) (item_at n t.items))
recounted n ch t endpoints x new is are there moves e =
    let some = counted-some is_sent_to n t (sent_in endpoints) is are.sent e in
    let was = at-sent x e in
    let now = sent-after ch e x in
    let before : one_if (passes (is_sent_to e) (item_at n t.items)) ≡ one_if (is_sent_to e x) = ap (λ (o : Option Exchange). one_if (passes (is_sent_to e) o)) there in
    let after : one_if (passes (λ y. is_sent_to e (after_transition ch y)) (item_at n t.items)) ≡ one_if (is_sent_to e (after_transition ch x)) = ap (λ (o : Option Exchange). one_if (passes (λ y. is_sent_to e (after_transition ch y)) o)) there in
    let step = moves e in
    omega (arith, some, was, now, before, after, step)

-- an endpoint is itself
pub one-itself : (at : Endpoint) → one_if_at true at at ≡ 1
one-itself at = ap one_if (one-same at at ∙ Tells-endpoint.itself at)

-- no more wait than there are
pub queued-less : (endpoints : Endpoints) (xs : List (Numbered Exchange)) (e : Endpoint) → AreCounted xs endpoints → queued_in endpoints e ≤ open_in endpoints e
queued-less endpoints xs e are = let less = count-less (is_queued_to e) (is_with e) (with-less is_queued e) xs in let a = are.all e in let s = are.queued e in omega arith

-- no more are sent than there are
pub sent-less : (endpoints : Endpoints) (xs : List (Numbered Exchange)) (e : Endpoint) → AreCounted xs endpoints → sent_in endpoints e ≤ open_in endpoints e
sent-less endpoints xs e are = let less = count-less (is_sent_to e) (is_with e) (with-less is_sent e) xs in let a = are.all e in let s = are.sent e in omega arith
