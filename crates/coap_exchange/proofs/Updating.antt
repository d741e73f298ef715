-- One item of a table changes or goes: what follows for the table, and for what is kept beside it.
use Rattle.std.proofs.Common.{◌≡◌, ℕ, ◌+◌, ◌-◌, ◌&&◌, ◌||◌, Bool, true, false, cond, eqb, List, Option, Some, None, refl, sym, ap, ◌∙◌, subst, arith}
use Rattle.coap_endpoint.specs.declared.endpoint.Endpoint.{Endpoint}
use Rattle.coap_pending.specs.declared.exchange.Exchange.{Exchange}
use Rattle.coap_pending.specs.declared.exchange.Transition.{Transition}
use Rattle.endpoint_counts.specs.Clients.{AreOfClients, AreWithin, Clients, count_of, one_of}
use Rattle.coap_pending.specs.Exchanges.{is_queued_to, is_with, after_transition, is_queued, is_sent_to, AreExchanges, CanChange, CanUpdate, is_sent, is_sent_after}
use Rattle.endpoint_counts.specs.Endpoints.{open_in, queued_in, sent_in, Endpoints}
use Rattle.coap_exchange.specs.Counted.{AreCounted, IsRecounted}
use Rattle.coap_exchange.specs.SendQueue.{is_moved, head_may_change_at}
use Rattle.coap_pending.specs.Table.{Numbered, Table, IsTable, count, item_at, passes}
use Rattle.coap_exchange.specs.Updates.{client_of_removed, updated, updated_at, Allows}
use Rattle.endpoint_counts.proofs.ByClient.{of_clients-changed, of_clients-without, whose, within-changed, within-without}
use Rattle.coap_pending.proofs.Changes.{changed_at-is}
use Rattle.coap_pending.proofs.Counts.{one_if}
use Rattle.coap_exchange.proofs.Heads.{StaysElsewhere}
use Rattle.coap_exchange.proofs.ExchangeCounting.{sends-is}
use Rattle.coap_endpoint.proofs.Equality.{Tells-endpoint}
use Rattle.coap_endpoint.specs.Endpoint.{same_endpoint}
use Rattle.std.specs.Prelude.{not, IfSome}
use Rattle.endpoint_counts.proofs.Indexing.{Moves, changed-at, changed-others, moves-changed, moves-without}
use Rattle.coap_exchange.proofs.Ordering.{AreKept, admitted-after, changed-off, endpoint-after, kept-changed, kept-without, without-off}
use Rattle.coap_pending.proofs.Tables.{closed-is, without-gone, without-others}
use Rattle.coap_pending.proofs.Timely.{changeable, exchanges-changed, exchanges-without}

module _ {A C : Type 0} (made : C → A → A) (n : ℕ) where
  -- the number has then what its item became
  pub updated-at : (change : Option C) (xs : List (Numbered A)) → item_at n (updated_at made change n xs) ≡ updated made change (item_at n xs)
  updated-at None xs = without-gone n xs
  updated-at (Some c) xs = changed-at n (made c) xs

  -- the other numbers keep their items
  pub updated-others : (change : Option C) (q : ℕ) (xs : List (Numbered A)) → eqb q n ≡ false → item_at q (updated_at made change n xs) ≡ item_at q xs
  updated-others None q xs e = without-others n q xs e
  updated-others (Some c) q xs e = changed-others n q (made c) xs e

  module _ (t : Table A) (is : IsTable t) where
    -- only the item of the number is another
    pub moves-updated : (change : Option C) → Moves n t.items (updated_at made change n t.items)
    moves-updated None = moves-without n t is
    moves-updated (Some c) = moves-changed n (made c) t is

    -- a table stays one
    pub updated-is : (change : Option C) → IsTable (record t { items = updated_at made change n t.items })
    updated-is None = closed-is n t is
    updated-is (Some c) = changed_at-is n (made c) t is

    module _ (who : A → Endpoint) (stays : (c : C) (x : A) → who (made c x) ≡ who x) where
      -- each client has as many items as are counted
      pub of_clients-updated : (change : Option C) (old new : Clients) → ((e : Endpoint) → count_of new e ≡ count_of old e - one_of (client_of_removed who change (item_at n t.items)) e) → AreOfClients (whose who) t.items old → AreOfClients (whose who) (updated_at made change n t.items) new
      of_clients-updated None old new less are = of_clients-without who n t old new is less are
      of_clients-updated (Some c) old new less are = λ e. omega (arith, less e, of_clients-changed who n (made c) t.items old (stays c) are e)

      -- and no more than it may have
      pub within-updated : (change : Option C) → AreWithin (whose who) t → AreWithin (whose who) (record t { items = updated_at made change n t.items })
      within-updated None are = within-without who n t is are
      within-updated (Some c) are = within-changed who n (made c) t (stays c) are

-- ---- whose head may change

-- with no endpoint
never-with : (b : Bool) → (b && false) ≡ false
never-with true = refl
never-with false = refl

-- elsewhere a test passes as before, where it changes only with what moves
elsewhere : (at e : Endpoint) (moved : Bool) (was is : Bool) → (moved ≡ false → is ≡ was) → (cond moved (Some at) None ≡ Some e → ⊥) → (is && same_endpoint at e) ≡ (was && same_endpoint at e)
elsewhere at e false was is keeps other = ap (λ (b : Bool). b && same_endpoint at e) (keeps refl)
elsewhere at e true was is keeps other = go (same_endpoint at e) refl
  where
    go : (b : Bool) → same_endpoint at e ≡ b → (is && b) ≡ (was && b)
    go true f = absurd (other (ap (λ (d : Endpoint). Some d) (Tells-endpoint.only at e f)))
    go false f = never-with is ∙ sym (never-with was)

-- what doesn't move is sent as before
unmoved-sent : (queued was is : Bool) → (queued || cond was (not is) is) ≡ false → is ≡ was
unmoved-sent true was is e = absurd cc
unmoved-sent false true true e = refl
unmoved-sent false true false e = absurd cc
unmoved-sent false false is e = e

-- and doesn't wait
unmoved-queued : (queued other : Bool) → (queued || other) ≡ false → false ≡ queued
unmoved-queued true other e = absurd cc
unmoved-queued false other e = refl

-- an exchange that changes leaves other endpoints as they are
head_may_change_at-stays : (change : Option Transition) (o : Option Exchange) → Allows (λ c x. is_queued (after_transition c x) ≡ false) change o → StaysElsewhere (head_may_change_at change o) o (updated after_transition change o)
head_may_change_at-stays None None off = λ e other. (refl, refl)
head_may_change_at-stays (Some c) None off = λ e other. (refl, refl)
head_may_change_at-stays None (Some x) off = λ e other. (
  elsewhere x.key.target.at e (is_moved None x) (is_sent x) false (unmoved-sent (is_queued x) (is_sent x) false) other,
  elsewhere x.key.target.at e (is_moved None x) (is_queued x) false (unmoved-queued (is_queued x) _) other,
)
head_may_change_at-stays (Some c) (Some x) off = λ e other. (
  ap (λ (b : Bool). b && same_endpoint (after_transition c x).key.target.at e) (sends-is c x) ∙ ap (λ (d : Endpoint). is_sent_after c (is_sent x) && same_endpoint d e) (endpoint-after c x) ∙ elsewhere x.key.target.at e (is_moved (Some c) x) (is_sent x) (is_sent_after c (is_sent x)) (unmoved-sent (is_queued x) (is_sent x) (is_sent_after c (is_sent x))) other,
  ap (λ (b : Bool). b && same_endpoint (after_transition c x).key.target.at e) off ∙ elsewhere x.key.target.at e (is_moved (Some c) x) (is_queued x) false (unmoved-queued (is_queued x) _) other,
)

-- how many are sent to its endpoint is how many are sent to where the head may change
pub head_may_change_at-sent : (change : Option Transition) (o : Option Exchange) (sent : ℕ) (xs : List (Numbered Exchange)) (endpoints : Endpoints) → AreCounted xs endpoints → IfSome o (λ x. sent ≡ sent_in endpoints x.key.target.at) → IfSome (head_may_change_at change o) (λ at. sent ≡ count (is_sent_to at) xs)
head_may_change_at-sent change None sent xs endpoints are is = tt
head_may_change_at-sent change (Some x) sent xs endpoints are is = go (is_moved change x)
  where
    go : (b : Bool) → IfSome (cond b (Some x.key.target.at) None) (λ at. sent ≡ count (is_sent_to at) xs)
    go true = is ∙ are.sent x.key.target.at
    go false = tt

-- ---- exchanges

module _ (n : ℕ) where
  -- what may be updated can be changed so
  pub updatable : (change : Option Transition) (xs : List (Numbered Exchange)) (queued : ℕ) → AreExchanges xs queued → CanUpdate change (item_at n xs) → Allows CanChange change (item_at n xs)
  updatable None xs queued are can = tt
  updatable (Some c) xs queued are can = changeable n c xs queued are can.0 can.1

  -- a change leaves no exchange waiting for its turn
  pub never-queued : (change : Option Transition) (o : Option Exchange) → CanUpdate change o → Allows (λ c x. is_queued (after_transition c x) ≡ false) change o
  never-queued None o can = tt
  never-queued (Some c) o can = can.2

  -- nor is one then that is gone
  pub updated-off : (change : Option Transition) (xs : List (Numbered Exchange)) → CanUpdate change (item_at n xs) → passes is_queued (item_at n (updated_at after_transition change n xs)) ≡ false
  updated-off None xs can = without-off n xs
  updated-off (Some c) xs can = changed-off n (after_transition c) xs can.2

  -- the heads stay elsewhere than where one may change
  pub stays-updated : (change : Option Transition) (xs : List (Numbered Exchange)) → CanUpdate change (item_at n xs) → StaysElsewhere (head_may_change_at change (item_at n xs)) (item_at n xs) (item_at n (updated_at after_transition change n xs))
  stays-updated change xs can = subst (StaysElsewhere (head_may_change_at change (item_at n xs)) (item_at n xs)) (sym (updated-at after_transition n change xs)) (head_may_change_at-stays change (item_at n xs) (never-queued change (item_at n xs) can))

  module _ (t : Table Exchange) (is : IsTable t) where
    -- what is there was there, and was admitted at the same moment
    pub kept-updated : (change : Option Transition) → AreKept t.items (updated_at after_transition change n t.items)
    kept-updated None = kept-without n t.items (moves-without n t is)
    kept-updated (Some c) = kept-changed n (after_transition c) t.items (admitted-after c) (moves-changed n (after_transition c) t is)

    -- moments and timeouts stay in range, and as many wait for their turn as are counted
    pub exchanges-updated : (change : Option Transition) (queued fewer : ℕ) → AreExchanges t.items queued → CanUpdate change (item_at n t.items) → fewer + one_if (passes is_queued (item_at n t.items)) ≡ queued → AreExchanges (updated_at after_transition change n t.items) fewer
    exchanges-updated None queued fewer are can counted = exchanges-without n t.items queued fewer t refl is are counted
    exchanges-updated (Some c) queued fewer are can counted = exchanges-changed n c t.items queued fewer t refl is are can.0 can.2 counted

    -- what is counted of one kind by endpoint is what there is
    recounted-updated : (test : Endpoint → Exchange → Bool) (old new : Endpoint → ℕ) (change : Option Transition) → ((e : Endpoint) → old e ≡ count (test e) t.items) → IsRecounted test old new (item_at n t.items) (updated after_transition change (item_at n t.items)) → (e : Endpoint) → new e ≡ count (test e) (updated_at after_transition change n t.items)
    recounted-updated test old new change are recounted e =
        let moved = (moves-updated after_transition n t is change).counts (test e) in
        let then : one_if (passes (test e) (item_at n (updated_at after_transition change n t.items))) ≡ one_if (passes (test e) (updated after_transition change (item_at n t.items))) = ap (λ (o : Option Exchange). one_if (passes (test e) o)) (updated-at after_transition n change t.items) in
        omega (arith, are e, recounted e, moved, then)

    -- and of all kinds
    pub counted-updated : (change : Option Transition) (old new : Endpoints) → AreCounted t.items old
        → IsRecounted is_with (open_in old) (open_in new) (item_at n t.items) (updated after_transition change (item_at n t.items))
        → IsRecounted is_sent_to (sent_in old) (sent_in new) (item_at n t.items) (updated after_transition change (item_at n t.items))
        → IsRecounted is_queued_to (queued_in old) (queued_in new) (item_at n t.items) (updated after_transition change (item_at n t.items))
        → AreCounted (updated_at after_transition change n t.items) new
    counted-updated change old new are all sent queued = record {
      all = recounted-updated is_with (open_in old) (open_in new) change are.all all;
      sent = recounted-updated is_sent_to (sent_in old) (sent_in new) change are.sent sent;
      queued = recounted-updated is_queued_to (queued_in old) (queued_in new) change are.queued queued;
    }
