-- What a table of exchanges keeps, as exchanges come, change and go.
use Rattle.std.proofs.Common.{◌≡◌, ℕ, ◌+◌, ◌≤◌, ◌^◌, List, [], ◌∷◌, ◌++◌, Bool, true, false, Option, Some, None, refl, sym, ◌∙◌, arith}
use Rattle.std.proofs.lemmas.Bool.{leb-true}
use Rattle.std.specs.Prelude.{IfSome, if◌then◌else◌}
use Rattle.coap_endpoint.specs.declared.target.Target.{Target}
use Rattle.coap_pending.specs.declared.exchange.Exchange.{Exchange}
use Rattle.coap_pending.specs.declared.exchange.Transition.{Transition}
use Rattle.coap_pending.specs.declared.exchange.Transition.TheVariants as transition
use Rattle.coap_pending.specs.declared.exchange.Sending.{Sending}
use Rattle.coap_pending.specs.Exchanges.{after_transition, fired_option, is_changed_with, is_queued, is_timely, tainted_by, AreExchanges, CanChange, CanFire, HasEnded, IsFireDue, IsSendingShort}
use Rattle.coap_pending.specs.Table.{Numbered, Table, IsTable, item_at, without, changed_at, all_changed, passes}
use Rattle.coap_pending.proofs.Schedule.{fired-short, first-short, short-bound}
use Rattle.coap_pending.proofs.Counts.{one_if, count-push, count-changed_at, count-all_changed, count-without, all-at, all-push, all-changed_at, all-all_changed, all-without}

-- its moment is no greater than moments are
abbrev IsTimely : Exchange → Type 0
IsTimely x = x.admitted ≤ 2 ^ 62

-- a change leaves the moment of admission
keeps-timely : (ch : Transition) (x : Exchange) → IsTimely x → IsTimely (after_transition ch x)
keeps-timely (transition.Send s) x t = t
keeps-timely (transition.Fire now) x t = t
keeps-timely transition.Acknowledge x t = t
keeps-timely (transition.Answer a) x t = t

-- the timeout that runs is no longer than timeouts come to be
abbrev HasShort : Exchange → Type 0
HasShort x = IsSendingShort x.sending

-- a firing leaves a timer short
fired-some : (now : ℕ) (o : Option Sending) → IsSendingShort o → IsSendingShort (fired_option now o)
fired-some now None s = tt
fired-some now (Some sending) s = fired-short now sending.timer s

-- so a change does
keeps-short : (ch : Transition) → is_timely ch ≡ true → (x : Exchange) → HasShort x → HasShort (after_transition ch x)
keeps-short (transition.Send s) timely x t = first-short s.timer (leb-true s.timer.timeout 3000 timely)
keeps-short (transition.Fire now) timely x t = fired-some now x.sending t
keeps-short transition.Acknowledge timely x t = t
keeps-short (transition.Answer a) timely x t = t

-- a timer that has ended can fire
can-fire : (now : ℕ) (o : Option Sending) → HasEnded now o → IsSendingShort o → CanFire now o
can-fire now None ended s = tt
can-fire now (Some sending) ended s = (ended, short-bound sending.timer s)

-- who is in the table, and is due where its timer is fired, can be changed
can-change : (ch : Transition) (o : Option Exchange) → is_timely ch ≡ true → IsFireDue ch o → IfSome o HasShort → IfSome o (CanChange ch)
can-change ch None timely due s = tt
can-change (transition.Send sending) (Some x) timely due s = tt
can-change (transition.Fire now) (Some x) timely due s = (leb-true now (2 ^ 62) timely, can-fire now x.sending due.1 s)
can-change transition.Acknowledge (Some x) timely due s = tt
can-change (transition.Answer a) (Some x) timely due s = tt

-- what may change can
pub changeable : (n : ℕ) (ch : Transition) (xs : List (Numbered Exchange)) (queued : ℕ) → AreExchanges xs queued → is_timely ch ≡ true → IsFireDue ch (item_at n xs) → IfSome (item_at n xs) (CanChange ch)
changeable n ch xs queued are timely due = can-change ch (item_at n xs) timely due (all-at HasShort n xs are.short)

-- one is changed, and is not queued then
pub exchanges-changed : (n : ℕ) (ch : Transition) (xs : List (Numbered Exchange)) (queued more : ℕ) → (t : Table Exchange) → t.items ≡ xs → IsTable t → AreExchanges xs queued → is_timely ch ≡ true
    → IfSome (item_at n xs) (λ x. is_queued (after_transition ch x) ≡ false) → more + one_if (passes is_queued (item_at n xs)) ≡ queued → AreExchanges (changed_at n (after_transition ch) xs) more
exchanges-changed n ch xs queued more t same is are timely off fewer =
    let rising = rw same at is.rising in
    let counted = count-changed_at is_queued n 0 (after_transition ch) xs rising off in
    let q = are.queued in
    record {
      queued = omega arith;
      timely = all-changed_at IsTimely n (after_transition ch) xs (keeps-timely ch) are.timely;
      short = all-changed_at HasShort n (after_transition ch) xs (keeps-short ch timely) are.short;
    }

-- one is taken out
pub exchanges-without : (n : ℕ) (xs : List (Numbered Exchange)) (queued more : ℕ) → (t : Table Exchange) → t.items ≡ xs → IsTable t → AreExchanges xs queued
    → more + one_if (passes is_queued (item_at n xs)) ≡ queued → AreExchanges (without n xs) more
exchanges-without n xs queued more t same is are fewer =
    let rising = rw same at is.rising in
    let counted = count-without is_queued n 0 xs rising in
    let q = are.queued in
    record { queued = omega arith; timely = all-without IsTimely n xs are.timely; short = all-without HasShort n xs are.short }

-- a queued one is taken in
pub exchanges-push : (xs : List (Numbered Exchange)) (queued : ℕ) (x : Numbered Exchange) → is_queued x.1 ≡ true → x.1.admitted ≤ 2 ^ 62 → x.1.sending ≡ None → AreExchanges xs queued → AreExchanges (xs ++ x ∷ []) (queued + 1)
exchanges-push xs queued x is timely unsent are =
    let counted = rw is at (count-push is_queued xs x) in
    let q = are.queued in
    let short : HasShort x.1 = rw unsent tt in
    record { queued = omega arith; timely = all-push IsTimely xs x are.timely timely; short = all-push HasShort xs x are.short short }

-- a taint leaves what waits
taint-queued : (target : Target) (x : Exchange) → is_queued (tainted_by target x) ≡ is_queued x
taint-queued target x = go (is_changed_with target x)
  where
    go : (b : Bool) → is_queued (if b then record x { tainted = true } else x) ≡ is_queued x
    go true = refl
    go false = refl

-- and the moment of admission
taint-timely : (target : Target) (x : Exchange) → IsTimely x → IsTimely (tainted_by target x)
taint-timely target x t = go (is_changed_with target x)
  where
    go : (b : Bool) → IsTimely (if b then record x { tainted = true } else x)
    go true = t
    go false = t

-- and the timer
taint-short : (target : Target) (x : Exchange) → HasShort x → HasShort (tainted_by target x)
taint-short target x t = go (is_changed_with target x)
  where
    go : (b : Bool) → HasShort (if b then record x { tainted = true } else x)
    go true = t
    go false = t

-- all are tainted
pub exchanges-tainted : (target : Target) (xs : List (Numbered Exchange)) (queued : ℕ) → AreExchanges xs queued → AreExchanges (all_changed (tainted_by target) xs) queued
exchanges-tainted target xs queued are =
    record {
      queued = are.queued ∙ sym (count-all_changed is_queued (tainted_by target) xs (taint-queued target));
      timely = all-all_changed IsTimely (tainted_by target) xs (taint-timely target) are.timely;
      short = all-all_changed HasShort (tainted_by target) xs (taint-short target) are.short;
    }
