-- What was put into the tables is taken out of them again.
use Rattle.std.proofs.Common.{◌≡◌, ◌∙◌, ◌-◌, ◌+◌, ℕ, Option, Some, None, Result, Ok, Err, ap}
use Rattle.std.specs.Prelude.{OnErr, is_err, true}
use Rattle.coap_pending.specs.declared.exchange.Exchange.{Exchange}
use Rattle.coap_pending.specs.declared.waiter.Waiter.{Waiter}
use Rattle.coap_pending.specs.Table.{Table, IsTable, admitted_to, item_at, withdrawn, withdrawn_at, without}
use Rattle.coap_pending.proofs.Tables.{withdrawn-admitted}
use Rattle.coap_model.specs.State.{State}

-- what holds if a call failed holds if it did
pub err-holds : {T E P : Type 0} (r : Result T E) → is_err r ≡ true → OnErr r P → P
err-holds (Ok x) never p = absurd cc
err-holds (Err e) true-is p = p

-- what holds, holds whatever came of a call
pub on-err : {T E : Type 0} {P : Type 0} (r : Result T E) → P → OnErr r P
on-err (Ok x) p = tt
on-err (Err e) p = p

-- two tables with the same items and numbers have them after a withdrawal, too
both-withdrawn : {A : Type 0} (o : Option A) (t u : Table A) → t.items ≡ u.items → t.admitted ≡ u.admitted → ((withdrawn_at o t).items ≡ (withdrawn_at o u).items) × ((withdrawn_at o t).admitted ≡ (withdrawn_at o u).admitted)
both-withdrawn None t u e f = (e, f)
both-withdrawn (Some a) t u e f = (λ i. without (f i) (e i), λ i. f i - 1)

-- a table that has the items and the number of another after an admission has those of the other
-- after a withdrawal
pub withdrawn-as : {A : Type 0} (t before : Table A) (item : A) → IsTable before → t.items ≡ (admitted_to item before).items → t.admitted ≡ before.admitted + 1 → ((withdrawn t).items ≡ before.items) × ((withdrawn t).admitted ≡ before.admitted)
withdrawn-as {A} t before item is e f =
    let u : Table A = admitted_to item before in
    let both = both-withdrawn (item_at t.admitted t.items) t u e f in
    let back : withdrawn_at (item_at t.admitted t.items) u ≡ before = ap (λ (o : Option A). withdrawn_at o u) (λ i. item_at (f i) (e i)) ∙ withdrawn-admitted before item is in
    (both.0 ∙ ap (λ (x : Table A). x.items) back, both.1 ∙ ap (λ (x : Table A). x.admitted) back)

-- once the last waiter is withdrawn, a state is what it was before that came
pub waiter-undone : (w v : State) (t before : Table Waiter) (item : Waiter) → IsTable before → before.items ≡ w.waiters → before.admitted ≡ w.admitted → v ≡ record w { waiters = (admitted_to item before).items; admitted = before.admitted + 1 } → t.items ≡ v.waiters → t.admitted ≡ v.admitted → record v { waiters = (withdrawn t).items; admitted = (withdrawn t).admitted } ≡ w
waiter-undone w v t before item is items number came own last =
    let left = withdrawn-as t before item is (own ∙ ap (λ (s : State). s.waiters) came) (last ∙ ap (λ (s : State). s.admitted) came) in
    (λ i. record (came i) { waiters = left.0 i; admitted = left.1 i }) ∙ (λ i. record w { waiters = items i; admitted = number i })

-- and once the last exchange is withdrawn
pub exchange-undone : (w v : State) (t before : Table Exchange) (item : Exchange) → IsTable before → before.items ≡ w.exchanges → before.admitted ≡ w.opened → v ≡ record w { exchanges = (admitted_to item before).items; opened = before.admitted + 1 } → t.items ≡ v.exchanges → t.admitted ≡ v.opened → record v { exchanges = (withdrawn t).items; opened = (withdrawn t).admitted } ≡ w
exchange-undone w v t before item is items number came own last =
    let left = withdrawn-as t before item is (own ∙ ap (λ (s : State). s.exchanges) came) (last ∙ ap (λ (s : State). s.opened) came) in
    (λ i. record (came i) { exchanges = left.0 i; opened = left.1 i }) ∙ (λ i. record w { exchanges = items i; opened = number i })
