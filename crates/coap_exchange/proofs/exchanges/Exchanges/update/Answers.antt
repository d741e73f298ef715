use Rattle.std.proofs.Common.{◌∙◌, refl, rules, subst, sym}
use Rattle.coap_pending.specs.declared.exchange.Exchange.{Exchange}
use Rattle.coap_pending.specs.Exchanges.{after_transition, CanUpdate}
use Rattle.coap_exchange.specs.SendQueue.{head_may_change_at}
use Rattle.coap_pending.specs.Table.{Table, item_at}
use Rattle.coap_exchange.specs.Updates.{updated_at}
use Rattle.coap_exchange.proofs.Openers.{client-after}
use Rattle.coap_exchange.proofs.Indexing.{can-pass-as, have-passed-as, spread-passed}
use Rattle.coap_exchange.proofs.Ordering.{send_queue-free, send_queue-moved, send_queue-room}
use Rattle.coap_exchange.proofs.Updating.{counted-updated, exchanges-updated, kept-updated, head_may_change_at-sent, moves-updated, never-queued, of_clients-updated, stays-updated, updatable, updated-at, updated-is, updated-off, within-updated}
use Rattle.coap_exchange.proofs.exchanges.Exchanges.update.Goals as goal

pub recount-sent-requires-clause-queued : goal.recount-sent-requires-clause-queued
recount-sent-requires-clause-queued c =
    never-queued c.args.number c.args.change (item_at c.args.number c.self.inside.table.items) (subst (λ (t : Table Exchange). CanUpdate c.args.change (item_at c.args.number t.items)) (sym c.self.view_is) c.requires)

pub update-is-requires : goal.update-is-requires
update-is-requires c =
    updatable c.args.number c.args.change c.self.inside.table.items c.self.inside.queued c.self.invariant.0 (subst (λ (t : Table Exchange). CanUpdate c.args.change (item_at c.args.number t.items)) (sym c.self.view_is) c.requires)

pub rekey-requires : goal.rekey-requires
rekey-requires c =
    let is = c.get-found.ensures.sound in
    let n = c.args.number in
    let t = c.self.inside.table in
    let ys = updated_at after_transition c.args.change n t.items in
    rw (c.keys_in-was.ensures.exact, c.get-found.ensures.exact, c.update-is.ensures.keys)
    (can-pass-as n t.limit t.items ys c.self.inside.index (moves-updated after_transition n t is c.args.change) c.self.invariant.2 _ _ refl (updated-at after_transition n c.args.change t.items) (updated-is after_transition n t is c.args.change).within)

pub head_of-next-requires-clause-indexed : goal.head_of-next-requires-clause-indexed
head_of-next-requires-clause-indexed c =
    let is = c.get-found.ensures.sound in
    let n = c.args.number in
    let t = c.self.inside.table in
    let ys = updated_at after_transition c.args.change n t.items in
    let passed = rw (c.keys_in-was.ensures.exact, c.get-found.ensures.exact, c.update-is.ensures.keys) at c.rekey.ensures.exact in
    rw c.update-is.ensures.updated (have-passed-as n t.limit t.items ys c.self.inside.index (moves-updated after_transition n t is c.args.change) c.self.invariant.2 _ _ refl (updated-at after_transition n c.args.change t.items) c.rekey.new.self passed (updated-is after_transition n t is c.args.change).rising)

pub replace-requires-clause-free : goal.replace-requires-clause-free
replace-requires-clause-free c =
    let can : CanUpdate c.args.change (item_at c.args.number c.self.inside.table.items) = subst (λ (t : Table Exchange). CanUpdate c.args.change (item_at c.args.number t.items)) (sym c.self.view_is) c.requires in
    let is = c.get-found.ensures.sound in
    let n = c.args.number in
    let t = c.self.inside.table in
    let ys = updated_at after_transition c.args.change n t.items in
    rw (c.head_of-head.ensures.exact, c.head_of-next.ensures.exact, c.head_may_change_at-at.ensures.exact, c.get-found.ensures.exact, c.update-is.ensures.updated)
    (send_queue-free n t.items ys (head_may_change_at c.args.change (item_at n t.items)) (moves-updated after_transition n t is c.args.change) is.rising (updated-is after_transition n t is c.args.change).rising (stays-updated n c.args.change t.items can) c.self.inside.send_queue c.self.invariant.3)

pub replace-requires-clause-room : goal.replace-requires-clause-room
replace-requires-clause-room c =
    let can : CanUpdate c.args.change (item_at c.args.number c.self.inside.table.items) = subst (λ (t : Table Exchange). CanUpdate c.args.change (item_at c.args.number t.items)) (sym c.self.view_is) c.requires in
    let is = c.get-found.ensures.sound in
    let n = c.args.number in
    let t = c.self.inside.table in
    let ys = updated_at after_transition c.args.change n t.items in
    rw (c.head_of-head.ensures.exact, c.head_of-next.ensures.exact, c.head_may_change_at-at.ensures.exact, c.get-found.ensures.exact, c.update-is.ensures.updated)
    (send_queue-room n t.items ys (head_may_change_at c.args.change (item_at n t.items)) (moves-updated after_transition n t is c.args.change) is.rising (updated-is after_transition n t is c.args.change).rising (stays-updated n c.args.change t.items can) c.self.inside.send_queue c.self.invariant.3 (updated-off n c.args.change t.items can))

pub invariant_of-self : goal.invariant_of-self
invariant_of-self c =
    let can : CanUpdate c.args.change (item_at c.args.number c.self.inside.table.items) = subst (λ (t : Table Exchange). CanUpdate c.args.change (item_at c.args.number t.items)) (sym c.self.view_is) c.requires in
    let is = c.get-found.ensures.sound in
    let n = c.args.number in
    let t = c.self.inside.table in
    let ys = updated_at after_transition c.args.change n t.items in
    let moves = moves-updated after_transition n t is c.args.change in
    let rising = (updated-is after_transition n t is c.args.change).rising in
    let passed = rw (c.keys_in-was.ensures.exact, c.get-found.ensures.exact, c.update-is.ensures.keys) at c.rekey.ensures.exact in
    let len = rw (c.head_of-head.ensures.exact, c.head_of-next.ensures.exact, c.head_may_change_at-at.ensures.exact, c.get-found.ensures.exact, c.update-is.ensures.updated) at c.replace.ensures.length in
    let replaced = rw (c.head_of-head.ensures.exact, c.head_of-next.ensures.exact, c.head_may_change_at-at.ensures.exact, c.get-found.ensures.exact, c.update-is.ensures.updated) at c.replace.ensures.replaced in
    rw c.update-is.ensures.updated (
      exchanges-updated n t is c.args.change c.self.inside.queued c.queued_without-queued.result c.self.invariant.0 can c.queued_without-queued.ensures.fewer,
      counted-updated n t is c.args.change c.self.inside.endpoints c.recount-sent.new.endpoints c.self.invariant.1 c.recount-sent.ensures.all c.recount-sent.ensures.sent c.recount-sent.ensures.queued,
      have-passed-as n t.limit t.items ys c.self.inside.index moves c.self.invariant.2 _ _ refl (updated-at after_transition n c.args.change t.items) c.rekey.new.self passed rising,
      send_queue-moved n t.items ys (head_may_change_at c.args.change (item_at n t.items)) moves is.rising rising (stays-updated n c.args.change t.items can) c.self.inside.send_queue c.self.invariant.3 (kept-updated n t is c.args.change) (updated-off n c.args.change t.items can) c.replace.new.self c.replace.ensures.limit len replaced,
      of_clients-updated after_transition n t is (λ (x : Exchange). x.client) client-after c.args.change c.self.inside.clients c.depart.new.clients (rw (c.client_of_removed.ensures.exact, c.get-found.ensures.exact) at c.depart.ensures.exact) c.self.invariant.4,
      within-updated after_transition n t is (λ (x : Exchange). x.client) client-after c.args.change c.self.invariant.5,
      record { for_heads = c.replace.ensures.limit ∙ c.self.invariant.6.for_heads; for_endpoints = c.recount-sent.ensures.limit ∙ c.self.invariant.6.for_endpoints; for_clients = c.depart.ensures.limit ∙ c.self.invariant.6.for_clients },
      record { for_index = spread-passed t.seed n c.self.inside.index c.rekey.new.self _ _ c.self.invariant.7.for_index passed; for_endpoints = c.recount-sent.ensures.seed ∙ c.self.invariant.7.for_endpoints; for_clients = c.depart.ensures.seed ∙ c.self.invariant.7.for_clients },
    )

pub head_of-head-requires-clause-sent : goal.head_of-head-requires-clause-sent
head_of-head-requires-clause-sent c =
    let o = item_at c.args.number c.self.inside.table.items in
    rw (c.head_may_change_at-at.ensures.exact, c.get-found.ensures.exact) (head_may_change_at-sent c.args.change o c.recount-sent.result.was c.self.inside.table.items c.self.inside.endpoints c.self.invariant.1 c.recount-sent.ensures.was)

pub head_of-next-requires-clause-sent : goal.head_of-next-requires-clause-sent
head_of-next-requires-clause-sent c =
    let n = c.args.number in
    let t = c.self.inside.table in
    let counted = counted-updated n t c.get-found.ensures.sound c.args.change c.self.inside.endpoints c.recount-sent.new.endpoints c.self.invariant.1 c.recount-sent.ensures.all c.recount-sent.ensures.sent c.recount-sent.ensures.queued in
    rw (c.head_may_change_at-at.ensures.exact, c.get-found.ensures.exact, c.update-is.ensures.updated) (head_may_change_at-sent c.args.change (item_at n t.items) c.recount-sent.result.is (updated_at after_transition c.args.change n t.items) c.recount-sent.new.endpoints counted c.recount-sent.ensures.is)

pub head_of-head-requires-clause-indexed : goal.head_of-head-requires-clause-indexed
head_of-head-requires-clause-indexed c = c.self.invariant.2

pub queued_without-queued-requires-clause-queued : goal.queued_without-queued-requires-clause-queued
queued_without-queued-requires-clause-queued c = c.self.invariant.0.queued

pub queued_without-queued-requires-clause-found : goal.queued_without-queued-requires-clause-found
queued_without-queued-requires-clause-found c = c.get-found.ensures.exact

pub recount-sent-requires-clause-counted : goal.recount-sent-requires-clause-counted
recount-sent-requires-clause-counted c = c.self.invariant.1

pub recount-sent-requires-clause-found : goal.recount-sent-requires-clause-found
recount-sent-requires-clause-found c = c.get-found.ensures.exact

pub replace-requires-clause-there : goal.replace-requires-clause-there
replace-requires-clause-there c = search rules

pub returns : goal.returns
returns c = search rules

pub head_of-head-requires-clause-queued : goal.head_of-head-requires-clause-queued
head_of-head-requires-clause-queued c = c.self.invariant.0.queued

pub head_of-next-requires-clause-queued : goal.head_of-next-requires-clause-queued
head_of-next-requires-clause-queued c =
    let can : CanUpdate c.args.change (item_at c.args.number c.self.inside.table.items) = subst (λ (t : Table Exchange). CanUpdate c.args.change (item_at c.args.number t.items)) (sym c.self.view_is) c.requires in
    rw c.update-is.ensures.updated (exchanges-updated c.args.number c.self.inside.table c.get-found.ensures.sound c.args.change c.self.inside.queued c.queued_without-queued.result c.self.invariant.0 can c.queued_without-queued.ensures.fewer).queued
