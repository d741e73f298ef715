use Rattle.std.proofs.Common.{◌∙◌, refl, subst, sym}
use Rattle.coap_pending.specs.declared.waiter.Waiter.{Waiter}
use Rattle.coap_pending.specs.Table.{Table, item_at}
use Rattle.coap_exchange.specs.Updates.{updated_at}
use Rattle.coap_pending.specs.Waiters.{after_transition, CanUpdate}
use Rattle.coap_exchange.proofs.Steps.{step-updated, keys-can-pass, keys-passed}
use Rattle.coap_exchange.proofs.Updating.{of_clients-updated, updated-at, updated-is, within-updated}
use Rattle.coap_exchange.proofs.WaiterUpdating.{client-after, updatable, waiters-updated}
use Rattle.coap_exchange.proofs.waiters.Waiters.update.Goals as goal

pub update-is-requires : goal.update-is-requires
update-is-requires c =
    updatable c.args.number c.args.change c.self.inside.table.items c.self.invariant.0.short (subst (λ (t : Table Waiter). CanUpdate c.args.change (item_at c.args.number t.items)) (sym c.self.view_is) c.requires)

pub rekey-requires : goal.rekey-requires
rekey-requires c =
    let n = c.args.number in
    let t = c.self.inside.table in
    rw (c.waiter_keys_in-was.ensures.exact, c.get-found.ensures.exact, c.update-is.ensures.keys)
    (keys-can-pass n t (record t { items = updated_at after_transition c.args.change n t.items }) (step-updated t c.get-found.ensures.sound after_transition c.args.change n) c.self.inside.index c.self.invariant.1 _ _ refl (updated-at after_transition n c.args.change t.items))

pub invariant_of-self : goal.invariant_of-self
invariant_of-self c =
    let can : CanUpdate c.args.change (item_at c.args.number c.self.inside.table.items) = subst (λ (t : Table Waiter). CanUpdate c.args.change (item_at c.args.number t.items)) (sym c.self.view_is) c.requires in
    let n = c.args.number in
    let t = c.self.inside.table in
    let is = c.get-found.ensures.sound in
    let passed = rw (c.waiter_keys_in-was.ensures.exact, c.get-found.ensures.exact, c.update-is.ensures.keys) at c.rekey.ensures.exact in
    rw c.update-is.ensures.updated (
      waiters-updated n t is c.args.change c.self.inside.waiting c.waiting_without-waiting.result c.self.inside.index.awaited.pairs c.rekey.new.self.awaited.pairs c.self.invariant.0 can c.waiting_without-waiting.ensures.fewer passed.counts,
      keys-passed n t (record t { items = updated_at after_transition c.args.change n t.items }) (step-updated t is after_transition c.args.change n) c.self.inside.index c.self.invariant.1 _ _ refl (updated-at after_transition n c.args.change t.items) c.rekey.new.self passed,
      updated-is after_transition n t is c.args.change,
      of_clients-updated after_transition n t is (λ (w : Waiter). w.client) client-after c.args.change c.self.inside.clients c.depart.new.clients (rw (c.client_of_removed.ensures.exact, c.get-found.ensures.exact) at c.depart.ensures.exact) c.self.invariant.3,
      within-updated after_transition n t is (λ (w : Waiter). w.client) client-after c.args.change c.self.invariant.4,
      c.depart.ensures.limit ∙ c.self.invariant.5,
      c.depart.ensures.seed ∙ c.self.invariant.6,
    )
