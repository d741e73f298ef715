use Rattle.std.proofs.Common.{◌≡◌, ℕ, ◌∙◌, Bool, true, false, Some, None, ap, refl, subst, sym, cond, arith}
use Rattle.coap_endpoint.specs.declared.endpoint.Endpoint.{Endpoint}
use Rattle.endpoint_counts.specs.declared.slots.Entry.{Entry}
use Rattle.endpoint_counts.specs.Digests.{digest_of_endpoint}
use Rattle.endpoint_counts.specs.Endpoints.{is_one}
use Rattle.endpoint_counts.specs.IndexOf.{HasRekeyed}
use Rattle.endpoint_counts.specs.Slots.{found, is_entry_of}
use Rattle.coap_pending.specs.Table.{Table, changed_at, first_that, item_at, withdrawn}
use Rattle.endpoint_counts.proofs.EndpointMaps.{are-some, few-pairs, given, map-less, owns}
use Rattle.endpoint_counts.proofs.Orders.{one-only, one-same}
use Rattle.endpoint_counts.proofs.Slotting.{first-none}
use Rattle.endpoint_counts.proofs.endpoint_map.EndpointMap.remove.Goals as goal

pub returns-in_default-clause-exact : goal.returns-in_default-clause-exact
returns-in_default-clause-exact c = λ e. go e (is_one c.args.at e) refl
  where
    none : found c.args.at c.args.self.now.items ≡ None
    none = ap (λ (t : Table Entry). found c.args.at t.items) (sym c.self.view_is) ∙ first-none c.args.at c.self.inside.slots.items c.self.invariant.2.rising (ap (λ (t : Table Entry). first_that (is_entry_of c.args.at) t.items) c.self.view_is ∙ sym c.requires.place ∙ c.in_default.is)

    go : (e : Endpoint) (b : Bool) → is_one c.args.at e ≡ b → found e c.args.self.now.items ≡ cond b None (found e c.args.self.now.items)
    go e true f = subst (λ (z : Endpoint). found z c.args.self.now.items ≡ None) (one-only c.args.at e f) none
    go e false f = refl

pub unreachable-requires : goal.unreachable-requires
unreachable-requires c = are-some c.self.inside.slots c.self.invariant.2 c.self.inside.places c.self.invariant.0 c.self.invariant.1 c.args.at c.in-Some.number (ap (λ (t : Table Entry). first_that (is_entry_of c.args.at) t.items) c.self.view_is ∙ sym c.requires.place ∙ c.in-Some.is) (c.in_default-last.ensures).none

pub rekey-requires-clause-was : goal.rekey-requires-clause-was
rekey-requires-clause-was c = rw c.digest.ensures.exact (owns c.self.inside.slots c.self.invariant.2 c.self.inside.places c.self.invariant.0 c.self.invariant.1 c.args.at c.in-Some.number (ap (λ (t : Table Entry). first_that (is_entry_of c.args.at) t.items) c.self.view_is ∙ sym c.requires.place ∙ c.in-Some.is))

pub rekey-requires-clause-room : goal.rekey-requires-clause-room
rekey-requires-clause-room c = omega (arith, few-pairs c.self.inside.slots c.self.invariant.2 c.self.inside.places c.self.invariant.0 c.self.invariant.1 c.args.at, c.self.invariant.0.limit, c.self.invariant.2.within)

pub set-requires-clause-first : goal.set-requires-clause-first
set-requires-clause-first c = (given c.self.inside.slots c.self.invariant.2 c.self.inside.places c.self.invariant.0 c.self.invariant.1 c.args.at c.in-Some.number (ap (λ (t : Table Entry). first_that (is_entry_of c.args.at) t.items) c.self.view_is ∙ sym c.requires.place ∙ c.in-Some.is)).0

pub set-requires-clause-last : goal.set-requires-clause-last
set-requires-clause-last c = (given c.self.inside.slots c.self.invariant.2 c.self.inside.places c.self.invariant.0 c.self.invariant.1 c.args.at c.in-Some.number (ap (λ (t : Table Entry). first_that (is_entry_of c.args.at) t.items) c.self.view_is ∙ sym c.requires.place ∙ c.in-Some.is)).1

pub rekey-requires-2-clause-room : goal.rekey-requires-2-clause-room
rekey-requires-2-clause-room c = omega (arith, few-pairs c.self.inside.slots c.self.invariant.2 c.self.inside.places c.self.invariant.0 c.self.invariant.1 c.args.at, c.self.invariant.0.limit, c.self.invariant.2.within, c.rekey.ensures.length, c.rekey.ensures.limit)

-- the last entry
end : (c : goal.After-pop) → item_at c.self.inside.slots.admitted c.self.inside.slots.items ≡ Some c.in-Some-last.moved
end c = sym c.last.ensures.exact ∙ c.in-Some-last.is

-- its key comes to the place of the entry that goes
one : (c : goal.After-pop) → HasRekeyed c.self.inside.places c.rekey.new.self c.in-Some.number (Some (digest_of_endpoint c.args.at)) (Some (digest_of_endpoint c.in-Some-last.moved.peer))
one c = subst (λ (d : ℕ). HasRekeyed c.self.inside.places c.rekey.new.self c.in-Some.number (Some d) (Some (digest_of_endpoint c.in-Some-last.moved.peer))) c.digest.ensures.exact (subst (λ (d : ℕ). HasRekeyed c.self.inside.places c.rekey.new.self c.in-Some.number (Some c.digest.result) (Some d)) c.digest-2.ensures.exact (record { limit = c.rekey.ensures.limit; seed = c.rekey.ensures.seed; length = c.rekey.ensures.length; rekeyed = c.rekey.ensures.rekeyed }))

-- and leaves its own
two : (c : goal.After-pop) → HasRekeyed c.rekey.new.self c.rekey-2.new.self c.self.inside.slots.admitted (Some (digest_of_endpoint c.in-Some-last.moved.peer)) None
two c = subst (λ (d : ℕ). HasRekeyed c.rekey.new.self c.rekey-2.new.self c.self.inside.slots.admitted (Some d) None) c.digest-3.ensures.exact (subst (λ (n : ℕ). HasRekeyed c.rekey.new.self c.rekey-2.new.self n (Some c.digest-3.result) None) c.len-last.ensures.exact (record { limit = c.rekey-2.ensures.limit; seed = c.rekey-2.ensures.seed; length = c.rekey-2.ensures.length; rekeyed = c.rekey-2.ensures.rekeyed }))

-- the entries without the one that goes
rest : (c : goal.After-pop) → c.pop.new.self ≡ withdrawn (record c.self.inside.slots { items = changed_at c.in-Some.number (λ e. c.in-Some-last.moved) c.self.inside.slots.items })
rest c = c.pop.ensures ∙ ap (λ (t : Table Entry). withdrawn t) c.set.ensures

pub invariant_of-self : goal.invariant_of-self
invariant_of-self c =
    let all = map-less c.self.inside.slots c.self.invariant.2 c.self.inside.places c.self.invariant.0 c.self.invariant.1 c.args.at c.in-Some.number (ap (λ (t : Table Entry). first_that (is_entry_of c.args.at) t.items) c.self.view_is ∙ sym c.requires.place ∙ c.in-Some.is) c.in-Some-last.moved (end c) c.rekey.new.self c.rekey-2.new.self (one c) (two c) c.self.invariant.3 in
    rw (rest c) (all.0, all.1, all.2, all.3, tt)

pub returns-clause-exact : goal.returns-clause-exact
returns-clause-exact c = λ e.
    ap (λ (t : Table Entry). found e t.items) (rest c)
    ∙ (map-less c.self.inside.slots c.self.invariant.2 c.self.inside.places c.self.invariant.0 c.self.invariant.1 c.args.at c.in-Some.number (ap (λ (t : Table Entry). first_that (is_entry_of c.args.at) t.items) c.self.view_is ∙ sym c.requires.place ∙ c.in-Some.is) c.in-Some-last.moved (end c) c.rekey.new.self c.rekey-2.new.self (one c) (two c) c.self.invariant.3).4 e
    ∙ ap (λ (b : Bool). cond b None (found e c.self.inside.slots.items)) (sym (one-same c.args.at e))
    ∙ ap (λ (t : Table Entry). cond (is_one c.args.at e) None (found e t.items)) c.self.view_is
