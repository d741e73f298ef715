use Rattle.std.proofs.Common.{◌≡◌, ℕ, ◌∙◌, ◌+◌, ◌<◌, Bool, Some, None, ap, subst, sym, cond, length, arith}
use Rattle.endpoint_counts.specs.declared.slots.Entry.{Entry}
use Rattle.endpoint_counts.specs.Digests.{digest_of_endpoint}
use Rattle.endpoint_counts.specs.Endpoints.{is_one}
use Rattle.endpoint_counts.specs.IndexOf.{HasRekeyed}
use Rattle.endpoint_counts.specs.Slots.{found, is_entry_of}
use Rattle.coap_pending.specs.Table.{Table, first_that}
use Rattle.endpoint_counts.proofs.EndpointMaps.{few-pairs, fresh-place, given, map-more, map-set}
use Rattle.endpoint_counts.proofs.Orders.{one-same}
use Rattle.endpoint_counts.proofs.Slotting.{first-none}
use Rattle.endpoint_counts.proofs.endpoint_map.EndpointMap.set.Goals as goal

pub set-requires-clause-first : goal.set-requires-clause-first
set-requires-clause-first c = (given c.self.inside.slots c.self.invariant.2 c.self.inside.places c.self.invariant.0 c.self.invariant.1 c.args.at c.in-Some.number (ap (λ (t : Table Entry). first_that (is_entry_of c.args.at) t.items) c.self.view_is ∙ sym c.requires.place ∙ c.in-Some.is)).0

pub set-requires-clause-last : goal.set-requires-clause-last
set-requires-clause-last c = (given c.self.inside.slots c.self.invariant.2 c.self.inside.places c.self.invariant.0 c.self.invariant.1 c.args.at c.in-Some.number (ap (λ (t : Table Entry). first_that (is_entry_of c.args.at) t.items) c.self.view_is ∙ sym c.requires.place ∙ c.in-Some.is)).1

pub invariant_of-self : goal.invariant_of-self
invariant_of-self c =
    let all = map-set c.self.inside.slots c.self.invariant.2 c.self.inside.places c.self.invariant.0 c.self.invariant.1 c.args.at c.in-Some.number (ap (λ (t : Table Entry). first_that (is_entry_of c.args.at) t.items) c.self.view_is ∙ sym c.requires.place ∙ c.in-Some.is) c.args.counts c.requires.some c.self.invariant.3 in
    rw c.set.ensures (all.0, all.1, all.2, all.3, tt)

pub returns-in-Some-clause-exact : goal.returns-in-Some-clause-exact
returns-in-Some-clause-exact c = λ e.
    ap (λ (t : Table Entry). found e t.items) c.set.ensures
    ∙ (map-set c.self.inside.slots c.self.invariant.2 c.self.inside.places c.self.invariant.0 c.self.invariant.1 c.args.at c.in-Some.number (ap (λ (t : Table Entry). first_that (is_entry_of c.args.at) t.items) c.self.view_is ∙ sym c.requires.place ∙ c.in-Some.is) c.args.counts c.requires.some c.self.invariant.3).4 e
    ∙ ap (λ (b : Bool). cond b (Some c.args.counts) (found e c.self.inside.slots.items)) (sym (one-same c.args.at e))
    ∙ ap (λ (t : Table Entry). cond (is_one c.args.at e) (Some c.args.counts) (found e t.items)) c.self.view_is

pub overflow_add-number : goal.overflow_add-number
overflow_add-number c =
    let none : found c.args.at c.self.inside.slots.items ≡ None = first-none c.args.at c.self.inside.slots.items c.self.invariant.2.rising (ap (λ (t : Table Entry). first_that (is_entry_of c.args.at) t.items) c.self.view_is ∙ sym c.requires.place ∙ c.in_default.is) in
    let room : length c.self.inside.slots.items < c.self.inside.slots.limit = subst (λ (t : Table Entry). found c.args.at t.items ≡ None → length t.items < t.limit) (sym c.self.view_is) c.requires.room none in
    omega (arith, room, c.len-number.ensures.exact, c.len-number.ensures.all, c.len-number.ensures.fits)

pub rekey-requires-clause-was : goal.rekey-requires-clause-was
rekey-requires-clause-was c = rw c.len-number.ensures.exact (fresh-place c.self.inside.slots c.self.invariant.2 c.self.inside.places c.self.invariant.0 c.self.invariant.1 c.args.at)

pub rekey-requires-clause-room : goal.rekey-requires-clause-room
rekey-requires-clause-room c =
    let none : found c.args.at c.self.inside.slots.items ≡ None = first-none c.args.at c.self.inside.slots.items c.self.invariant.2.rising (ap (λ (t : Table Entry). first_that (is_entry_of c.args.at) t.items) c.self.view_is ∙ sym c.requires.place ∙ c.in_default.is) in
    let room : length c.self.inside.slots.items < c.self.inside.slots.limit = subst (λ (t : Table Entry). found c.args.at t.items ≡ None → length t.items < t.limit) (sym c.self.view_is) c.requires.room none in
    omega (arith, room, few-pairs c.self.inside.slots c.self.invariant.2 c.self.inside.places c.self.invariant.0 c.self.invariant.1 c.args.at, c.self.invariant.0.limit)

pub push-requires : goal.push-requires
push-requires c =
    let none : found c.args.at c.self.inside.slots.items ≡ None = first-none c.args.at c.self.inside.slots.items c.self.invariant.2.rising (ap (λ (t : Table Entry). first_that (is_entry_of c.args.at) t.items) c.self.view_is ∙ sym c.requires.place ∙ c.in_default.is) in
    let room : length c.self.inside.slots.items < c.self.inside.slots.limit = subst (λ (t : Table Entry). found c.args.at t.items ≡ None → length t.items < t.limit) (sym c.self.view_is) c.requires.room none in
    room

-- the entry comes, with its key
comes : (c : goal.After-push) → HasRekeyed c.self.inside.places c.rekey.new.self (c.self.inside.slots.admitted + 1) None (Some (digest_of_endpoint c.args.at))
comes c = subst (λ (d : ℕ). HasRekeyed c.self.inside.places c.rekey.new.self (c.self.inside.slots.admitted + 1) None (Some d)) c.digest.ensures.exact (subst (λ (n : ℕ). HasRekeyed c.self.inside.places c.rekey.new.self (n + 1) None (Some c.digest.result)) c.len-number.ensures.exact (record { limit = c.rekey.ensures.limit; seed = c.rekey.ensures.seed; length = c.rekey.ensures.length; rekeyed = c.rekey.ensures.rekeyed }))

pub invariant_of-self-2 : goal.invariant_of-self-2
invariant_of-self-2 c =
    let none : found c.args.at c.self.inside.slots.items ≡ None = first-none c.args.at c.self.inside.slots.items c.self.invariant.2.rising (ap (λ (t : Table Entry). first_that (is_entry_of c.args.at) t.items) c.self.view_is ∙ sym c.requires.place ∙ c.in_default.is) in
    let room : length c.self.inside.slots.items < c.self.inside.slots.limit = subst (λ (t : Table Entry). found c.args.at t.items ≡ None → length t.items < t.limit) (sym c.self.view_is) c.requires.room none in
    let all = map-more c.self.inside.slots c.self.invariant.2 c.self.inside.places c.self.invariant.0 c.self.invariant.1 c.args.at c.args.counts c.rekey.new.self none room (comes c) c.requires.some c.self.invariant.3 in
    rw c.push.ensures (all.0, all.1, all.2, all.3, tt)

pub returns-clause-exact : goal.returns-clause-exact
returns-clause-exact c = λ e.
    let none : found c.args.at c.self.inside.slots.items ≡ None = first-none c.args.at c.self.inside.slots.items c.self.invariant.2.rising (ap (λ (t : Table Entry). first_that (is_entry_of c.args.at) t.items) c.self.view_is ∙ sym c.requires.place ∙ c.in_default.is) in
    let room : length c.self.inside.slots.items < c.self.inside.slots.limit = subst (λ (t : Table Entry). found c.args.at t.items ≡ None → length t.items < t.limit) (sym c.self.view_is) c.requires.room none in
    ap (λ (t : Table Entry). found e t.items) c.push.ensures
    ∙ (map-more c.self.inside.slots c.self.invariant.2 c.self.inside.places c.self.invariant.0 c.self.invariant.1 c.args.at c.args.counts c.rekey.new.self none room (comes c) c.requires.some c.self.invariant.3).4 e
    ∙ ap (λ (b : Bool). cond b (Some c.args.counts) (found e c.self.inside.slots.items)) (sym (one-same c.args.at e))
    ∙ ap (λ (t : Table Entry). cond (is_one c.args.at e) (Some c.args.counts) (found e t.items)) c.self.view_is
