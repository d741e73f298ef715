use Rattle.std.proofs.Common.{◌≡◌, ℕ, Some, None, false, true, rules, subst, sym, arith}
use Rattle.ordered_index.specs.Ordered.{IsNextOf}
use Rattle.endpoint_counts.specs.Digests.{digest_of_endpoint}
use Rattle.endpoint_counts.specs.Slots.{entry_key, is_entry_of}
use Rattle.endpoint_counts.specs.declared.slots.Entry.{Entry}
use Rattle.coap_pending.specs.Table.{Table, item_at, passes}
use Rattle.endpoint_counts.proofs.Firsts.{none-start, none-next, first-found, first-missing}
use Rattle.endpoint_counts.proofs.Slotting.{other-key}
use Rattle.endpoint_counts.proofs.endpoint_map.EndpointMap.place_by_digest.Goals as goal

pub loop-number-init : goal.loop-number-init
loop-number-init c = (omega arith, none-start entry_key (is_entry_of c.args.at) (digest_of_endpoint c.args.at) (other-key c.args.at) c.self.inside.slots c.self.inside.places c.self.invariant.2 c.self.invariant.0)

pub returns-then-is_at : goal.returns-then-is_at
returns-then-is_at c =
    let next : IsNextOf (digest_of_endpoint c.args.at) c.loop-number.after c.self.inside.places.pairs (Some c.in-Some.number) = subst (λ (o : ℕ). IsNextOf o c.loop-number.after c.self.inside.places.pairs (Some c.in-Some.number)) c.digest.ensures.exact c.in-Some.ensures.exact in
    let on : passes (is_entry_of c.args.at) (item_at c.in-Some.number c.self.inside.slots.items) ≡ true = subst (λ (t : Table Entry). passes (is_entry_of c.args.at) (item_at c.in-Some.number t.items) ≡ true) (sym c.self.view_is) (sym c.if-is_at.ensures.exact) in
    record { exact = rw (← c.self.view_is) (sym (first-found entry_key (is_entry_of c.args.at) (digest_of_endpoint c.args.at) (other-key c.args.at) c.self.inside.slots c.self.inside.places c.self.invariant.2 c.self.invariant.0 c.loop-number.after c.in-Some.number c.loop-number.invariant.1 next on)) }

pub loop-number-preserved : goal.loop-number-preserved
loop-number-preserved c =
    let next : IsNextOf (digest_of_endpoint c.args.at) c.loop-number.after c.self.inside.places.pairs (Some c.in-Some.number) = subst (λ (o : ℕ). IsNextOf o c.loop-number.after c.self.inside.places.pairs (Some c.in-Some.number)) c.digest.ensures.exact c.in-Some.ensures.exact in
    let off : passes (is_entry_of c.args.at) (item_at c.in-Some.number c.self.inside.slots.items) ≡ false = subst (λ (t : Table Entry). passes (is_entry_of c.args.at) (item_at c.in-Some.number t.items) ≡ false) (sym c.self.view_is) (sym c.if-is_at.ensures.exact) in
    (search rules, none-next entry_key (is_entry_of c.args.at) (digest_of_endpoint c.args.at) (other-key c.args.at) c.self.inside.slots c.self.inside.places c.self.invariant.2 c.self.invariant.0 c.loop-number.after c.in-Some.number c.loop-number.invariant.1 next off)

pub returns : goal.returns
returns c =
    let next : IsNextOf (digest_of_endpoint c.args.at) c.loop-number.after c.self.inside.places.pairs None = subst (λ (o : ℕ). IsNextOf o c.loop-number.after c.self.inside.places.pairs None) c.digest.ensures.exact c.in_default.ensures.exact in
    record { exact = rw (← c.self.view_is) (sym (first-missing entry_key (is_entry_of c.args.at) (digest_of_endpoint c.args.at) (other-key c.args.at) c.self.inside.slots c.self.inside.places c.self.invariant.2 c.self.invariant.0 c.loop-number.after c.loop-number.invariant.1 next)) }
