use Rattle.std.proofs.Common.{◌≡◌, true, subst, sym}
use Rattle.endpoint_counts.specs.Slots.{is_entry_of}
use Rattle.endpoint_counts.specs.declared.slots.Entry.{Entry}
use Rattle.coap_pending.specs.Table.{Table, item_at, passes}
use Rattle.endpoint_counts.proofs.Slotting.{only-place}
use Rattle.endpoint_counts.proofs.endpoint_map.EndpointMap.place_of.Goals as goal

pub returns-then-is_at : goal.returns-then-is_at
returns-then-is_at c =
    let on : passes (is_entry_of c.args.at) (item_at c.self.inside.last c.self.inside.slots.items) ≡ true = subst (λ (t : Table Entry). passes (is_entry_of c.args.at) (item_at c.self.inside.last t.items) ≡ true) (sym c.self.view_is) (sym c.if-is_at.ensures.exact) in
    record { exact = rw (← c.self.view_is) (sym (only-place c.args.at c.self.inside.slots.items c.self.inside.last c.self.invariant.2.rising c.self.invariant.1 on)) }
