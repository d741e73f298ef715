use Rattle.std.proofs.Common.{◌≡◌, ◌+◌, ◌<◌, ◌∙◌, ◌∷◌, [], List, ap, length, arith, length-append}
use Rattle.endpoint_counts.specs.declared.slots.Entry.{Entry}
use Rattle.endpoint_counts.specs.Slots.{slots_of}
use Rattle.coap_pending.specs.Table.{Table, admitted_to}
use Rattle.endpoint_counts.proofs.Slotting.{numbered-length, slots-push}
use Rattle.endpoint_counts.proofs.slots.Slots.push.Goals as goal

pub push_reserved-requires : goal.push_reserved-requires
push_reserved-requires c =
    let room : length c.self.inside.entries.items < c.self.inside.limit = (let all = numbered-length 0 c.self.inside.entries.items in let given = rw (← c.self.view_is) at c.requires in omega arith) in
    omega (arith, room, c.self.invariant.0, c.self.invariant.2)

pub invariant_of-self : goal.invariant_of-self
invariant_of-self c =
    let room : length c.self.inside.entries.items < c.self.inside.limit = (let all = numbered-length 0 c.self.inside.entries.items in let given = rw (← c.self.view_is) at c.requires in omega arith) in
    let many : length c.push_reserved.new.self.items ≡ length c.self.inside.entries.items + 1 = ap length c.push_reserved.ensures.items ∙ length-append c.self.inside.entries.items (c.args.entry ∷ []) in (
      omega (arith, many, c.push_reserved.ensures.len, c.self.invariant.0),
      omega (arith, many, room),
      omega (arith, c.push_reserved.ensures.capacity, c.self.invariant.2),
    )

pub returns : goal.returns
returns c = ap (λ (l : List Entry). slots_of l c.self.inside.limit) c.push_reserved.ensures.items ∙ slots-push c.self.inside.entries.items c.args.entry c.self.inside.limit ∙ ap (λ (t : Table Entry). admitted_to c.args.entry t) c.self.view_is
