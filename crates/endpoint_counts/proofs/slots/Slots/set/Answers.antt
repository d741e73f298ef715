use Rattle.std.proofs.Common.{◌∙◌, ap}
use Rattle.endpoint_counts.specs.declared.slots.Entry.{Entry}
use Rattle.coap_pending.specs.Table.{Table, changed_at}
use Rattle.endpoint_counts.proofs.Slotting.{slots-set}
use Rattle.endpoint_counts.proofs.slots.Slots.set.Goals as goal

pub returns : goal.returns
returns c = slots-set c.self.inside.entries.items c.args.number c.args.entry c.self.inside.limit c.requires.first (rw (← c.self.view_is) at c.requires.last) ∙ ap (λ (t : Table Entry). record t { items = changed_at c.args.number (λ e. c.args.entry) t.items }) c.self.view_is
