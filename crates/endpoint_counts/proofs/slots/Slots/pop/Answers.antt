use Rattle.std.proofs.Common.{◌∙◌, ◌-◌, ℕ, List, ap, take}
use Rattle.endpoint_counts.specs.declared.slots.Entry.{Entry}
use Rattle.endpoint_counts.specs.Slots.{slots_of}
use Rattle.coap_pending.specs.Table.{Table, withdrawn}
use Rattle.endpoint_counts.proofs.Slotting.{slots-pop}
use Rattle.endpoint_counts.proofs.slots.Slots.pop.Goals as goal

pub returns : goal.returns
returns c =
    let rest = c.truncate.ensures.items ∙ ap (λ (n : ℕ). take n c.self.inside.entries.items) (c.saturating_sub.ensures ∙ ap (λ (n : ℕ). n - 1) (c.len-len.ensures ∙ c.self.invariant.0)) in
    ap (λ (l : List Entry). slots_of l c.self.inside.limit) rest ∙ slots-pop c.self.inside.entries.items c.self.inside.limit ∙ ap (λ (t : Table Entry). withdrawn t) c.self.view_is
