use Rattle.std.proofs.Common.{◌≡◌, ◌∙◌, Some, ap, sym}
use Rattle.endpoint_counts.specs.declared.slots.Entry.{Entry}
use Rattle.endpoint_counts.specs.Slots.{is_entry_of}
use Rattle.coap_pending.specs.Table.{Table, first_that}
use Rattle.endpoint_counts.proofs.Slotting.{first-none, first-there}
use Rattle.endpoint_counts.proofs.endpoint_map.EndpointMap.get.Goals as goal

pub returns-in_default : goal.returns-in_default
returns-in_default c = record { exact = rw (← c.self.view_is) (sym (first-none c.args.at c.self.inside.slots.items c.self.invariant.2.rising (ap (λ (t : Table Entry). first_that (is_entry_of c.args.at) t.items) c.self.view_is ∙ sym c.requires.place ∙ c.in_default.is))) }

pub returns-in-Some-get : goal.returns-in-Some-get
returns-in-Some-get c =
    let there = first-there c.args.at c.self.inside.slots.items c.in-Some.number c.self.invariant.2.rising (ap (λ (t : Table Entry). first_that (is_entry_of c.args.at) t.items) c.self.view_is ∙ sym c.requires.place ∙ c.in-Some.is) in
    let one : c.in-Some-get.entry ≡ there.0 = (let at = sym c.in-Some-get.is ∙ c.get.ensures.exact ∙ there.1 in cc) in
    record { exact = rw (← c.self.view_is) (ap (λ (e : Entry). Some e.counts) one ∙ sym there.3) }

pub returns-in-None : goal.returns-in-None
returns-in-None c =
    let there = first-there c.args.at c.self.inside.slots.items c.in-Some.number c.self.invariant.2.rising (ap (λ (t : Table Entry). first_that (is_entry_of c.args.at) t.items) c.self.view_is ∙ sym c.requires.place ∙ c.in-Some.is) in
    absurd (let at = sym c.in-None.is ∙ c.get.ensures.exact ∙ there.1 in cc)
