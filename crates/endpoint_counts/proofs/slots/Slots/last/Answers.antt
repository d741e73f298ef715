use Rattle.std.proofs.Common.{◌≡◌, ◌∙◌, ◌-◌, List, [], ap, refl, sym, length, arith}
use Rattle.endpoint_counts.specs.declared.slots.Entry.{Entry}
use Rattle.endpoint_counts.specs.Slots.{numbered}
use Rattle.coap_pending.specs.Table.{Table, item_at}
use Rattle.std.proofs.lemmas.Option.{slice_get_read}
use Rattle.endpoint_counts.proofs.Slotting.{none-of, numbered-at}
use Rattle.endpoint_counts.proofs.slots.Slots.last.Goals as goal

pub returns-then-len-eq0-clause-exact : goal.returns-then-len-eq0-clause-exact
returns-then-len-eq0-clause-exact c =
    let empty : c.self.inside.entries.items ≡ [] = none-of c.self.inside.entries.items (omega (arith, c.self.invariant.0, c.len-len.ensures, c.if-len-eq0.true)) in
    sym (ap (λ (t : Table Entry). item_at t.admitted t.items) (sym c.self.view_is) ∙ ap (λ (l : List Entry). item_at (length l) (numbered 0 l)) empty)

pub returns-then-len-eq0-clause-none : goal.returns-then-len-eq0-clause-none
returns-then-len-eq0-clause-none c =
    let empty : c.self.inside.entries.items ≡ [] = none-of c.self.inside.entries.items (omega (arith, c.self.invariant.0, c.len-len.ensures, c.if-len-eq0.true)) in
    ap (λ (t : Table Entry). t.items) (sym c.self.view_is) ∙ ap (λ (l : List Entry). numbered 0 l) empty

pub returns : goal.returns
returns c = record {
  exact = rw (← c.self.view_is) (sym (numbered-at 0 (c.len-len.result - 1) (length c.self.inside.entries.items) c.self.inside.entries.items (omega (arith, c.len-len.ensures, c.self.invariant.0, c.if-len-eq0.false)) ∙ slice_get_read c.self.inside.entries.items (length c.self.inside.entries.items) (c.len-len.result - 1) c.index.result.now refl (omega (arith, c.len-len.ensures, c.self.invariant.0, c.if-len-eq0.false)) c.index.ensures));
  none = tt;
}
