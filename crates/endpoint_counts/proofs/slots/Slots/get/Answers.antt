use Rattle.std.proofs.Common.{◌∙◌, ◌-◌, refl, sym, length, arith}
use Rattle.std.proofs.lemmas.Option.{slice_get_past, slice_get_read}
use Rattle.endpoint_counts.proofs.Slotting.{numbered-at, numbered-low}
use Rattle.endpoint_counts.proofs.slots.Slots.get.Goals as goal

pub returns-then-number-eq0 : goal.returns-then-number-eq0
returns-then-number-eq0 c = record { exact = rw (← c.self.view_is) (sym (numbered-low 0 c.args.number c.self.inside.entries.items (omega (arith, c.if-number-eq0.true)))) }

pub returns-then-place-len : goal.returns-then-place-len
returns-then-place-len c = record { exact = rw (← c.self.view_is) (sym (numbered-at 0 (c.args.number - 1) c.args.number c.self.inside.entries.items (omega arith) ∙ slice_get_past c.self.inside.entries.items (c.args.number - 1) (omega (arith, c.self.invariant.0)))) }

pub returns : goal.returns
returns c = record { exact = rw (← c.self.view_is) (sym (numbered-at 0 (c.args.number - 1) c.args.number c.self.inside.entries.items (omega arith) ∙ slice_get_read c.self.inside.entries.items (length c.self.inside.entries.items) (c.args.number - 1) c.index.result.now refl (omega (arith, c.self.invariant.0, c.if-place-len.false)) c.index.ensures)) }
