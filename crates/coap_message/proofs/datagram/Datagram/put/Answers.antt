use Rattle.std.proofs.Common.{◌≡◌, ◌+◌, ◌-◌, take, sym, ◌∙◌, arith}
use Rattle.std.proofs.lemmas.Grind.{common_steps}
use Rattle.coap_message.proofs.Buffers.{written_behind}
use Rattle.coap_message.proofs.datagram.Datagram.put.Goals as goal

pub returns : goal.returns
returns c =
    let copied : c.copy_from_slice.new.self ≡ take c.min-count.result c.args.bytes.now = grind (arith, common_steps, c.copy_from_slice.ensures.after) in
    rw (← c.self.view_is) (written_behind c.self.inside.places c.args.bytes.now c.copy_from_slice.new.self c.deref_mut.result.now c.self.inside.held c.min-count.result (c.self.inside.held + c.min-count.result - c.self.inside.held) c.len.result
    c.deref_mut.ensures.value (sym c.deref_mut.ensures.len) (rw c.deref_mut.ensures.value c.self.invariant) (c.len.ensures ∙ sym c.deref_mut.ensures.len) c.min-count.ensures (omega arith) copied)
