use Rattle.coap_explain.proofs.Writing.{parts-more}
use Rattle.coap_explain.proofs.messages.put_parts.Goals as goal

pub loop-part-preserved : goal.loop-part-preserved
loop-part-preserved g c =
    let (done, before, is) = c.loop-part.invariant in
    parts-more _ (g.W.Write.contents c.loop-part.line) (g.W.Write.contents c.write_all.new.self) _ c.loop-part.mark _ done _ c.loop-part.part-iterator c.next.new.self c.in-Some.part.now c.in-Some.ensures.steps before c.in_ok-write_all.ensures.bytes c.in_ok-put_escaped.ensures is
