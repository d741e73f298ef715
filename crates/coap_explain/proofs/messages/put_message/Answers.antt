use Rattle.coap_message.specs.OptRef.{seen}
use Rattle.coap_explain.proofs.Writing.{options-more}
use Rattle.coap_explain.proofs.messages.put_message.Goals as goal

pub loop-option-preserved : goal.loop-option-preserved
loop-option-preserved g c =
    let (done, before, is) = c.loop-option.invariant in
    options-more _ (g.W.Write.contents c.loop-option.line) _ done _ c.loop-option.option-iterator c.next.new.self (seen c.in-Some.option) c.in-Some.ensures.steps before c.in_ok-put_option.ensures is
