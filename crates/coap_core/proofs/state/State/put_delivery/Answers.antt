use Rattle.coap_forward.specs.Answers.{shown_as}
use Rattle.coap_core.proofs.Serving.{con-spelled}
use Rattle.coap_core.proofs.state.State.put_delivery.Goals as goal

pub returns-clause-con : goal.returns-clause-con
returns-clause-con g c =
    let v = c.args.waiter.now in
    rw c.put_shown.ensures (con-spelled (shown_as v.kind c.in-Some.awaited.now.is_get c.args.now c.in-Some-answer.answer.now c.next_id.result v.token v.tags) c.tokens_are_short.ensures)
