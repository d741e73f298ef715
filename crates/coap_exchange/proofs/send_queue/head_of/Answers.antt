use Rattle.std.proofs.Common.{◌≡◌, ◌∙◌, ap, arith, sym}
use Rattle.std.proofs.lemmas.Bool.Decides.{nat_tests}
use Rattle.coap_pending.specs.Exchanges.{is_queued}
use Rattle.coap_pending.specs.Table.{count}
use Rattle.coap_exchange.specs.SendQueue.{head_in}
use Rattle.coap_exchange.proofs.Heads.{no-head}
use Rattle.coap_exchange.proofs.send_queue.head_of.Goals as goal

pub returns-then-queued-eq0 : goal.returns-then-queued-eq0
returns-then-queued-eq0 c =
    let zero = c.if-queued-eq0.true in
    let queued = c.requires.queued in
    let none : count is_queued c.args.exchanges.now.items ≡ 0 = grind (arith, nat_tests) in
    record { exact = sym (ap (head_in c.args.exchanges.now.items) c.in-Some.is ∙ no-head c.args.exchanges.now.items c.in-Some.at none) }
