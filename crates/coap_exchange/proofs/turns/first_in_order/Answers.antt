use Rattle.std.proofs.Common.{sym}
use Rattle.coap_exchange.proofs.Ordering.{turn-none, turn-some, turn-there}
use Rattle.coap_exchange.proofs.turns.first_in_order.Goals as goal

pub returns : goal.returns
returns c = record {
  exact = turn-some c.args.nstart c.args.exchanges.now.items c.args.send_queue.now c.laws.ensures.sound.rising c.requires.send_queue c.requires.order c.in_ok-number.number c.in_ok-exchange.exchange.now c.in_ok-number.ensures.exact (sym c.in_ok-exchange.ensures.exact);
}

pub returns-in_err-number : goal.returns-in_err-number
returns-in_err-number c = record {
  exact = rw c.from_residual.ensures (turn-none c.args.nstart c.args.exchanges.now.items c.args.send_queue.now c.laws.ensures.sound.rising c.requires.send_queue c.requires.order c.in_err-number.ensures.exact);
}

pub returns-in_err-exchange : goal.returns-in_err-exchange
returns-in_err-exchange c = absurd (turn-there c.args.nstart c.args.exchanges.now.items c.args.send_queue.now c.laws.ensures.sound.rising c.requires.send_queue c.requires.order c.in_ok-number.number c.in_ok-number.ensures.exact (sym c.in_err-exchange.ensures.exact))
