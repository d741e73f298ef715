use Rattle.std.proofs.Common.{rules}
use Rattle.coap_pending.proofs.timer.Timer.goes_on.Goals as goal

pub returns-then-self-le-MAX_RETRANSMIT-clause-exact : goal.returns-then-self-le-MAX_RETRANSMIT-clause-exact
returns-then-self-le-MAX_RETRANSMIT-clause-exact c = search rules

pub returns-then-self-le-MAX_RETRANSMIT-clause-few : goal.returns-then-self-le-MAX_RETRANSMIT-clause-few
returns-then-self-le-MAX_RETRANSMIT-clause-few c = search rules

pub returns-else-self-le-MAX_RETRANSMIT-clause-exact : goal.returns-else-self-le-MAX_RETRANSMIT-clause-exact
returns-else-self-le-MAX_RETRANSMIT-clause-exact c = search rules
