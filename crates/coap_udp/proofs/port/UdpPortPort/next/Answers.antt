use Rattle.std.proofs.Common.{rules}
use Rattle.std.proofs.lemmas.Bool.{ne_eqb}
use Rattle.coap_udp.proofs.port.UdpPortPort.next.Goals as goal

pub returns-clause-gives : goal.returns-clause-gives
returns-clause-gives g c = record {
  onward = search rules;
  moment = search rules;
  draw = search rules;
  ticks = search rules;
  by = rw (ne_eqb c.args.wait 0 c.if-wait-eq0.false) (c.arrival.new.self, search rules, search rules);
  left = search rules;
}

pub returns-then-wait-eq0-clause-lasts : goal.returns-then-wait-eq0-clause-lasts
returns-then-wait-eq0-clause-lasts g c = search rules

pub returns-then-wait-eq0-clause-ended : goal.returns-then-wait-eq0-clause-ended
returns-then-wait-eq0-clause-ended g c = search rules

pub returns-then-wait-eq0-clause-gives : goal.returns-then-wait-eq0-clause-gives
returns-then-wait-eq0-clause-gives g c = search rules
