use Rattle.std.proofs.Common.{rules}
use Rattle.std.proofs.lemmas.Bool.{ne_eqb}
use Rattle.coap_port.proofs.memory.MemoryPortPort.next.Goals as goal

pub returns-clause-gives : goal.returns-clause-gives
returns-clause-gives c =
    rw (ne_eqb c.args.wait 0 c.if-wait-eq0.false)
    (record {
      scripted = c.in-Some.scripted;
      rest = c.pop_front.new.self.items;
      split = search rules;
      turn = search rules;
      left = search rules;
    })
