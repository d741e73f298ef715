use Rattle.std.proofs.Common.{ap, sym, subst, ◌∙◌, ◌+◌, ◌≤◌}
use Rattle.coap_port.specs.declared.stats.Stats.{Stats}
use Rattle.test_ports.proofs.Counting.{lost-are, once-each, turns-are}
use Rattle.test_ports.proofs.runs.runs_are_counted.Goals as goal

pub returns : goal.returns
returns g c =
    record {
      turns = λ room first w v p q s run. ap (λ (n : Stats). n.turns) run.counted ∙ turns-are w run.givens;
      lost = λ room first w v p q s run. ap (λ (n : Stats). n.lost) run.counted ∙ lost-are w run.givens;
      once = λ room first w v p q s run. subst (λ (n : Stats). n.lost + n.sent + n.send_faults ≤ n.turns) (sym run.counted) (once-each w run.givens);
    }
