use Rattle.test_ports.proofs.runs.runs_are_promised.Goals as goal

pub returns : goal.returns
returns g c =
    record {
      tables = λ room first w v p q s run. run.state;
      carries = λ room first w v p q s history run. run.carries history;
      word = λ room first w v p q s history run. run.word history;
      waits = λ room first w v p q s run. run.asked;
      lost = λ room first w v p q s run. run.lost;
    }
