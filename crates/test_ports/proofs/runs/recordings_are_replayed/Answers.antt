use Rattle.test_ports.proofs.runs.recordings_are_replayed.Goals as goal

pub returns : goal.returns
returns c =
    record {
      asks = λ w givens input is. is.asks;
      same = λ w givens input is. is.same;
      tables = λ w v givens input most count left old new replay is few memory. (is.replayed v most left old new count replay few memory).0;
      lines = λ w v givens input most count left old new replay is few memory. (is.replayed v most left old new count replay few memory).1;
    }
