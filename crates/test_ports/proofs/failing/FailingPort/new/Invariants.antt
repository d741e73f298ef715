-- Adding turns to a script is no failure.
use Rattle.std.proofs.Common.{◌≡◌}
use Rattle.test_ports.proofs.failing.FailingPort.new.Given as goal

abbrev pub invariant-loop-turn : goal.invariant-loop-turn
invariant-loop-turn l = l.port.failures ≡ 0
