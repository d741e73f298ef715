use Rattle.std.proofs.Common.{rules}
use Rattle.coap_lines.proofs.TurnsRead.{turn_of-read}
use Rattle.coap_lines.proofs.reading.turn.read_turn.Goals as goal

pub returns-in_err-now-clause-read : goal.returns-in_err-now-clause-read
returns-in_err-now-clause-read c = rw (turn_of-read c.args.last c.args.line.now) (search rules)

pub returns-in_err-draw-clause-read : goal.returns-in_err-draw-clause-read
returns-in_err-draw-clause-read c = rw (turn_of-read c.args.last c.args.line.now) (search rules)

pub returns-in_err-from-clause-read : goal.returns-in_err-from-clause-read
returns-in_err-from-clause-read c = rw (turn_of-read c.args.last c.args.line.now) (search rules)

pub returns-then-now-last-clause-read : goal.returns-then-now-last-clause-read
returns-then-now-last-clause-read c = rw (turn_of-read c.args.last c.args.line.now) (search rules)

pub returns-clause-read : goal.returns-clause-read
returns-clause-read c = rw (turn_of-read c.args.last c.args.line.now) (search rules)
