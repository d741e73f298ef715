use Rattle.std.proofs.Common.{rules}
use Rattle.coap_lines.proofs.TurnsRead.{arrival_of-read}
use Rattle.coap_lines.proofs.reading.turn.read_arrival.Goals as goal

pub returns-in_err-from-clause-read : goal.returns-in_err-from-clause-read
returns-in_err-from-clause-read c = rw (arrival_of-read c.args.text.now) (search rules)

pub returns-in_err-read_bytes-clause-read : goal.returns-in_err-read_bytes-clause-read
returns-in_err-read_bytes-clause-read c = rw (arrival_of-read c.args.text.now) (search rules)

pub returns-clause-read : goal.returns-clause-read
returns-clause-read c = rw (arrival_of-read c.args.text.now) (search rules)
