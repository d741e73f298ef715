use Rattle.coap_lines.proofs.LineByLine.{step-bad, step-end, step-long, step-many, step-skip, step-turn, step-full}
use Rattle.coap_lines.proofs.laws.an_input_is_done_line_by_line.Goals as goal

pub returns : goal.returns
returns c = record { end = step-end; long = step-long; many = step-many; skip = step-skip; bad = step-bad; turn = step-turn; full = step-full }
