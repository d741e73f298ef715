use Rattle.coap_lines.proofs.InputLines.{lines_of-lines, lines_of-only}
use Rattle.coap_lines.proofs.laws.inputs_have_one_list_of_lines.Goals as goal

pub returns : goal.returns
returns c = record { has = lines_of-lines; only = lines_of-only }
