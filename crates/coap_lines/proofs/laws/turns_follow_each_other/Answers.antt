use Rattle.coap_lines.specs.Lines.{lines_of}
use Rattle.coap_lines.proofs.ScriptTurns.{script_from-turns}
use Rattle.coap_lines.proofs.laws.turns_follow_each_other.Goals as goal

pub returns : goal.returns
returns c = record {
  follow = λ input. (script_from-turns 1 0 0 (lines_of input)).0;
  within = λ input. (script_from-turns 1 0 0 (lines_of input)).1;
}
