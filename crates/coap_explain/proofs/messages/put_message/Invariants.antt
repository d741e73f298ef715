use Rattle.std.proofs.Common.{◌≡◌, ℕ, List, ◌++◌}
use Rattle.std.specs.Io.KnownBytes.{Appends}
use Rattle.std.specs.List.{flat_map}
use Rattle.coap_explain.specs.Words.{option_text}
use Rattle.coap_explain.proofs.messages.put_message.Given as goal

abbrev pub invariant-loop-option : goal.invariant-loop-option
invariant-loop-option g l =
    (done : List ℕ)
    × Appends (g.W.Write.contents l.initial.line) (g.W.Write.contents l.line) done
    × (done ++ flat_map option_text l.option-iterator ≡ flat_map option_text l.initial.option-iterator)
