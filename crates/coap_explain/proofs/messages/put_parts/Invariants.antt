use Rattle.std.proofs.Common.{◌≡◌, ℕ, List, ◌++◌}
use Rattle.std.specs.Io.KnownBytes.{Appends}
use Rattle.coap_explain.specs.Targets.{parts_text}
use Rattle.coap_explain.proofs.messages.put_parts.Given as goal

-- those so far were added, and with the others all are
abbrev pub invariant-loop-part : goal.invariant-loop-part
invariant-loop-part g l =
    (done : List ℕ)
    × Appends (g.W.Write.contents l.initial.line) (g.W.Write.contents l.line) done
    × (done ++ parts_text l.mark l.fn.next l.part-iterator
    ≡ parts_text l.fn.first l.fn.next l.initial.part-iterator)
