use Rattle.std.proofs.Common.{take}
use Rattle.std.specs.Io.KnownBytes.{Appends}
use Rattle.coap_explain.specs.Words.{lacks_text}
use Rattle.coap_explain.proofs.causes.put_lacks.Given as goal

abbrev pub invariant-loop-lack : goal.invariant-loop-lack
invariant-loop-lack g l =
    Appends (g.W.Write.contents l.initial.line) (g.W.Write.contents l.line)
    (lacks_text (take l.lack-index l.fn.lacks))
