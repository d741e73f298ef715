use Rattle.std.proofs.Common.{take}
use Rattle.std.specs.Io.KnownBytes.{Appends}
use Rattle.coap_explain.specs.Targets.{escaped}
use Rattle.coap_explain.proofs.messages.put_escaped.Given as goal

abbrev pub invariant-loop-byte : goal.invariant-loop-byte
invariant-loop-byte g l =
    Appends (g.W.Write.contents l.initial.line) (g.W.Write.contents l.line)
    (escaped l.fn.plain (take l.byte-index l.fn.bytes))
