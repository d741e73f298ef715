use Rattle.std.proofs.Common.{take}
use Rattle.coap_explain.specs.Logged.{Adds, lacks}
use Rattle.coap_explain.proofs.log_fields.Fields.put_lacks.Given as goal

-- those so far were added
abbrev pub invariant-loop-lack : goal.invariant-loop-lack
invariant-loop-lack l = Adds l.initial.self l.self (lacks (take l.lack-index l.lacks))
