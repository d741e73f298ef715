use Rattle.coap_model.proofs.IdleTicks.{idle-none, idle-later, acts-due}
use Rattle.coap_model.proofs.laws.ticks_are_idle_where_nothing_is_due.Goals as goal

pub returns : goal.returns
returns c = record { none = idle-none; later = idle-later; due = acts-due }
