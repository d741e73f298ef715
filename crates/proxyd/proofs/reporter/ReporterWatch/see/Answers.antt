use Rattle.std.proofs.Common.{sym, subst, ◌∙◌}
use Rattle.coap_stats.specs.Statistics.{Sees}
use Rattle.proxyd.proofs.reporter.ReporterWatch.see.Goals as goal

pub returns-then-turn-self : goal.returns-then-turn-self
returns-then-turn-self g c = subst (Sees _ _) (sym (c.report.ensures ∙ c.note_clock.ensures)) c.see.ensures

pub returns-else-turn-self : goal.returns-else-turn-self
returns-else-turn-self g c = subst (Sees _ _) (sym c.note_clock.ensures) c.see.ensures
