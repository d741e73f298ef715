use Rattle.std.proofs.Common.{sym, ◌∙◌}
use Rattle.coap_exchange.proofs.Seeking.{no-turn}
use Rattle.coap_exchange.proofs.turns.first_of_all.Goals as goal

pub returns-then-queued-eq0 : goal.returns-then-queued-eq0
returns-then-queued-eq0 c = record { exact = sym (no-turn c.args.nstart c.args.exchanges.now.items c.args.exchanges.now.items (sym c.if-queued-eq0.true ∙ c.requires.queued)) }
