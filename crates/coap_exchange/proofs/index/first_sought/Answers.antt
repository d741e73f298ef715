use Rattle.std.proofs.Common.{sym}
use Rattle.coap_exchange.specs.Index.{is_met}
use Rattle.coap_exchange.proofs.Seeking.{listed-before, listed-none, listed-up, none-that, none-zero, that-first}
use Rattle.coap_exchange.proofs.index.first_sought.Goals as goal

pub loop-number-init : goal.loop-number-init
loop-number-init c = λ m le. none-zero (is_met c.args.sought.now) m c.args.exchanges.now.items le c.requires.rising

pub returns-then-is_sought_at : goal.returns-then-is_sought_at
returns-then-is_sought_at c = record {
  exact = sym (that-first (is_met c.args.sought.now) c.in-Some.number 0 c.args.exchanges.now.items c.requires.rising (sym c.if-is_sought_at.ensures.exact) (listed-before (is_met c.args.sought.now) c.args.key c.loop-number.after c.in-Some.number c.args.exchanges.now.items c.args.index.now.pairs c.requires.listed c.in-Some.ensures.exact c.loop-number.invariant));
}

pub loop-number-preserved : goal.loop-number-preserved
loop-number-preserved c = listed-up (is_met c.args.sought.now) c.args.key c.loop-number.after c.in-Some.number c.args.exchanges.now.items c.args.index.now.pairs c.requires.listed c.in-Some.ensures.exact c.loop-number.invariant (sym c.if-is_sought_at.ensures.exact)

pub returns : goal.returns
returns c = record {
  exact = sym (none-that (is_met c.args.sought.now) 0 c.args.exchanges.now.items c.requires.rising (listed-none (is_met c.args.sought.now) c.args.key c.loop-number.after c.args.exchanges.now.items c.args.index.now.pairs c.requires.listed c.in_default.ensures.exact c.loop-number.invariant));
}
