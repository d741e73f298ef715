use Rattle.std.proofs.Common.{◌≡◌, ◌-◌, arith}
use Rattle.std.proofs.lemmas.Bool.Decides.{nat_tests}
use Rattle.ordered_index.proofs.Chaining.{no-chain, step-chain, step-short}
use Rattle.ordered_index.proofs.table.is_open_to.Goals as goal

pub loop-preserved : goal.loop-preserved
loop-preserved c =
    let step = step-chain 17 c.loop.counter c.loop.link c.args.nexts.now (omega arith) c.if-link-eq0.false c.loop.invariant.chain in
    record {
      chain = step.2;
      short = λ after. c.loop.invariant.short (step-short 16 c.loop.counter c.loop.link c.args.nexts.now (omega arith) c.if-link-eq0.false c.loop.invariant.chain after);
    }

pub returns-then-link-eq0 : goal.returns-then-link-eq0
returns-then-link-eq0 c = λ _. c.loop.invariant.short (no-chain (16 - c.loop.counter) c.args.nexts.now c.loop.link c.if-link-eq0.true)

pub returns : goal.returns
returns c = λ is.
    let none : c.loop.link ≡ 0 = grind (arith, nat_tests) in
    c.loop.invariant.short (no-chain (16 - c.loop.counter) c.args.nexts.now c.loop.link none)
