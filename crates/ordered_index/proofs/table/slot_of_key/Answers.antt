use Rattle.std.proofs.Common.{◌-◌, ◌∙◌, ℕ, List, length, ap, arith}
use Rattle.ordered_index.specs.Chains.{pairs_in}
use Rattle.ordered_index.specs.Ordered.{is_in}
use Rattle.ordered_index.proofs.Chaining.{no-slots, other-first, step-on}
use Rattle.ordered_index.proofs.table.slot_of_key.Goals as goal

pub loop-link-preserved : goal.loop-link-preserved
loop-link-preserved c =
    let step = step-on c.args.nexts.now c.loop-link.link c.loop-link-test.true c.loop-link.invariant.chain in
    record {
      chain = step.1;
      same = λ n. c.loop-link.invariant.same n ∙ ap (λ (l : List ℕ). is_in (c.args.key, n) (pairs_in c.args.pairs.now l)) step.2 ∙ other-first c.args.key n c.args.pairs.now (c.loop-link.link - 1) _ c.if-pairs-slot.false;
    }

pub loop-link-smaller : goal.loop-link-smaller
loop-link-smaller c =
    let step = step-on c.args.nexts.now c.loop-link.link c.loop-link-test.true c.loop-link.invariant.chain in
    omega (arith, ap length step.2)

pub returns-then-pairs-slot-clause-some : goal.returns-then-pairs-slot-clause-some
returns-then-pairs-slot-clause-some c =
    let step = step-on c.args.nexts.now c.loop-link.link c.loop-link-test.true c.loop-link.invariant.chain in
    (step.0, c.if-pairs-slot.true, step.1, λ n. c.loop-link.invariant.same n ∙ ap (λ (l : List ℕ). is_in (c.args.key, n) (pairs_in c.args.pairs.now l)) step.2)

pub returns-clause-none : goal.returns-clause-none
returns-clause-none c = λ n. c.loop-link.invariant.same n ∙ ap (λ (l : List ℕ). is_in (c.args.key, n) (pairs_in c.args.pairs.now l)) (no-slots 16 c.args.nexts.now c.loop-link.link c.loop-link-test.false)
