use Rattle.std.proofs.Common.{◌-◌, ◌∙◌, ℕ, List, length, ap, arith, sym}
use Rattle.ordered_index.specs.Chains.{is_among, pairs_in}
use Rattle.ordered_index.specs.Ordered.{is_in}
use Rattle.ordered_index.proofs.Chaining.{among-first, among-later, no-slots, only-pair, step-on, unlike-first}
use Rattle.ordered_index.proofs.table.slot_of.Goals as goal

pub loop-link-preserved : goal.loop-link-preserved
loop-link-preserved c =
    let step = step-on c.args.nexts.now c.loop-link.link c.loop-link-test.true c.loop-link.invariant.chain in
    record {
      chain = step.1;
      same = c.loop-link.invariant.same ∙ ap (λ (l : List ℕ). is_in c.args.pair (pairs_in c.args.pairs.now l)) step.2 ∙ unlike-first c.args.pair c.args.pairs.now (c.loop-link.link - 1) _ (sym c.eq.ensures ∙ c.if-eq.false);
      among = λ i there. c.loop-link.invariant.among i (ap (λ (l : List ℕ). is_among i l) step.2 ∙ among-later i (c.loop-link.link - 1) _ there);
    }

pub loop-link-smaller : goal.loop-link-smaller
loop-link-smaller c =
    let step = step-on c.args.nexts.now c.loop-link.link c.loop-link-test.true c.loop-link.invariant.chain in
    omega (arith, ap length step.2)

pub returns-then-eq-clause-some : goal.returns-then-eq-clause-some
returns-then-eq-clause-some c =
    let step = step-on c.args.nexts.now c.loop-link.link c.loop-link-test.true c.loop-link.invariant.chain in (
      c.loop-link.invariant.among (c.loop-link.link - 1) (ap (λ (l : List ℕ). is_among (c.loop-link.link - 1) l) step.2 ∙ among-first (c.loop-link.link - 1) _),
      only-pair c.args.pair _ (sym c.eq.ensures ∙ c.if-eq.true),
    )

pub returns-clause-none : goal.returns-clause-none
returns-clause-none c = c.loop-link.invariant.same ∙ ap (λ (l : List ℕ). is_in c.args.pair (pairs_in c.args.pairs.now l)) (no-slots 16 c.args.nexts.now c.loop-link.link c.loop-link-test.false)
