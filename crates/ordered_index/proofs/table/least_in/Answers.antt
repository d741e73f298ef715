use Rattle.std.proofs.Common.{◌≡◌, ◌-◌, ℕ, List, Option, None, Some, arith, refl, subst, ◌+◌, sym, inl, inr, get_or}
use Rattle.ordered_index.specs.Chains.{pairs_in, slots_from}
use Rattle.ordered_index.specs.Hashed.{lower}
use Rattle.ordered_index.specs.Ordered.{IsNextOf}
use Rattle.ordered_index.proofs.Chaining.{no-slots, step-chain, step-slots, next-more, next-same, lower-three, lower-none}
use Rattle.ordered_index.proofs.table.least_in.Goals as goal
use Rattle.ordered_index.proofs.table.least_in.Goals.{then-pair-key+then-after-pair, else-pair-key}

pub loop-preserved : goal.loop-preserved
loop-preserved c =
    let nexts = c.args.nexts.now in
    let pairs = c.args.pairs.now in
    let key = c.args.key in
    let after = c.args.after in
    let step = step-chain 16 c.loop.counter c.loop.link nexts c.loop-test.true c.if-link-eq0.false c.loop.invariant.chain in
    let slots = step-slots 16 c.loop.counter c.loop.link nexts c.loop-test.true c.if-link-eq0.false in
    let q = get_or pairs (c.loop.link - 1) (0, 0) in
    let qs = pairs_in pairs (slots_from (16 - (c.loop.counter + 1)) nexts (get_or nexts (c.loop.link - 1) 0)) in
    record {
      chain = step.2;
      next = λ rest is. elim c.if-pair-key.branch [
        | then-pair-key+then-after-pair w ↦
            rw (w.next-is, w.lower-next.ensures.exact)
            (subst (λ (r : Option ℕ). IsNextOf key after (pairs_in pairs (slots_from 16 nexts c.args.start)) r) (lower-three c.loop.next (Some q.1) rest)
            (c.loop.invariant.next (lower (Some q.1) rest) (subst (λ (l : List ℕ). IsNextOf key after (pairs_in pairs l) (lower (Some q.1) rest)) (sym slots) (next-more key after q qs rest w.if-pair-key.true w.if-after-pair.true is))))
        | else-pair-key w ↦
            rw w.next-is
            (c.loop.invariant.next rest (subst (λ (l : List ℕ). IsNextOf key after (pairs_in pairs l) rest) (sym slots) (next-same key after q qs rest (λ same more. elim w.else-pair-key.either [ inl less ↦ omega arith | inr other ↦ other same ]) is)))
      ];
    }

pub returns-then-link-eq0 : goal.returns-then-link-eq0
returns-then-link-eq0 c =
    let none = no-slots (16 - c.loop.counter) c.args.nexts.now c.loop.link c.if-link-eq0.true in
    record {
      exact = subst (λ (r : Option ℕ). IsNextOf c.args.key c.args.after (pairs_in c.args.pairs.now (slots_from 16 c.args.nexts.now c.args.start)) r) (lower-none c.loop.next) (c.loop.invariant.next None (subst (λ (l : List ℕ). IsNextOf c.args.key c.args.after (pairs_in c.args.pairs.now l) None) (sym none) (λ n more. refl)));
    }

pub returns : goal.returns
returns c =
    let over : 16 - c.loop.counter ≡ 0 = omega arith in
    record {
      exact = subst (λ (r : Option ℕ). IsNextOf c.args.key c.args.after (pairs_in c.args.pairs.now (slots_from 16 c.args.nexts.now c.args.start)) r) (lower-none c.loop.next) (c.loop.invariant.next None (subst (λ (n : ℕ). IsNextOf c.args.key c.args.after (pairs_in c.args.pairs.now (slots_from n c.args.nexts.now c.loop.link)) None) (sym over) (λ n more. refl)));
    }
