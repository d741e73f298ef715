use Rattle.std.proofs.Common.{◌≡◌, ◌^◌, ◌-◌, ◌∙◌, ℕ, true, ap, arith, ◌==◌}
use Rattle.coap_lines.proofs.writing.output.put_some.Goals as goal

-- the number of interruptions is the greatest
greatest : (n : ℕ) → n ≡ 2 ^ 64 - 1 → (n == 2 ^ 64 - 1) ≡ true
greatest n is = ap (λ (m : ℕ). m == 2 ^ 64 - 1) is

pub returns-clause-failed : goal.returns-clause-failed
returns-clause-failed g c =
    let (kept, counted, after) = c.loop-tries.invariant in
    let (within, noted) = after (omega (arith, c.loop-tries.auto.tries-end, c.loop-tries-test.false)) in
    noted ∙ greatest c.loop-tries.writer.failing.interrupted (omega (arith, counted, within, c.loop-tries.auto.tries-end, c.loop-tries-test.false))
