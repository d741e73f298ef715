use Rattle.std.proofs.Common.{◌∷◌, None, Some, arith, get_or}
use Rattle.ordered_index.specs.Chains.{pairs_in, slots_from}
use Rattle.ordered_index.proofs.Chaining.{next-more, next-same}
use Rattle.ordered_index.proofs.Hashing.{next-alike}
use Rattle.ordered_index.proofs.table.next_in.Goals as goal

pub returns-in_default : goal.returns-in_default
returns-in_default c = record { exact = λ n more. (c.in_default.ensures).none n }

pub returns-then-after-number : goal.returns-then-after-number
returns-then-after-number c =
    let first = c.in-Some.first in
    let is = (c.in-Some.ensures).some in
    let others = pairs_in c.args.pairs.now (slots_from 16 c.args.nexts.now (get_or c.args.nexts.now c.in-Some.first 0)) in
    let q = get_or c.args.pairs.now c.in-Some.first (0, 0) in
    record {
      exact = next-alike c.args.key c.args.after (pairs_in c.args.pairs.now (slots_from 16 c.args.nexts.now c.args.start)) (q ∷ others) (Some q.1) is.3 (next-more c.args.key c.args.after q others None is.1 c.if-after-number.true (λ n more. (c.in_default-slot_of_key.ensures).none n));
    }

pub returns-else-after-number : goal.returns-else-after-number
returns-else-after-number c =
    let first = c.in-Some.first in
    let is = (c.in-Some.ensures).some in
    let others = pairs_in c.args.pairs.now (slots_from 16 c.args.nexts.now (get_or c.args.nexts.now c.in-Some.first 0)) in
    let q = get_or c.args.pairs.now c.in-Some.first (0, 0) in
    record {
      exact = next-alike c.args.key c.args.after (pairs_in c.args.pairs.now (slots_from 16 c.args.nexts.now c.args.start)) (q ∷ others) None is.3 (next-same c.args.key c.args.after q others None (λ same more. omega arith) (λ n more. (c.in_default-slot_of_key.ensures).none n));
    }
