use Rattle.std.proofs.Common.{◌-◌, ℕ, Option}
use Rattle.ordered_index.specs.Chains.{pairs_in, slots_from, IsChain}
use Rattle.ordered_index.specs.Hashed.{lower}
use Rattle.ordered_index.specs.Ordered.{IsNextOf}
use Rattle.ordered_index.proofs.table.least_in.Given as goal

abbrev pub invariant-loop : goal.invariant-loop
invariant-loop l =
    record {
      chain : IsChain (16 - l.counter) l.nexts l.link;
      next : (rest : Option ℕ) → IsNextOf l.key l.after (pairs_in l.pairs (slots_from (16 - l.counter) l.nexts l.link)) rest → IsNextOf l.key l.after (pairs_in l.pairs (slots_from 16 l.nexts l.start)) (lower l.next rest);
    }
