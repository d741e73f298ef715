use Rattle.std.proofs.Common.{◌≡◌, ℕ, length}
use Rattle.ordered_index.specs.Chains.{pairs_in, slots_from, IsChain}
use Rattle.ordered_index.specs.Ordered.{is_in}
use Rattle.ordered_index.proofs.table.slot_of_key.Given as goal

abbrev pub invariant-loop-link : goal.invariant-loop-link
invariant-loop-link l =
    record {
      chain : IsChain 16 l.nexts l.link;
      same : (n : ℕ) → is_in (l.key, n) (pairs_in l.pairs (slots_from 16 l.nexts l.start)) ≡ is_in (l.key, n) (pairs_in l.pairs (slots_from 16 l.nexts l.link));
    }

abbrev pub decreases-loop-link : goal.decreases-loop-link
decreases-loop-link l = length (slots_from 16 l.nexts l.link)
