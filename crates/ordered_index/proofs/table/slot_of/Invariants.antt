use Rattle.std.proofs.Common.{◌≡◌, ℕ, length, true}
use Rattle.ordered_index.specs.Chains.{is_among, pairs_in, slots_from, IsChain}
use Rattle.ordered_index.specs.Ordered.{is_in}
use Rattle.ordered_index.proofs.table.slot_of.Given as goal

abbrev pub invariant-loop-link : goal.invariant-loop-link
invariant-loop-link l =
    record {
      chain : IsChain 16 l.nexts l.link;
      same : is_in l.pair (pairs_in l.pairs (slots_from 16 l.nexts l.start)) ≡ is_in l.pair (pairs_in l.pairs (slots_from 16 l.nexts l.link));
      among : (i : ℕ) → is_among i (slots_from 16 l.nexts l.link) ≡ true → is_among i (slots_from 16 l.nexts l.start) ≡ true;
    }

abbrev pub decreases-loop-link : goal.decreases-loop-link
decreases-loop-link l = length (slots_from 16 l.nexts l.link)
