use Rattle.std.proofs.Common.{◌-◌}
use Rattle.ordered_index.specs.Chains.{IsChain}
use Rattle.ordered_index.proofs.table.is_open_to.Given as goal

abbrev pub invariant-loop : goal.invariant-loop
invariant-loop l =
    record {
      chain : IsChain (17 - l.counter) l.nexts l.link;
      short : IsChain (16 - l.counter) l.nexts l.link → IsChain 15 l.nexts l.start;
    }
