use Rattle.std.proofs.Common.{drop}
use Rattle.coap_core.specs.Holdings.{IsMost, IsOfFirst}
use Rattle.coap_core.proofs.most.most_of.Given as goal

abbrev pub invariant-loop-place : goal.invariant-loop-place
invariant-loop-place l = record {
  sum : IsOfFirst (drop l.place l.holdings) l.sum;
  most : IsMost (drop l.place l.holdings) l.most;
}
