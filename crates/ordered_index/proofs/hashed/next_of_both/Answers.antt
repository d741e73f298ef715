use Rattle.ordered_index.proofs.Hashing.{next-both}
use Rattle.ordered_index.proofs.hashed.next_of_both.Goals as goal

pub returns : goal.returns
returns c = record {
  exact = rw c.lower.ensures.exact (next-both c.args.key c.args.after c.args.table.now.pairs c.args.rest.now.pairs c.next_of-own.result c.next_of.result c.next_of-own.ensures.exact c.next_of.ensures.exact);
}
