use Rattle.ordered_index.proofs.Ordering.{next-none, next-other, next-same}
use Rattle.ordered_index.proofs.ordered.OrderedIndex.next_of.Goals as goal

pub returns-in_err-pair : goal.returns-in_err-pair
returns-in_err-pair c = record { exact = rw c.from_residual.ensures (next-none c.args.key c.args.after c.args.self.now.pairs c.in_err-pair.ensures.exact) }

pub returns-then-pair-key : goal.returns-then-pair-key
returns-then-pair-key c = record { exact = next-same c.args.key c.args.after c.args.self.now.pairs c.in_ok-pair.pair c.in_ok-pair.ensures.exact c.if-pair-key.true }

pub returns-else-pair-key : goal.returns-else-pair-key
returns-else-pair-key c = record { exact = next-other c.args.key c.args.after c.args.self.now.pairs c.in_ok-pair.pair c.in_ok-pair.ensures.exact c.if-pair-key.false }
