use Rattle.std.proofs.Common.{◌≡◌, ◌≤◌, ◌-◌, ◌∙◌, false, true, ap}
use Rattle.ordered_index.specs.Ordered.{OrderedIndex, many_of}
use Rattle.ordered_index.proofs.Ordering.{lefts-at, many-between}
use Rattle.ordered_index.proofs.ordered.OrderedIndex.count_of.Goals as goal

-- the two places divide the pairs
between : (c : goal.After-place_of_key-past) → (c.place_of_key-first.result ≤ c.place_of_key-past.result) × (c.place_of_key-past.result - c.place_of_key-first.result ≡ many_of c.args.key c.pairs-pairs.result.now)
between c =
    let first = c.place_of_key-first.ensures in
    let past = c.place_of_key-past.ensures in
    let pairs = c.pairs-pairs.result.now in
    many-between c.args.key c.place_of_key-first.result c.place_of_key-past.result pairs (lefts-at false c.args.key c.place_of_key-first.result pairs first.within first.below first.above) (lefts-at true c.args.key c.place_of_key-past.result pairs past.within past.below past.above)

pub overflow_sub-result : goal.overflow_sub-result
overflow_sub-result c = (between c).0

pub returns : goal.returns
returns c = record { exact = (between c).1 ∙ ap (many_of c.args.key) c.pairs-pairs.ensures ∙ ap (λ (r : OrderedIndex). many_of c.args.key r.pairs) c.self.view_is }
