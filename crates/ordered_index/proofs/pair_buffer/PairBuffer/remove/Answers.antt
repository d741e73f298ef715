use Rattle.std.proofs.Common.{◌≡◌, ◌+◌, ◌<◌, ◌∙◌, ap, drop, length, arith, length-drop}
use Rattle.std.specs.List.{remove}
use Rattle.ordered_index.specs.Ordered.{OrderedIndex}
use Rattle.ordered_index.proofs.Buffering.{other-pairs, remove-behind}
use Rattle.ordered_index.proofs.pair_buffer.PairBuffer.remove.Goals as goal

pub returns-else-place-behind : goal.returns-else-place-behind
returns-else-place-behind c =
    let within : c.self.inside.start + c.args.place < length c.self.inside.items.items = omega (arith, ap (λ (r : OrderedIndex). length r.pairs) c.self.view_is, length-drop c.self.inside.start c.self.inside.items.items) in
    let cut : drop c.self.inside.start c.remove.new.self.items ≡ remove (drop c.self.inside.start c.self.inside.items.items) c.args.place = ap (drop c.self.inside.start) c.remove.ensures.items ∙ remove-behind c.self.inside.start c.args.place c.self.inside.items.items within in
    other-pairs (λ l. remove l c.args.place) (drop c.self.inside.start c.remove.new.self.items) (drop c.self.inside.start c.self.inside.items.items) c.self.inside.limit c.args.self.now cut c.self.view_is
