use Rattle.std.proofs.Common.{◌≡◌, ◌+◌, ◌≤◌, ◌∙◌, ap, drop, length, List, arith, length-drop}
use Rattle.std.specs.List.{insert}
use Rattle.ordered_index.specs.Ordered.{Pair, OrderedIndex}
use Rattle.ordered_index.proofs.Buffering.{insert-behind, other-pairs}
use Rattle.ordered_index.proofs.pair_buffer.PairBuffer.insert.Goals as goal

pub returns-else-self-gt0 : goal.returns-else-self-gt0
returns-else-self-gt0 c =
    let start = c.make_way-self-inside.result in
    let items : List Pair = c.make_way-self-inside.new.items.items in
    let way = c.make_way-self-inside.ensures.items in
    let within : start + c.args.place ≤ length items = omega (arith, ap length way, ap (λ (r : OrderedIndex). length r.pairs) c.self.view_is, length-drop start items) in
    let more : drop start c.insert_upward.new.items.items ≡ insert (drop start items) c.args.place c.args.pair = ap (drop start) c.insert_upward.ensures.items ∙ insert-behind start c.args.place items c.args.pair within in
    other-pairs (λ l. insert l c.args.place c.args.pair) (drop start c.insert_upward.new.items.items) (drop c.self.inside.start c.self.inside.items.items) c.self.inside.limit c.args.self.now (more ∙ ap (λ (l : List Pair). insert l c.args.place c.args.pair) way) c.self.view_is
