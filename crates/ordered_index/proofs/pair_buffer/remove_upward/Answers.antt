use Rattle.std.proofs.Common.{rules, suc, sym, drop-drop, ◌≡◌, ◌+◌, ◌-◌, ◌<◌, ◌∙◌, ap, drop, length, take, List, arith, length-drop, length-take-le}
use Rattle.std.specs.List.{remove}
use Rattle.std.proofs.lemmas.List.{places, with_items_is}
use Rattle.ordered_index.specs.Ordered.{Pair}
use Rattle.ordered_index.proofs.Buffering.{shifted-up}
use Rattle.ordered_index.proofs.pair_buffer.remove_upward.Goals as goal

pub returns-then-place-gt0-clause-items : goal.returns-then-place-gt0-clause-items
returns-then-place-gt0-clause-items c =
    let xs : List Pair = c.deref_mut.result.now in
    let many = c.args.start + c.args.place + 1 - c.args.start in
    let within : c.args.start + c.args.place < length xs = omega (arith, ap length c.deref_mut.ensures.value) in
    let more : many ≡ suc c.args.place = omega arith in
    let size : length (take many (drop c.args.start xs)) ≡ many = length-take-le many (drop c.args.start xs) (omega (arith, length-drop c.args.start xs)) in
    ap (drop (c.args.start + 1)) (with_items_is c.args.items.now _ (search (rules, places)))
    ∙ shifted-up c.args.start c.args.place many _ xs c.rotate_right.new.self more (omega arith) within c.rotate_right.ensures.after
    ∙ ap (λ (l : List Pair). remove (drop c.args.start l) c.args.place) c.deref_mut.ensures.value

pub returns-else-place-gt0-clause-items : goal.returns-else-place-gt0-clause-items
returns-else-place-gt0-clause-items c =
    let xs : List Pair = c.args.items.now.items in
    let first : c.args.place ≡ 0 = omega arith in
    sym (ap (remove (drop c.args.start xs)) first ∙ drop-drop 1 c.args.start xs)
