use Rattle.std.proofs.Common.{◌≡◌, ◌+◌, true, cond, count_by, get_or, take, drop, map, ◌++◌, slice_set, ap, sym, ◌∙◌, subst, arith}
use Rattle.std.proofs.lemmas.List.Edits.{map_over_more}
use Rattle.std.proofs.lemmas.List.Sums.{sum_by_more}
use Rattle.coap_store.specs.Entries.{Entry, is_for, marked}
use Rattle.coap_store_list.proofs.Marking.{comes}
use Rattle.coap_store_list.proofs.list_store.mark_entries.Goals as goal
use Rattle.coap_store_list.proofs.list_store.mark_entries.Goals.{then-mark_entry, else-mark_entry}

pub loop-entry-preserved : goal.loop-entry-preserved
loop-entry-preserved c =
    let t = c.args.target.now in
    let i = c.loop-entry.entry-index in
    let x = c.entry-item.result in
    let old = c.args.entries.now in
    let now = c.loop-entry.entries in
    let at : get_or old i x ≡ x = comes (marked t) old now i x c.loop-entry.invariant.marked c.entry-item.is in
    let step = sum_by_more (λ (e : Entry). cond (is_for t e) 1 0) old i x (omega arith) in
    let counts : count_by (is_for t) (take (i + 1) old) ≡ count_by (is_for t) (take i old) + cond (is_for t x) 1 0 = subst (λ (e : Entry). count_by (is_for t) (take (i + 1) old) ≡ count_by (is_for t) (take i old) + cond (is_for t e) 1 0) at step in
    let answer : c.mark_entry.result ≡ is_for t x = rw (← c.entry-item.is) at c.mark_entry.ensures.answer in
    let all : slice_set now i (marked t x) ≡ map (marked t) (take (i + 1) old) ++ drop (i + 1) old = map_over_more (marked t) old now i x (omega arith) c.loop-entry.invariant.marked c.entry-item.is in
    let new_is : slice_set now i c.mark_entry.new.entry ≡ slice_set now i (marked t x) = ap (slice_set now i) (rw (← c.entry-item.is) at c.mark_entry.ensures.marked) in
    elim c.if-mark_entry.branch [
      | then-mark_entry w ↦
          let is : is_for t x ≡ true = sym answer ∙ w.if-mark_entry.true in
          let one : count_by (is_for t) (take (i + 1) old) ≡ count_by (is_for t) (take i old) + 1 = rw is at counts in
          record {
            counted = omega (arith, one, w.count-is, c.loop-entry.invariant.counted);
            few = omega (arith, w.count-is, c.loop-entry.invariant.few);
            marked = new_is ∙ all;
          }
      | else-mark_entry w ↦
          let is = sym answer ∙ w.if-mark_entry.false in
          let none : count_by (is_for t) (take (i + 1) old) ≡ count_by (is_for t) (take i old) + 0 = rw is at counts in
          record {
            counted = omega (arith, none, w.count-is, c.loop-entry.invariant.counted);
            few = omega (arith, w.count-is, c.loop-entry.invariant.few);
            marked = new_is ∙ all;
          }
    ]
