use Rattle.std.proofs.Common.{◌≡◌, ℕ, cond, ◌&&◌, ◌||◌, false, List, count_by, map, sym, ap, arith, ◌∙◌}
use Rattle.std.specs.List.{list_any}
use Rattle.std.proofs.lemmas.List.Sums.{sum_by-cons}
use Rattle.coap_store.specs.Digested.{Digested, digested, same_digested}
use Rattle.coap_store_lru.specs.Indexing.{is_of, is_own, marked_by}
use Rattle.coap_store_lru.specs.Recent.{recent_of}
use Rattle.coap_store_lru.proofs.Groups.{and_none}
use Rattle.coap_store_lru.proofs.Marks.{either, map-marked_twice, map-same_marks, marked_by-distinct, marked_by_none}
use Rattle.coap_store_lru.proofs.lru_store.mark_keys.Goals as goal

pub loop-key-preserved : goal.loop-key-preserved
loop-key-preserved g c =
    let secret = c.args.recent.now.secret in
    let es = c.loop-key.recent.entries in
    let k = c.in-Some.key.now in
    let of = is_of c.args.target.now in
    let rest = c.next.new.self in
    let steps = c.in-Some.ensures.steps in
    let here = c.loop-key.invariant.secret in
    let one : cond {A = ℕ} (is_own c.loop-key.recent.secret c.args.target.now k) 1 0 ≡ cond (is_own secret c.args.target.now k) 1 0 = ap {B = ℕ} (λ s. cond (is_own s c.args.target.now k) 1 0) here in
    let are = ap (λ m. m.entries) c.mark_of-count.ensures.marked ∙ ap (λ s. map (marked_by (λ j. of j && same_digested (digested s j) k)) es) here in
    record {
      distinct = rw are (marked_by-distinct (λ j. of j && same_digested (digested secret j) k) es c.loop-key.invariant.distinct);
      secret = ap (λ m. m.secret) c.mark_of-count.ensures.marked ∙ here;
      marks =
          ap (map (marked_by (λ j. of j && list_any (same_digested (digested secret j)) rest))) are
          ∙ map-marked_twice (λ j. of j && same_digested (digested secret j) k) (λ j. of j && list_any (same_digested (digested secret j)) rest) es
          ∙ map-same_marks (λ j. (of j && same_digested (digested secret j) k) || (of j && list_any (same_digested (digested secret j)) rest)) (λ j. of j && (same_digested (digested secret j) k || list_any (same_digested (digested secret j)) rest)) es (λ j. either (of j) (same_digested (digested secret j) k) (list_any (same_digested (digested secret j)) rest))
          ∙ ap (λ (l : List Digested). map (marked_by (λ j. of j && list_any (same_digested (digested secret j)) l)) es) (sym steps)
          ∙ c.loop-key.invariant.marks;
      counted = omega (arith, c.mark_of-count.ensures.counted, one, c.loop-key.invariant.counted, ap (count_by (is_own secret c.args.target.now)) steps, sum_by-cons (λ j. cond (is_own secret c.args.target.now j) 1 0) k rest);
    }

pub returns-clause-marked : goal.returns-clause-marked
returns-clause-marked g c =
    let secret = c.args.recent.now.secret in
    let es = c.loop-key.recent.entries in
    let of = is_of c.args.target.now in
    let none = ap (λ (l : List Digested). map (marked_by (λ j. of j && list_any (same_digested (digested secret j)) l)) es) c.in-None.ensures.steps.0 in
    let unmarked = marked_by_none es ∙ map-same_marks (λ j. false) (λ j. of j && false) es (λ j. sym (and_none (of j))) in
    let are = unmarked ∙ sym none ∙ c.loop-key.invariant.marks in
    ap (λ l. recent_of l c.loop-key.recent.secret) are ∙ ap (recent_of _) c.loop-key.invariant.secret
