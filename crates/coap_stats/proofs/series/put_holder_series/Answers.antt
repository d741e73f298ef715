use Rattle.std.proofs.Common.{◌≡◌, ◌++◌, List, ℕ, Option, None, get_or, ap, ◌∙◌}
use Rattle.std.proofs.lemmas.Result.{on_ok_weaker}
use Rattle.coap_core.specs.declared.holders.Holder.{Holder}
use Rattle.coap_stats.proofs.Adding.{head-of-four}
use Rattle.coap_stats.specs.Metrics.{head_text}
use Rattle.coap_stats.specs.Series.{holder_metric, holder_text}
use Rattle.coap_stats.proofs.series.put_holder_series.Goals as goal

-- what is told of one of those that were found
of-place : (text : Option Holder → List ℕ) (found all : List (Option Holder)) (i : ℕ) (so_far now : List ℕ) → found ≡ all → now ≡ so_far ++ text (get_or found i None) → now ≡ so_far ++ text (get_or all i None)
of-place text found all i so_far now is told = told ∙ ap (λ xs. so_far ++ text (get_or xs i None)) is

pub returns : goal.returns
returns c =
    let text = holder_text c.args.at.listen.now c.args.at.now c.args.series in
    let h = c.args.holders.now in
    on_ok_weaker c.put_holder-4.result
    (λ last.
    head-of-four c.args.out.now.items c.put_head.new.out.items c.put_holder.new.out.items c.put_holder-2.new.out.items c.put_holder-3.new.out.items c.put_holder-4.new.out.items
    (head_text (holder_metric c.args.series)) (text h.con_records) (text h.non_records) (text h.exchanges) (text h.waiters)
    (c.in_ok-put_head.ensures ∙ ap (λ m. c.args.out.now.items ++ head_text m) c.metric.ensures)
    (of-place text c.all.result _ 0 _ _ c.all.ensures c.in_ok-put_holder.ensures) (of-place text c.all.result _ 1 _ _ c.all.ensures c.in_ok-put_holder-2.ensures)
    (of-place text c.all.result _ 2 _ _ c.all.ensures c.in_ok-put_holder-3.ensures) (of-place text c.all.result _ 3 _ _ c.all.ensures last))
    c.put_holder-4.ensures
