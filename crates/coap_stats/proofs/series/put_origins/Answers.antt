use Rattle.std.proofs.lemmas.Result.{on_ok_weaker}
use Rattle.coap_stats.proofs.Adding.{six}
use Rattle.coap_stats.specs.Series.{of_origins}
use Rattle.coap_stats.specs.declared.series.OriginSeries.TheVariants.{Answers, GaveUp, Resent, Sent, Silence, Times}
use Rattle.coap_stats.proofs.series.put_origins.Goals as goal

pub returns : goal.returns
returns c =
    let of = of_origins c.args.listen.now c.args.now c.args.origins.now in
    on_ok_weaker c.put_origin_series-6.result
    (λ last.
    six c.args.out.now.items c.put_origin_series.new.out.items c.put_origin_series-2.new.out.items c.put_origin_series-3.new.out.items c.put_origin_series-4.new.out.items c.put_origin_series-5.new.out.items
    c.put_origin_series-6.new.out.items (of Sent) (of Resent) (of GaveUp) (of Answers) (of Silence) (of Times)
    c.in_ok-put_origin_series.ensures c.in_ok-put_origin_series-2.ensures c.in_ok-put_origin_series-3.ensures c.in_ok-put_origin_series-4.ensures c.in_ok-put_origin_series-5.ensures last)
    c.put_origin_series-6.ensures
