use Rattle.std.proofs.Common.{◌++◌, codes}
use Rattle.std.proofs.lemmas.Result.{on_ok_weaker}
use Rattle.std.specs.Fmt.{decimal}
use Rattle.coap_stats.proofs.Adding.{five}
use Rattle.coap_stats.specs.Labels.{label_text, part_seen, part_text}
use Rattle.coap_stats.specs.Metrics.{listen_text}
use Rattle.coap_stats.proofs.metrics.put_sample.Goals as goal

pub returns : goal.returns
returns c =
    let f = c.args.family in
    on_ok_weaker c.put-2.result
    (λ last.
    five c.args.out.now.items c.put_part.new.out.items c.put_label.new.out.items c.put.new.out.items c.put_number.new.out.items c.put-2.new.out.items
    (listen_text f.listen.now f.metric.name.now ++ part_text (part_seen f.whose)) (label_text f.label.now c.args.word.key.now) (codes "} ") (decimal c.args.word.number) (codes "\n")
    c.in_ok-put_part.ensures c.in_ok-put_label.ensures c.in_ok-put.ensures c.in_ok-put_number.ensures last)
    c.put-2.ensures
