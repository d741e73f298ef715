use Rattle.std.proofs.Common.{codes}
use Rattle.std.proofs.lemmas.Result.{on_ok_weaker}
use Rattle.coap_stats.proofs.Adding.{of-three}
use Rattle.coap_stats.specs.Labels.{Way}
use Rattle.coap_stats.specs.Series.{way_text}
use Rattle.coap_stats.proofs.series.put_other_ways.Goals as goal

pub returns : goal.returns
returns c =
    let listen = c.args.listen.now in
    let w = c.args.table.now in
    on_ok_weaker c.put_way-3.result
    (λ last.
    of-three c.args.out.now.items c.put_way.new.out.items c.put_way-2.new.out.items c.put_way-3.new.out.items
    (way_text listen (Way (codes "forward"), w.forward)) (way_text listen (Way (codes "next"), w.next)) (way_text listen (Way (codes "none"), w.unmapped))
    (rw c.forward.ensures at c.in_ok-put_way.ensures) (rw c.next.ensures at c.in_ok-put_way-2.ensures) last)
    (rw c.unmapped.ensures at c.put_way-3.ensures)
