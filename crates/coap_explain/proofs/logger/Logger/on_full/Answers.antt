use Rattle.std.proofs.Common.{codes, ap}
use Rattle.coap_explain.proofs.Logging.{at-ok, line-told}
use Rattle.coap_explain.specs.Logged.{full}
use Rattle.coap_explain.proofs.logger.Logger.on_full.Goals as goal

pub returns-then-begin : goal.returns-then-begin
returns-then-begin g c none =
    let old = c.args.self.now in
    let begun = c.begin.new.self in
    let put = c.put_holder-put.new.self in
    line-told (g.W.Write.contents old.output) (g.W.Write.contents begun.output) (g.W.Write.contents put.output) (g.W.Write.contents c.finish.new.self.output) old.torn begun.torn put.torn old.left_out old.line begun.line put.line
    (codes "full") (full c.args.holder)
    (c.begin.ensures.written c.if-begin.true) (c.begin.ensures.torn c.if-begin.true) (c.begin.ensures.begun c.if-begin.true)
    (ap (λ s. g.W.Write.contents s.output) c.put_holder-put.ensures.rest) (ap (λ s. s.torn) c.put_holder-put.ensures.rest)
    (at-ok c.put_holder-put.result (c.finish.ensures.all none) c.put_holder-put.ensures.put) (c.finish.ensures.written none)
