use Rattle.std.proofs.Common.{codes, ap}
use Rattle.coap_explain.proofs.Logging.{at-ok, line-told}
use Rattle.coap_explain.specs.Logged.{heard}
use Rattle.coap_explain.proofs.logger.Logger.tell_heard.Goals as goal

pub returns-then-begin : goal.returns-then-begin
returns-then-begin g c none =
    let old = c.args.self.now in
    let begun = c.begin.new.self in
    let put = c.put_heard-put.new.self in
    line-told (g.W.Write.contents old.output) (g.W.Write.contents begun.output) (g.W.Write.contents put.output) (g.W.Write.contents c.finish.new.self.output) old.torn begun.torn put.torn old.left_out old.line begun.line put.line
    (codes "answers_again") (heard c.args.from c.args.since c.args.now)
    (c.begin.ensures.written c.if-begin.true) (c.begin.ensures.torn c.if-begin.true) (c.begin.ensures.begun c.if-begin.true)
    (ap (λ s. g.W.Write.contents s.output) c.put_heard-put.ensures.rest) (ap (λ s. s.torn) c.put_heard-put.ensures.rest)
    (at-ok c.put_heard-put.result (c.finish.ensures.all none) c.put_heard-put.ensures.put) (c.finish.ensures.written none)
