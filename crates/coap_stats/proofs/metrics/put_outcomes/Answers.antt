use Rattle.std.proofs.Common.{◌++◌, codes}
use Rattle.coap_stats.proofs.Adding.{last, more}
use Rattle.coap_stats.specs.Labels.{All}
use Rattle.coap_stats.specs.Line.{answer_words}
use Rattle.coap_stats.specs.Metrics.{answers, head_text, requests, requests_text, samples_text}
use Rattle.coap_stats.proofs.metrics.put_outcomes.Goals as goal

pub returns : goal.returns
returns c =
    let listen = c.args.listen.now in
    let came = requests_text listen requests.name All c.args.tally.now.requests in
    let all = more c.args.out.now.items c.put_head.new.out.items c.put_requests.new.out.items (head_text requests) came c.in_ok-put_head.ensures c.in_ok-put_requests.ensures in
    let heads = more c.args.out.now.items c.put_requests.new.out.items c.put_head-2.new.out.items (head_text requests ++ came) (head_text answers) all c.in_ok-put_head-2.ensures in
    last c.put_samples.result c.args.out.now.items c.put_head-2.new.out.items c.put_samples.new.out.items
    (head_text requests ++ came ++ head_text answers) (samples_text listen answers.name All (codes "storing") (answer_words c.args.tally.now.answers)) heads (rw c.answer_words.ensures at c.put_samples.ensures)
