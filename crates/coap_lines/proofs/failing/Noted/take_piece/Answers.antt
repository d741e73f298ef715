use Rattle.std.proofs.Common.{◌+◌, ap, arith, length, length-append, rules, take}
use Rattle.std.proofs.lemmas.List.{length-take, length-take-le}
use Rattle.coap_lines.proofs.Pieces.{part-taken}
use Rattle.coap_lines.proofs.failing.Noted.take_piece.Goals as goal

pub returns-then-is_empty-clause-taken : goal.returns-then-is_empty-clause-taken
returns-then-is_empty-clause-taken g c = search rules

pub returns-in_err-chunk-clause-noted : goal.returns-in_err-chunk-clause-noted
returns-in_err-chunk-clause-noted g c = search rules

pub returns-then-is_empty-clause-noted : goal.returns-then-is_empty-clause-noted
returns-then-is_empty-clause-noted g c = search rules

pub returns-then-ended-clause-noted : goal.returns-then-ended-clause-noted
returns-then-ended-clause-noted g c = search rules

pub returns-clause-noted : goal.returns-clause-noted
returns-clause-noted g c = search rules

pub returns-then-ended-clause-taken : goal.returns-then-ended-clause-taken
returns-then-ended-clause-taken g c =
    let bytes = take c.line_part-used.result.0 (take c.min.result c.in_ok-chunk.chunk.now) in
    let part = c.line_part-used.ensures in
    let took = part-taken _ _ _ _ _ _ c.min.result (c.line_part-used.result.0 + 1) c.in_ok-chunk.was c.in_ok-chunk.ensures.front c.fill.follows.holds-at-none c.consume.ensures.bytes (search rules) in
    let all = length-append c.args.line.now.items bytes in
    let count = length-take-le _ _ part.within in
    let whole = length-take c.min.result c.in_ok-chunk.chunk.now in
    record {
      bytes = bytes;
      added = c.put.ensures.0;
      within = omega (arith, c.put.new.out.ok.0, c.args.line.now.ok.0, ap length c.put.ensures.0, all);
      none = part.none;
      took = rw (part.feed c.if-ended.true) at took;
      fits = omega (arith, count, part.within, whole, c.min.ensures);
      feed = λ is. omega (arith, count, part.ended c.if-ended.true, whole, c.min.ensures);
      some = search rules;
      last = search rules;
    }

pub returns-clause-taken : goal.returns-clause-taken
returns-clause-taken g c =
    let bytes = take c.line_part-used.result.0 (take c.min.result c.in_ok-chunk.chunk.now) in
    let part = c.line_part-used.ensures in
    let took = part-taken _ _ _ _ _ _ c.min.result c.line_part-used.result.0 c.in_ok-chunk.was c.in_ok-chunk.ensures.front c.fill.follows.holds-at-none c.consume-2.ensures.bytes part.within in
    let all = length-append c.args.line.now.items bytes in
    let count = length-take-le _ _ part.within in
    let whole = length-take c.min.result c.in_ok-chunk.chunk.now in
    record {
      bytes = bytes;
      added = c.put.ensures.0;
      within = omega (arith, c.put.new.out.ok.0, c.args.line.now.ok.0, ap length c.put.ensures.0, all);
      none = part.none;
      took = took;
      fits = omega (arith, count, part.within, whole, c.min.ensures);
      feed = search rules;
      some = search rules;
      last = search rules;
    }
