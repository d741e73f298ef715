use Rattle.std.proofs.Common.{sym, length, arith}
use Rattle.std.proofs.lemmas.List.{take_all}
use Rattle.coap_lines.proofs.Cuts.{none-has}
use Rattle.coap_lines.proofs.NextLines.{before_feed}
use Rattle.coap_lines.proofs.reading.cutting.line_part.Goals as goal

pub returns-in-Some-clause-within : goal.returns-in-Some-clause-within
returns-in-Some-clause-within c =
    let short = (before_feed c.args.bytes.now c.in-Some.line.now c.in-Some.field-0-1.now (sym c.in-Some.ensures.parts)).1 in omega arith

pub returns-in-Some-clause-none : goal.returns-in-Some-clause-none
returns-in-Some-clause-none c = (before_feed c.args.bytes.now c.in-Some.line.now c.in-Some.field-0-1.now (sym c.in-Some.ensures.parts)).0

pub returns-in-Some-clause-ended : goal.returns-in-Some-clause-ended
returns-in-Some-clause-ended c ended = (before_feed c.args.bytes.now c.in-Some.line.now c.in-Some.field-0-1.now (sym c.in-Some.ensures.parts)).1

pub returns-in-Some-clause-feed : goal.returns-in-Some-clause-feed
returns-in-Some-clause-feed c ended = (before_feed c.args.bytes.now c.in-Some.line.now c.in-Some.field-0-1.now (sym c.in-Some.ensures.parts)).2

pub returns-in-None-clause-none : goal.returns-in-None-clause-none
returns-in-None-clause-none c =
    let all = take_all (length c.args.bytes.now) c.args.bytes.now (omega arith) in
    rw all (none-has 10 c.args.bytes.now (sym c.in-None.ensures.parts))
