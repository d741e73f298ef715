use Rattle.std.proofs.Common.{arith, sym, ◌∙◌}
use Rattle.std.proofs.lemmas.Bool.{eqb-false}
use Rattle.coap_lines.proofs.NextLines.{next-feed, next-last, next-full}
use Rattle.coap_lines.proofs.reading.input.next_of.Goals as goal

pub returns-in-Feed-clause-read : goal.returns-in-Feed-clause-read
returns-in-Feed-clause-read g c =
    let e = c.in_ok-read_piece.ensures in
    let same = c.read_piece.new.line.ok.0 in
    let short = e.feed c.in-Feed.is in
    next-feed _ _ _ (rw c.in-Feed.is at e.bytes) e.none (omega (arith, same, short))

pub returns-in-Open-clause-read : goal.returns-in-Open-clause-read
returns-in-Open-clause-read g c =
    let e = c.in_ok-read_piece.ensures in
    let same = c.read_piece.new.line.ok.0 in
    let long = e.full c.in-Open.is in
    next-full _ _ _ (rw c.in-Open.is at e.bytes) e.none (omega (arith, same, long))

pub returns-in-Last-2-clause-read : goal.returns-in-Last-2-clause-read
returns-in-Last-2-clause-read g c =
    let e = c.in_ok-read_piece.ensures in
    let same = c.read_piece.new.line.ok.0 in
    let short = e.last c.in-Last-2.is in
    let some = eqb-false _ _ (sym c.is_empty.ensures ∙ c.if-is_empty.false) in
    next-last _ _ _ (rw c.in-Last-2.is at e.bytes) (e.end c.in-Last-2.is) e.none (omega (arith, same, short)) (omega (arith, same, some))
