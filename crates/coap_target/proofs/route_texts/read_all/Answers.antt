use Rattle.std.proofs.Common.{inl, inr, ⊎_elim}
use Rattle.std.proofs.lemmas.Result.{err_from_is_err_and}
use Rattle.coap_target.specs.declared.error.RouteError.TheVariants.{Unreadable}
use Rattle.coap_target.proofs.Gathering.{all_read, not_read, one_read}
use Rattle.coap_target.proofs.route_texts.read_all.Goals as goal

pub loop-entry-preserved : goal.loop-entry-preserved
loop-entry-preserved g c =
    rw c.in_ok-push.ensures.ok
    (one_read (g.R.Reader.part_of c.args.reader.now) Unreadable c.args.entries.now c.loop-entry.parts c.loop-entry.entry-index c.loop-entry.invariant c.entry-item.result c.loop-entry-test.true c.entry-item.is c.in_ok-read.field-0 c.in_ok-read.ensures)

pub returns : goal.returns
returns g c =
    rw c.shrink_to_fit.ensures
    (all_read (g.R.Reader.part_of c.args.reader.now) Unreadable c.args.entries.now c.loop-entry.parts c.loop-entry.entry-index c.loop-entry.invariant c.loop-entry-test.false)

pub returns-in_err-read : goal.returns-in_err-read
returns-in_err-read g c =
    let p = err_from_is_err_and c.from_residual.result c.from_residual.ensures.1 in
    rw (p.1, p.2)
    (⊎_elim
    (λ memory. inl memory)
    (λ unread. inr (not_read (g.R.Reader.part_of c.args.reader.now) Unreadable c.args.entries.now c.loop-entry.parts c.loop-entry.entry-index c.loop-entry.invariant c.entry-item.result c.loop-entry-test.true c.entry-item.is _ unread))
    c.in_err-read.ensures)
