use Rattle.std.proofs.Common.{sym, ◌∙◌}
use Rattle.coap_lines.proofs.HexTexts.{hyphen-read, front-read, short-none}
use Rattle.coap_lines.proofs.reading.datagram.read_bytes.Goals as goal

pub returns-then-eq-clause-read : goal.returns-then-eq-clause-read
returns-then-eq-clause-read c = rw c.clear.ensures (hyphen-read c.args.text.now (sym (rw c.as_slice.ensures at c.eq.ensures) ∙ c.if-eq.true))

pub returns-then-text-lt2-clause-read : goal.returns-then-text-lt2-clause-read
returns-then-text-lt2-clause-read c = short-none c.args.text.now (sym (rw c.as_slice.ensures at c.eq.ensures) ∙ c.if-eq.false) c.if-text-lt2.true

pub returns-clause-read : goal.returns-clause-read
returns-clause-read c =
    rw c.truncate.ensures (front-read c.args.text.now c.places.result.now c.read_digits-read.new.places c.read_digits-read.result (sym (rw c.as_slice.ensures at c.eq.ensures) ∙ c.if-eq.false) c.if-text-lt2.false c.read_digits-read.ensures.room c.read_digits-read.ensures.read)
