use Rattle.std.proofs.Common.{◌≡◌, ◌++◌, ◌∷◌, [], rules}
use Rattle.coap_lines.specs.Lines.{ended}
use Rattle.coap_recording.specs.Header.{since_line}
use Rattle.coap_recording.proofs.Heading.{since-made, since-short, skips-since}
use Rattle.coap_recording.proofs.header.put_since.Goals as goal

pub returns-clause-exact : goal.returns-clause-exact
returns-clause-exact c =
    since-made c.args.header.now.items c.extend_from_slice.new.self.items c.put_word.new.out.items c.extend_from_slice-2.new.self.items c.args.date.now
    c.in_ok-extend_from_slice.ensures.items (rw c.as_bytes.ensures.value at c.in_ok-put_word.ensures) c.in_ok-extend_from_slice-2.ensures.items

pub returns-clause-skipped : goal.returns-clause-skipped
returns-clause-skipped c = λ lines are.
    skips-since lines c.args.header.now.items c.extend_from_slice-2.new.self.items c.args.date.now are
    (since-made c.args.header.now.items c.extend_from_slice.new.self.items c.put_word.new.out.items c.extend_from_slice-2.new.self.items c.args.date.now
    c.in_ok-extend_from_slice.ensures.items (rw c.as_bytes.ensures.value at c.in_ok-put_word.ensures) c.in_ok-extend_from_slice-2.ensures.items)
    (since-short c.args.header.now.items c.extend_from_slice.new.self.items c.put_word.new.out.items c.args.date.now c.len.result c.len-begin.result
    c.in_ok-extend_from_slice.ensures.items (rw c.as_bytes.ensures.value at c.in_ok-put_word.ensures) (search rules) (search rules) c.if-len-begin-gt-LONGEST.false)
