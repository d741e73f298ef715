use Rattle.std.proofs.Common.{◌≡◌, true, false, [], Some, None, sym}
use Rattle.coap_lines.specs.Lines.{is_skipped}
use Rattle.coap_lines.specs.Turns.{turn_of, turn_seen}
use Rattle.coap_replay.proofs.Asking.{asks-end, asks-long, asks-many, asks-skip, asks-bad, asks-full, asks-turn, asks-unread, may-be-done}
use Rattle.coap_replay.proofs.replays.next_asked.Goals as goal

pub returns-in-Ok-End-clause-asked : goal.returns-in-Ok-End-clause-asked
returns-in-Ok-End-clause-asked g c = asks-end c.args.number c.args.last c.args.events _ _ c.next_line.new.line.items [] (rw c.in-Ok-End.field-0-is at c.in-Ok-End.ensures.read)

pub returns-in-Ok-TooLong-clause-asked : goal.returns-in-Ok-TooLong-clause-asked
returns-in-Ok-TooLong-clause-asked g c = asks-long c.args.number c.args.last c.args.events _ _ c.next_line.new.line.items [] (rw c.in-Ok-TooLong.field-0-is at c.in-Ok-TooLong.ensures.read)

pub returns-then-number-gt-LAST_LINE-clause-asked : goal.returns-then-number-gt-LAST_LINE-clause-asked
returns-then-number-gt-LAST_LINE-clause-asked g c = asks-many c.args.number c.args.last c.args.events _ _ c.next_line.new.line.items [] (rw c.in-Ok-Line.field-0-is at c.in-Ok-Line.ensures.read) c.if-number-gt-LAST_LINE.true

pub returns-then-is_skipped-clause-asked : goal.returns-then-is_skipped-clause-asked
returns-then-is_skipped-clause-asked g c =
    let skipped : is_skipped c.next_line.new.line.items ≡ true = rw (← c.deref.ensures.value) (sym c.if-is_skipped.ensures) in
    asks-skip c.args.number c.args.last c.args.events _ _ c.next_line.new.line.items c.args.buffers.now.input.bytes (rw c.in-Ok-Line.field-0-is at c.in-Ok-Line.ensures.read) c.if-number-gt-LAST_LINE.false skipped

pub returns-in-Some-clause-asked : goal.returns-in-Some-clause-asked
returns-in-Some-clause-asked g c =
    let comes = rw c.in-Ok-Line.field-0-is at c.in-Ok-Line.ensures.read in
    let other : is_skipped c.next_line.new.line.items ≡ false = rw (← c.deref.ensures.value) (sym c.if-is_skipped.ensures) in
    let is : turn_of c.args.last c.next_line.new.line.items ≡ Some (turn_seen c.in-Some.turn c.read_turn.new.into.bytes) = rw (← c.deref-2.ensures.value) c.in-Some.ensures.read in
    asks-turn c.args.number c.args.last c.args.events _ _ c.next_line.new.line.items c.read_turn.new.into.bytes c.in-Some.turn comes c.if-number-gt-LAST_LINE.false other is c.if-events-ge-MOST_EVENTS.false

pub returns-in-Some-clause-may : goal.returns-in-Some-clause-may
returns-in-Some-clause-may g c =
    let is : turn_of c.args.last c.next_line.new.line.items ≡ Some (turn_seen c.in-Some.turn c.read_turn.new.into.bytes) = rw (← c.deref-2.ensures.value) c.in-Some.ensures.read in
    may-be-done c.args.last c.args.events c.next_line.new.line.items (turn_seen c.in-Some.turn c.read_turn.new.into.bytes) is c.if-events-ge-MOST_EVENTS.false

pub returns-then-events-ge-MOST_EVENTS-clause-asked : goal.returns-then-events-ge-MOST_EVENTS-clause-asked
returns-then-events-ge-MOST_EVENTS-clause-asked g c =
    let comes = rw c.in-Ok-Line.field-0-is at c.in-Ok-Line.ensures.read in
    let other : is_skipped c.next_line.new.line.items ≡ false = rw (← c.deref.ensures.value) (sym c.if-is_skipped.ensures) in
    asks-full c.args.number c.args.last c.args.events _ _ c.next_line.new.line.items [] comes c.if-number-gt-LAST_LINE.false other c.if-events-ge-MOST_EVENTS.true

pub returns-in-Err-clause-asked : goal.returns-in-Err-clause-asked
returns-in-Err-clause-asked g c = asks-unread c.args.number c.args.last c.args.events _ _ c.next_line.new.line.items [] c.in-Err.ensures.begun

pub returns-in-None-clause-asked : goal.returns-in-None-clause-asked
returns-in-None-clause-asked g c =
    let comes = rw c.in-Ok-Line.field-0-is at c.in-Ok-Line.ensures.read in
    let other : is_skipped c.next_line.new.line.items ≡ false = rw (← c.deref.ensures.value) (sym c.if-is_skipped.ensures) in
    let nothing : turn_of c.args.last c.next_line.new.line.items ≡ None = rw (← c.deref-2.ensures.value) c.in-None.ensures.read in
    asks-bad c.args.number c.args.last c.args.events _ _ c.next_line.new.line.items [] comes c.if-number-gt-LAST_LINE.false other nothing
