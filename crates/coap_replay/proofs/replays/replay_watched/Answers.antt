use Rattle.std.proofs.Common.{◌≡◌, ◌∙◌, ℕ, ◌+◌, Ok, Err, arith, inl, subst, sym}
use Rattle.coap_replay.specs.declared.buffers.Buffers.{Buffers}
use Rattle.coap_lines.specs.Turns.{turn_seen}
use Rattle.coap_replay.specs.Buffers.{HaveRoom}
use Rattle.std.proofs.lemmas.Result.{err_from_is_err_and}
use Rattle.coap_replay.specs.declared.replays.Asked.TheVariants.{Skip, Do}
use Rattle.coap_replay.proofs.Replaying.{at-start, ends-at-start, ends-none, by-clock, may-by-clock, as-asked, as-may, ends-refused, ends-enough, ends-turn, goes-on, goes-further}
use Rattle.coap_replay.proofs.Causes.{as-more, cause-read, cause-written, unread, unwritten}
use Rattle.coap_replay.proofs.Telling.{ends-with, ends-without, told-more, told-none}
use Rattle.coap_replay.proofs.replays.replay_watched.Goals.{in-Skip, in-Do+in_ok-do_turn-in-Do+else-count-turns}
use Rattle.coap_replay.proofs.replays.replay_watched.Goals as goal

-- the room for a limit that is the same number
same-room : (b : Buffers) (m n : ℕ) → m ≡ n → HaveRoom m b → HaveRoom n b
same-room b m n same room = subst (λ (k : ℕ). HaveRoom k b) same room

pub loop-read-init : goal.loop-read-init
loop-read-init g c = record {
  at = at-start _ _ _;
  told = told-none g.V.Watch.sees c.args.core.now c.args.watcher.now;
  few = omega (arith, c.if-turns-eq0.false);
  lines = omega arith;
  room = same-room c.in-Ok.buffers _ _ c.datagram.ensures.exact c.in-Ok.ensures;
  reader = λ before. before;
  writer = λ before. before;
}

pub next_asked-requires-clause-line : goal.next_asked-requires-clause-line
next_asked-requires-clause-line g c = c.loop-read.invariant.room.line

pub next_asked-requires-clause-input : goal.next_asked-requires-clause-input
next_asked-requires-clause-input g c = c.loop-read.invariant.room.input

pub returns-in_err-next_asked : goal.returns-in_err-next_asked
returns-in_err-next_asked g c =
    let v = c.loop-read.core in
    let e = c.in_err-next_asked in
    let p = err_from_is_err_and c.from_residual.result c.from_residual.ensures.1 in
    let asks = by-clock (c.loop-read.read + 1) v _ (g.R.Read.remaining c.next_asked.new.input.reader) c.next_asked.new.buffers.input.bytes (Err e.field-0.0) c.last.result c.events.result c.last.ensures.exact c.events.ensures.exact e.ensures.asked in
    let may = may-by-clock v c.next_asked.new.buffers.input.bytes (Err e.field-0.0) c.last.result c.events.result c.last.ensures.exact c.events.ensures.exact e.ensures.may in
    record { replayed = rw (p.1, p.2) (ends-refused _ _ _ _ (g.R.Read.remaining c.next_asked.new.input.reader) _ _ c.next_asked.new.buffers.input.bytes _ _ _ c.loop-read.invariant.at c.loop-read.invariant.few e.field-0.0 asks may); told = rw (p.1, p.2) (ends-without g.V.Watch.sees ℕ _ _ _ _ (Err e.field-0.0) c.loop-read.invariant.told); cause = rw (p.1, p.2) (cause-read e.field-0.0 _ _ e.ensures.cause); reader = rw (p.1, p.2) (λ before. e.ensures.reader); writer = rw (p.1, p.2) (λ before. c.loop-read.invariant.writer before ∙ sym (unwritten e.field-0.0 _ e.ensures.cause)) }

pub returns-in_err-do_turn-in-Do : goal.returns-in_err-do_turn-in-Do
returns-in_err-do_turn-in-Do g c =
    let v = c.loop-read.core in
    let a = c.in_ok-next_asked in
    let p = err_from_is_err_and c.from_residual-in_err-do_turn-in-Do.result c.from_residual-in_err-do_turn-in-Do.ensures.1 in
    let asks = as-asked (c.loop-read.read + 1) v.last v.events _ _ c.next_asked.new.buffers.input.bytes a.field-0 (Do c.in-Do.turn) c.in-Do.is (by-clock (c.loop-read.read + 1) v _ _ c.next_asked.new.buffers.input.bytes (Ok a.field-0) c.last.result c.events.result c.last.ensures.exact c.events.ensures.exact a.ensures.asked) in
    let may = as-may v.last v.events c.next_asked.new.buffers.input.bytes a.field-0 (Do c.in-Do.turn) c.in-Do.is (may-by-clock v c.next_asked.new.buffers.input.bytes (Ok a.field-0) c.last.result c.events.result c.last.ensures.exact c.events.ensures.exact a.ensures.may) in
    record { replayed = rw (p.1, p.2) (ends-turn _ _ _ _ _ _ _ c.next_asked.new.buffers.input.bytes _ _ _ c.loop-read.invariant.at c.loop-read.invariant.few c.in-Do.turn asks may _ _ c.in_err-do_turn-in-Do.field-0.0 c.in_err-do_turn-in-Do.ensures.does); told = rw (p.1, p.2) (ends-with g.V.Watch.sees ℕ _ _ _ _ c.do_turn.new.core c.do_turn.new.watcher (turn_seen c.in-Do.turn c.next_asked.new.buffers.input.bytes) c.in_err-do_turn-in-Do.field-0.0 c.loop-read.invariant.told c.in_err-do_turn-in-Do.ensures.told); cause = rw (p.1, p.2) (cause-written c.in_err-do_turn-in-Do.field-0.0 c.next_asked.new.input.failed c.do_turn.new.output.failed c.in_err-do_turn-in-Do.ensures.cause); reader = rw (p.1, p.2) (λ before. a.ensures.reader ∙ sym (unread c.in_err-do_turn-in-Do.field-0.0 _ c.in_err-do_turn-in-Do.ensures.cause)); writer = rw (p.1, p.2) (λ before. c.in_err-do_turn-in-Do.ensures.writer (c.loop-read.invariant.writer before)) }

pub returns-then-count-turns : goal.returns-then-count-turns
returns-then-count-turns g c =
    let v = c.loop-read.core in
    let a = c.in_ok-next_asked in
    let asks = as-asked (c.loop-read.read + 1) v.last v.events _ _ c.next_asked.new.buffers.input.bytes a.field-0 (Do c.in-Do.turn) c.in-Do.is (by-clock (c.loop-read.read + 1) v _ _ c.next_asked.new.buffers.input.bytes (Ok a.field-0) c.last.result c.events.result c.last.ensures.exact c.events.ensures.exact a.ensures.asked) in
    let may = as-may v.last v.events c.next_asked.new.buffers.input.bytes a.field-0 (Do c.in-Do.turn) c.in-Do.is (may-by-clock v c.next_asked.new.buffers.input.bytes (Ok a.field-0) c.last.result c.events.result c.last.ensures.exact c.events.ensures.exact a.ensures.may) in
    let does = c.in_ok-do_turn-in-Do.ensures.does in
    record { replayed = ends-enough _ _ _ _ _ _ _ c.next_asked.new.buffers.input.bytes _ _ _ c.loop-read.invariant.at c.loop-read.invariant.few c.in-Do.turn asks may does.0 _ _ does.1 does.2 c.if-count-turns.true; told = told-more g.V.Watch.sees _ _ _ _ c.do_turn.new.core c.do_turn.new.watcher (turn_seen c.in-Do.turn c.next_asked.new.buffers.input.bytes) c.loop-read.invariant.told c.in_ok-do_turn-in-Do.ensures.told; cause = tt; reader = λ before. a.ensures.reader; writer = λ before. c.in_ok-do_turn-in-Do.ensures.writer (c.loop-read.invariant.writer before) }

pub loop-read-preserved : goal.loop-read-preserved
loop-read-preserved g c =
    let i = c.loop-read.invariant in
    let v = c.loop-read.core in
    let a = c.in_ok-next_asked in
    elim c.match-branch-2.branch [
      | in-Skip w ↦
          let asks = as-asked (c.loop-read.read + 1) v.last v.events _ _ c.next_asked.new.buffers.input.bytes a.field-0 Skip w.in-Skip.is (by-clock (c.loop-read.read + 1) v _ _ c.next_asked.new.buffers.input.bytes (Ok a.field-0) c.last.result c.events.result c.last.ensures.exact c.events.ensures.exact a.ensures.asked) in
          rw (w.core-is, w.output-is, w.watcher-is, w.count-is, w.buffers-is) (record { told = i.told; at = goes-on _ _ _ _ _ _ _ c.next_asked.new.buffers.input.bytes _ _ _ i.at i.few asks; few = i.few; lines = as-more _ a.field-0 Skip w.in-Skip.is a.ensures.few; room = c.next_asked.ensures.room _ i.room; reader = λ before. a.ensures.reader; writer = i.writer })
      | in-Do+in_ok-do_turn-in-Do+else-count-turns w ↦
          let asks = as-asked (c.loop-read.read + 1) v.last v.events _ _ c.next_asked.new.buffers.input.bytes a.field-0 (Do w.in-Do.turn) w.in-Do.is (by-clock (c.loop-read.read + 1) v _ _ c.next_asked.new.buffers.input.bytes (Ok a.field-0) c.last.result c.events.result c.last.ensures.exact c.events.ensures.exact a.ensures.asked) in
          let may = as-may v.last v.events c.next_asked.new.buffers.input.bytes a.field-0 (Do w.in-Do.turn) w.in-Do.is (may-by-clock v c.next_asked.new.buffers.input.bytes (Ok a.field-0) c.last.result c.events.result c.last.ensures.exact c.events.ensures.exact a.ensures.may) in
          let does = w.in_ok-do_turn-in-Do.ensures.does in
          rw (w.core-is, w.output-is, w.watcher-is, w.count-is, w.buffers-is) (record { told = told-more g.V.Watch.sees _ _ _ _ w.do_turn.new.core w.do_turn.new.watcher (turn_seen w.in-Do.turn c.next_asked.new.buffers.input.bytes) i.told w.in_ok-do_turn-in-Do.ensures.told; at = goes-further _ _ _ _ _ _ _ c.next_asked.new.buffers.input.bytes _ _ _ i.at i.few w.in-Do.turn asks may does.0 _ _ does.1 does.2; few = omega (arith, i.few, w.if-count-turns.false); lines = as-more _ a.field-0 (Do w.in-Do.turn) w.in-Do.is a.ensures.few; room = w.do_turn.ensures.room; reader = λ before. a.ensures.reader; writer = λ before. w.in_ok-do_turn-in-Do.ensures.writer (i.writer before) })
    ]

-- no input has so many lines
pub unreachable-requires : goal.unreachable-requires
unreachable-requires g c = omega (arith, c.loop-read.invariant.lines, c.loop-read.auto.read-end, c.loop-read-test.false)

-- nothing is to be done
pub returns-then-turns-eq0 : goal.returns-then-turns-eq0
returns-then-turns-eq0 g c = record { replayed = rw c.if-turns-eq0.true (ends-none _ _ _); told = told-none g.V.Watch.sees c.args.core.now c.args.watcher.now; cause = tt; reader = λ before. before; writer = λ before. before }

-- memory runs out before the first line
pub returns-in_default : goal.returns-in_default
returns-in_default g c = record { replayed = ends-at-start _ _ _ _; told = inl (told-none g.V.Watch.sees c.args.core.now c.args.watcher.now); cause = tt; reader = λ before. before; writer = λ before. before }

pub do_turn-requires-clause-room : goal.do_turn-requires-clause-room
do_turn-requires-clause-room g c = c.next_asked.ensures.room _ c.loop-read.invariant.room
