use Rattle.std.proofs.Common.{◌≡◌, ◌+◌, ◌<◌, [], ◌∷◌, ◌++◌, length, sym, ap, subst, ◌∙◌, arith}
use Rattle.circular_buffer.specs.Buffer.{Buffer, buffer}
use Rattle.coap_dedup.specs.declared.record.Record.{Record}
use Rattle.coap_dedup.specs.Indexing.{AreNumbersOf}
use Rattle.coap_dedup.specs.Records.{Records, AreRecords, living_at, with_kept}
use Rattle.coap_dedup.proofs.Kept.{AreRecords-kept, in_ring, ring-kept, ring-put}
use Rattle.coap_dedup.proofs.records.Records.keep_in_room.Goals as goal
use Rattle.coap_dedup.proofs.records.Records.keep_in_room.Goals.{Joined-try_push_back}

pub add-requires-clause-room : goal.add-requires-clause-room
add-requires-clause-room c = omega (arith, c.self.invariant.are.within, c.self.invariant.room)

pub invariant_of-self : goal.invariant_of-self
invariant_of-self c = record { are = c.self.invariant.are; numbers = c.in_err-add.ensures.err; room = c.add.ensures.capacity ∙ c.self.invariant.room }

-- including for the record that was made
room_inside : (c : Joined-try_push_back) → length (living_at c.new-record.result.at (in_ring c.self.inside.ring c.self.inside.per_client c.self.inside.lifetime)) < c.self.inside.ring.capacity
room_inside c =
    subst (λ (x : Record). length (living_at x.at (in_ring c.self.inside.ring c.self.inside.per_client c.self.inside.lifetime)) < c.self.inside.ring.capacity) (sym c.new-record.ensures)
    (subst (λ (t : Records). length (living_at c.args.now t) < t.limit) (sym c.self.view_is) c.requires.room)

-- behind them the record is put
put : (c : Joined-try_push_back) → c.try_push_back.new.self ≡ buffer (c.release_dead.new.ring.items ++ c.new-record.result ∷ []) c.release_dead.new.ring.capacity
put c = ring-put c.try_push_back.result c.self.inside.ring c.release_dead.new.ring c.try_push_back.new.self c.self.inside.per_client c.self.inside.lifetime c.new-record.result c.release_dead.ensures.left c.try_push_back.ensures.variant c.try_push_back.ensures.ok (room_inside c)

-- one more record is kept
kept : (c : Joined-try_push_back) → in_ring c.try_push_back.new.self c.self.inside.per_client c.self.inside.lifetime ≡ with_kept (record { from = c.args.from; id = c.args.id; at = c.args.now; reply = c.args.reply }) c.args.self.now
kept c =
    ring-kept c.try_push_back.result c.self.inside.ring c.release_dead.new.ring c.try_push_back.new.self c.self.inside.per_client c.self.inside.lifetime c.new-record.result c.release_dead.ensures.left c.try_push_back.ensures.variant c.try_push_back.ensures.ok (room_inside c)
    ∙ ap (λ (x : Record). with_kept x (in_ring c.self.inside.ring c.self.inside.per_client c.self.inside.lifetime)) c.new-record.ensures
    ∙ ap (with_kept (record { from = c.args.from; id = c.args.id; at = c.args.now; reply = c.args.reply })) c.self.view_is

-- and the records are within the limit, in order and of different messages
are : (c : Joined-try_push_back) → AreRecords (in_ring c.try_push_back.new.self c.self.inside.per_client c.self.inside.lifetime)
are c =
    subst AreRecords (sym (kept c))
    (AreRecords-kept (record { from = c.args.from; id = c.args.id; at = c.args.now; reply = c.args.reply }) c.args.self.now (subst AreRecords c.self.view_is c.self.invariant.are) c.requires.new c.requires.in_order c.requires.room c.requires.client_room)

pub invariant_of-self-2 : goal.invariant_of-self-2
invariant_of-self-2 c = record {
  are = are c;
  numbers =
      subst (λ (b : Buffer Record). AreNumbersOf c.release_dead.new.numbers b.items)
      (sym (put c))
      c.release_dead.ensures.numbered;
  room = c.release_dead.ensures.capacity ∙ c.add.ensures.capacity ∙ c.self.invariant.room ∙ ap (λ n. n + 1) (sym (ap (λ (b : Buffer Record). b.capacity) (put c) ∙ ap (λ (b : Buffer Record). b.capacity) c.release_dead.ensures.left));
}

pub returns-clause-ok : goal.returns-clause-ok
returns-clause-ok c = kept c

pub returns-clause-sound : goal.returns-clause-sound
returns-clause-sound c = are c

pub returns-clause-err : goal.returns-clause-err
returns-clause-err c = tt

pub returns-in_err-add-clause-sound : goal.returns-in_err-add-clause-sound
returns-in_err-add-clause-sound c = c.self.invariant.are
